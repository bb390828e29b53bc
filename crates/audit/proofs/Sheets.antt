-- What a sheet may say of an engine, and what the small maps show.
-- Assumes nothing.
use mathlib.Core.Path.{◌≡◌, sym, ap, subst}
use mathlib.Core.Bool.{Bool, true}
use mathlib.Core.List.{List, [], ◌∷◌}
use Prim.Native.Nat.{ℕ}
use lib.IntN.{ℤ, pos, negsuc}
use lib.ListN.{length, get_or, replicate}
use Rattle.clean.specs.None.{none_i64}
use Rattle.walks.specs.Pigeon.{In, here}
use Rattle.net.specs.Net.{Net}
use Rattle.dijkstra.specs.Promise as Dijkstra
use Rattle.bellman_ford.specs.Promise as BellmanFord
use Rattle.floyd_warshall.specs.Promise as FloydWarshall
use Rattle.johnson.specs.Promise as Johnson
use Rattle.a_star.specs.Promise as AStar
use Rattle.a_star.specs.Given.{path_in}
use Rattle.mapfile.specs.declared.Engine.{Engine}
use Rattle.mapfile.specs.declared.Engine.TheVariants as asked
use Rattle.mapfile.specs.declared.Question.{Question}
use Rattle.mapfile.specs.declared.Stage.TheVariants.{Asked}
use Rattle.mapfile.specs.Load.{State}
use Rattle.table.specs.Links.{link_of}
use Rattle.table.specs.Lent.{Ints, ints_now, ints_put}
use Rattle.table.specs.Feeds.{feed}
use Rattle.text.specs.Text.{answer_text}
use Rattle.answers.specs.Answers.{Shown}
use Rattle.sheet.specs.Sheet.{read_file, Answer, dijkstra, bellman_ford, a_star, floyd_warshall, johnson, hops, hops64, dijkstra_path}
use Rattle.sheet.specs.Numbers.{Possible}
use Rattle.sheet.proofs.Numbers.{possible}
use Rattle.promises.specs.Small.{empty, loop, behind, pair, apart, detour, starting}
use Rattle.promises.proofs.Small.{small_maps}

-- ---- what a sheet says of an answer is said of a number that stands in the engine's line
abbrev Line : Engine → ℕ → Type 0
Line asked.Dijkstra n = In n (0 ∷ 3 ∷ 6 ∷ [])
Line asked.BellmanFord n = In n (0 ∷ 7 ∷ [])
Line asked.AStar n = In n (0 ∷ 3 ∷ 4 ∷ 6 ∷ [])
Line asked.FloydWarshall n = In n (0 ∷ 7 ∷ [])
Line asked.Johnson n = In n (0 ∷ 7 ∷ [])
Line asked.Hops n = In n (0 ∷ [])
Line asked.DijkstraPath n = In n (0 ∷ 3 ∷ 6 ∷ [])

abbrev Told : Engine → List ℕ → Type 0
Told engine text = (n : ℕ) × Line engine n × (l : List ℕ) × (text ≡ answer_text n l)

told : {X : Type 0} {gives : ℕ → X → Type 0} {lines : X → List ℕ} {text : List ℕ} (k engine : Engine) → engine ≡ k → (x : Shown gives lines text) → Line k x.number → Told engine text
told {lines = lines} k engine e x i = (x.number, subst (λ (g : Engine). Line g x.number) (sym e) i, lines x.left, x.says)

told_of : {s : State} {engine : Engine} {source target : ℕ} {text : List ℕ} (a : Answer s engine source target text) → Possible a → Told engine text
told_of {engine = engine} (dijkstra e x) i = told asked.Dijkstra engine e x i
told_of {engine = engine} (bellman_ford e x) i = told asked.BellmanFord engine e x i
told_of {engine = engine} (a_star e x) i = told asked.AStar engine e x i
told_of {engine = engine} (floyd_warshall e x) i = told asked.FloydWarshall engine e x i
told_of {engine = engine} (johnson e x) i = told asked.Johnson engine e x i
told_of {engine = engine} (hops e f x) i = told asked.Hops engine e x (here i)
told_of {engine = engine} (hops64 e f x) i = told asked.Hops engine e x (here i)
told_of {engine = engine} (dijkstra_path e x) i = told asked.DijkstraPath engine e x i

pub engine_tells : (file text : List ℕ) (source target : ℕ) {q : Question} → (read_file file).reading.stage ≡ Asked q → Answer (read_file file) q.engine source target text → Told q.engine text
engine_tells file text source target ask a = told_of a (possible file ask a)

-- ---- the small maps: there are buffers with which every allowed answer has the number k and xs in front of the slice
abbrev Runs : {B : Type 0} → (B → B → ℕ → Type 0) → (B → List ℤ) → ℕ → List ℤ → Type 0
Runs {B} promise slice k xs = (b : B) × ((e : B) (n : ℕ) → promise b e n → (n ≡ k) × (slice e ≡ starting xs (slice b)))

runs : {B N : Type 0} {long : B → Bool} {Allows Says : B → B → N → Type 0} → ((b : B) × (long b ≡ true)) × ((b e : B) (n : N) → long b ≡ true → Allows b e n → Says b e n)
    → (b : B) × ((e : B) (n : N) → Allows b e n → Says b e n)
runs x = (x.0.0, λ e n p. x.1 x.0.0 e n x.0.1 p)

module _ (g : Net ℤ) where
  abbrev DijkstraRuns : ℕ → ℕ → List ℤ → Type 0
  DijkstraRuns s = Runs (Dijkstra.Promise g s) (λ b. b.dist)

  abbrev BellmanFordRuns : ℕ → ℕ → List ℤ → Type 0
  BellmanFordRuns s = Runs (BellmanFord.Promise g s) (λ b. b.dist)

  abbrev FloydWarshallRuns : ℕ → List ℤ → Type 0
  FloydWarshallRuns = Runs {B = List ℤ × List ℕ} (λ b e. FloydWarshall.Promise g b.0 b.1 e.0 e.1) (λ b. b.0)

  abbrev JohnsonRuns : ℕ → List ℤ → Type 0
  JohnsonRuns = Runs {B = List ℤ × Johnson.Scratch} (λ b e. Johnson.Promise g b.0 b.1 e.0 e.1) (λ b. b.0)

  abbrev AStarRuns : AStar.Question → ℤ → List ℕ → Type 0
  AStarRuns q c l = (b : AStar.Buffers) × ((e : AStar.Buffers) (r : AStar.Answer) → AStar.Promise g q b e r → (r ≡ AStar.answer_of 0 c (length l)) × (path_in e r ≡ l))

pub small_first : (d : Bool) (marks xs ys : List ℕ) (cs : List ℤ) → FloydWarshallRuns (empty d marks xs ys cs) 0 []
small_first d marks xs ys cs = runs (small_maps.s1 d marks xs ys cs)

pub small_loops :
    DijkstraRuns (loop (negsuc 0)) 0 6 (none_i64 ∷ []) × BellmanFordRuns (loop (negsuc 0)) 0 7 (none_i64 ∷ []) × FloydWarshallRuns (loop (negsuc 0)) 7 (none_i64 ∷ [])
    × JohnsonRuns (loop (negsuc 0)) 7 (none_i64 ∷ [])
    × DijkstraRuns (loop (pos 3)) 0 0 (pos 0 ∷ []) × BellmanFordRuns (loop (pos 3)) 0 0 (pos 0 ∷ []) × FloydWarshallRuns (loop (pos 3)) 0 (pos 0 ∷ []) × JohnsonRuns (loop (pos 3)) 0 (pos 0 ∷ [])
small_loops =
    let s = small_maps in (
      runs s.s2_dijkstra,
      runs s.s2_bellman_ford,
      runs s.s2_floyd_warshall,
      runs s.s2_johnson,
      runs s.s3_dijkstra,
      runs s.s3_bellman_ford,
      runs s.s3_floyd_warshall,
      runs s.s3_johnson,
    )

pub small_others :
    DijkstraRuns behind 0 6 (none_i64 ∷ none_i64 ∷ none_i64 ∷ []) × DijkstraRuns behind 2 0 (none_i64 ∷ none_i64 ∷ pos 0 ∷ []) × BellmanFordRuns pair 0 7 (none_i64 ∷ none_i64 ∷ [])
    × BellmanFordRuns apart 0 0 (pos 0 ∷ pos 2 ∷ none_i64 ∷ none_i64 ∷ []) × JohnsonRuns apart 7 (replicate 16 none_i64)
    × AStarRuns detour (AStar.question_of 0 2 (pos 0 ∷ pos 1 ∷ negsuc 99 ∷ [])) (pos 10) (0 ∷ 2 ∷ []) × AStarRuns detour (AStar.question_of 0 2 (pos 0 ∷ pos 1 ∷ pos 0 ∷ [])) (pos 2) (0 ∷ 1 ∷ 2 ∷ [])
    × ((feed (ints_put true 2 (1 ∷ 1 ∷ [])) (ints_now 0 0 (0 ∷ 0 ∷ []) (0 ∷ 0 ∷ []) (pos 0 ∷ pos 0 ∷ [])) (link_of 1 0 (pos 7) ∷ link_of 1 0 (pos 4) ∷ [])).costs ≡ pos 4 ∷ pos 0 ∷ [])
small_others =
    let s = small_maps in (runs s.s4_from_0, runs s.s4_from_2, runs s.s5, runs s.s6_bellman_ford, runs s.s6_johnson, runs s.s7, runs s.s8, ap (λ (x : Ints). x.costs) s.s9)
