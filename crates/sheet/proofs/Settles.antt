-- The sheet is settled: two texts that are allowed for a file are equal, since each engine's promise settles its answer. And engines look at no more of the ask than 01 says.
-- Assumes nothing.
use mathlib.Core.Path.{◌≡◌, refl, sym, ap, ◌∙◌, subst}
use mathlib.Core.Bool.{true, false}
use mathlib.Core.List.{List}
use Prim.Native.Nat.{ℕ, ◌≤◌, ◌<◌}
use native.Mathlib.Omega.{arith}
use lib.ListN.{length}
use Rattle.whole.proofs.Cases.{clash}
use Rattle.mapfile.specs.declared.Engine.{Engine}
use Rattle.mapfile.specs.declared.Engine.TheVariants as asked
use Rattle.mapfile.specs.declared.Question.{Question}
use Rattle.mapfile.specs.declared.Stage.TheVariants.{Asked}
use Rattle.mapfile.specs.Engines.{number_of}
use Rattle.mapfile.specs.Load.{State, state_of, broken_at, start_reading}
use Rattle.mapfile.proofs.Loads.{overlong}
use Rattle.answers.specs.Answers.{Written, zeros, zeros_i, Dijkstra, BellmanFord, AStar, FloydWarshall, Johnson, Hops, DijkstraPath}
use Rattle.answers.proofs.Settles.{written_one, dijkstra_one, bellman_ford_one, a_star_one, floyd_warshall_one, johnson_one, hops_one, dijkstra_path_one}
use Rattle.text.specs.Text.{sound_text, bad_text}
use Rattle.sheet.specs.Sheet.{read_file, int_map, float_map, Answer, dijkstra, bellman_ford, a_star, floyd_warshall, johnson, hops, hops64, dijkstra_path, Sound, Sheet, bad, sound}

-- what each engine says of its text
module _ (s : State) (source target : ℕ) (t : List ℕ) where
  abbrev Says : Engine → Type 0
  Says asked.Dijkstra = Dijkstra (int_map s) source t
  Says asked.BellmanFord = BellmanFord (int_map s) source t
  Says asked.AStar = AStar (int_map s) source target t
  Says asked.FloydWarshall = FloydWarshall (int_map s) t
  Says asked.Johnson = Johnson (int_map s) t
  Says asked.Hops = (s.reading.float ≡ false → Hops (int_map s) t) × (s.reading.float ≡ true → Hops (float_map s) t)
  Says asked.DijkstraPath = DijkstraPath (float_map s) source t

module _ {s : State} {engine : Engine} {source target : ℕ} where
  -- an answer of an engine is what that engine says
  answer_of_lem : {t : List ℕ} {n : Engine} → Answer s engine source target t → engine ≡ n → Says s source target t n
  answer_of_lem {t} (dijkstra e x) p = subst (Says s source target t) (sym e ∙ p) x
  answer_of_lem {t} (bellman_ford e x) p = subst (Says s source target t) (sym e ∙ p) x
  answer_of_lem {t} (a_star e x) p = subst (Says s source target t) (sym e ∙ p) x
  answer_of_lem {t} (floyd_warshall e x) p = subst (Says s source target t) (sym e ∙ p) x
  answer_of_lem {t} (johnson e x) p = subst (Says s source target t) (sym e ∙ p) x
  answer_of_lem {t} (hops e f x) p = subst (Says s source target t) (sym e ∙ p) ((λ _. x), λ g. absurd (clash g f))
  answer_of_lem {t} (hops64 e f x) p = subst (Says s source target t) (sym e ∙ p) ((λ g. absurd (clash f g)), λ _. x)
  answer_of_lem {t} (dijkstra_path e x) p = subst (Says s source target t) (sym e ∙ p) x

  -- so two answers are of one engine, which settles its text
  pub answer_one : {t t' : List ℕ} → Answer s engine source target t → Answer s engine source target t' → t ≡ t'
  answer_one (dijkstra e x) y = dijkstra_one x (answer_of_lem y e)
  answer_one (bellman_ford e x) y = bellman_ford_one x (answer_of_lem y e)
  answer_one (a_star e x) y = a_star_one x (answer_of_lem y e)
  answer_one (floyd_warshall e x) y = floyd_warshall_one x (answer_of_lem y e)
  answer_one (johnson e x) y = johnson_one x (answer_of_lem y e)
  answer_one (hops e f x) y = hops_one x ((answer_of_lem y e).0 f)
  answer_one (hops64 e f x) y = hops_one x ((answer_of_lem y e).1 f)
  answer_one (dijkstra_path e x) y = dijkstra_path_one x (answer_of_lem y e)

-- the lines of a sound file
pub sound_one : {s : State} {q : Question} {t t' : List ℕ} → Sound s q t → Sound s q t' → t ≡ t'
sound_one {s} {q} x y = x.says ∙ (ap (sound_text (number_of q.engine)) (answer_one x.gives y.gives) ∙ sym y.says)

-- one question is asked
pub asked_one : {q r : Question} → Asked q ≡ Asked r → q ≡ r
asked_one e = cc

-- the sheet
pub sheet_one : {file t t' : List ℕ} → Sheet file t → Sheet file t' → t ≡ t'
sheet_one (bad p x) (bad q y) = x ∙ sym y
sheet_one (bad p x) (sound q y) = cc
sheet_one (sound p x) (bad q y) = cc
sheet_one {file} {t} {t'} (sound p x) (sound {q} r y) = let e = asked_one (sym p ∙ r) in sound_one (subst (λ (k : Question). Sound (read_file file) k t) e x) y

-- so the function's result and its output are settled
pub sheet_settled : {file out after after' : List ℕ} {r r' : ℕ} → Written (Sheet file) out 0 after r → Written (Sheet file) out 0 after' r' → (after ≡ after') × (r ≡ r')
sheet_settled = written_one (λ t t' x y. sheet_one x y)

-- an overlong file, whatever its bytes are
pub overlong_sheet : {file text : List ℕ} → 16384 < length file → Sheet file text → text ≡ bad_text 16384
overlong_sheet {file} {text} h x = sheet_one x (bad (ap (λ (s : State). s.reading.stage) e) (ap (λ (s : State). bad_text s.reading.at) (sym e)))
  where
    e : read_file file ≡ state_of (broken_at 16384 start_reading) (zeros 64) (zeros 512) (zeros 512) (zeros_i 512) (zeros 512) (zeros 512)
    e = sym (overlong 16384 file (zeros 64) (zeros 512) (zeros 512) (zeros_i 512) (zeros 512) (zeros 512) h refl)

-- ---- what of the ask an engine looks at
module _ {s : State} {engine : Engine} {source target : ℕ} {t : List ℕ} where
  -- 4, 5 and 6 ignore source and target
  pub asks_all : (4 ≤ number_of engine) × (number_of engine ≤ 6) → (source' target' : ℕ) → Answer s engine source target t → Answer s engine source' target' t
  asks_all h s' t' (dijkstra e x) = absurd (omega (arith, ap number_of e))
  asks_all h s' t' (bellman_ford e x) = absurd (omega (arith, ap number_of e))
  asks_all h s' t' (a_star e x) = absurd (omega (arith, ap number_of e))
  asks_all h s' t' (floyd_warshall e x) = floyd_warshall e x
  asks_all h s' t' (johnson e x) = johnson e x
  asks_all h s' t' (hops e f x) = hops e f x
  asks_all h s' t' (hops64 e f x) = hops64 e f x
  asks_all h s' t' (dijkstra_path e x) = absurd (omega (arith, ap number_of e))

  -- 1, 2 and 7 ignore the target, and so does every engine but 3
  pub asks_source : (engine ≡ asked.AStar → ⊥) → (target' : ℕ) → Answer s engine source target t → Answer s engine source target' t
  asks_source h t' (dijkstra e x) = dijkstra e x
  asks_source h t' (bellman_ford e x) = bellman_ford e x
  asks_source h t' (a_star e x) = absurd (h e)
  asks_source h t' (floyd_warshall e x) = floyd_warshall e x
  asks_source h t' (johnson e x) = johnson e x
  asks_source h t' (hops e f x) = hops e f x
  asks_source h t' (hops64 e f x) = hops64 e f x
  asks_source h t' (dijkstra_path e x) = dijkstra_path e x
