-- The small maps S1 to S9, as one statement. S1 to S8 are over what the questions promise, those that 01 names for each map: whatever
-- buffers are lent, if they are long enough, and whatever the promise allows.
-- S9 is over what two puts leave of an empty table with room for two links.
-- Assumes nothing.
use Rattle.std.specs.Prelude.{◌≡◌, Bool, true, false, List, [], ◌∷◌, ◌++◌, ℕ, ℤ, pos, negsuc, length, drop, replicate}
use Rattle.clean.specs.None.{none_i64}
use Rattle.table.specs.Links.{link_of}
use Rattle.table.specs.Lent.{ints_now, ints_put}
use Rattle.table.specs.Feeds.{feed}
use Rattle.net.specs.Net.{Net, net_of}
use Rattle.dijkstra.specs.Promise as Dijkstra
use Rattle.bellman_ford.specs.Promise as BellmanFord
use Rattle.floyd_warshall.specs.Promise as FloydWarshall
use Rattle.johnson.specs.Promise as Johnson
use Rattle.a_star.specs.Promise as AStar
use Rattle.a_star.specs.Given.{path_in}

-- ---- the maps
-- S1: no indices, and so no links, whatever the slices hold
abbrev pub empty : Bool → List ℕ → List ℕ → List ℕ → List ℤ → Net ℤ
empty d marks xs ys cs = net_of 0 0 d marks xs ys cs

-- S2 and S3: index 0 with a self-loop
abbrev pub loop : ℤ → Net ℤ
loop c = net_of 1 1 true (1 ∷ []) (0 ∷ []) (0 ∷ []) (c ∷ [])

-- S4: 0→1 5, 1→2 -2, 0→2 4
abbrev pub behind : Net ℤ
behind = net_of 3 3 true (1 ∷ 1 ∷ 1 ∷ []) (0 ∷ 1 ∷ 0 ∷ []) (1 ∷ 2 ∷ 2 ∷ []) (pos 5 ∷ negsuc 1 ∷ pos 4 ∷ [])

-- S5: undirected 0-1 -1
abbrev pub pair : Net ℤ
pair = net_of 2 1 false (1 ∷ 1 ∷ []) (0 ∷ []) (1 ∷ []) (negsuc 0 ∷ [])

-- S6: 0→1 2, 2→3 -1, 3→2 0
abbrev pub apart : Net ℤ
apart = net_of 4 3 true (1 ∷ 1 ∷ 1 ∷ 1 ∷ []) (0 ∷ 2 ∷ 3 ∷ []) (1 ∷ 3 ∷ 2 ∷ []) (pos 2 ∷ negsuc 0 ∷ pos 0 ∷ [])

-- S7 and S8: 0→2 10, 0→1 1, 1→2 1
abbrev pub detour : Net ℤ
detour = net_of 3 3 true (1 ∷ 1 ∷ 1 ∷ []) (0 ∷ 0 ∷ 1 ∷ []) (2 ∷ 1 ∷ 2 ∷ []) (pos 10 ∷ pos 1 ∷ pos 1 ∷ [])

-- ---- what an engine gives
-- a slice with the values at its first places, the rest as it was
abbrev pub starting : List ℤ → List ℤ → List ℤ
starting xs l = xs ++ drop (length xs) l

-- some buffers are long enough; and with any that are, whatever the promise allows, the number is k and xs stands in front of the slice
abbrev pub Gives : {B : Type 0} → (B → Bool) → (B → B → ℕ → Type 0) → (B → List ℤ) → ℕ → List ℤ → Type 0
Gives {B} long promise slice k xs =
    ((b : B) × (long b ≡ true))
    × ((b e : B) (number : ℕ) → long b ≡ true → promise b e number → (number ≡ k) × (slice e ≡ starting xs (slice b)))

-- from s: the number and the distances
abbrev pub DijkstraGives : Net ℤ → ℕ → ℕ → List ℤ → Type 0
DijkstraGives g s = Gives (Dijkstra.enough g) (Dijkstra.Promise g s) (λ b. b.dist)

-- likewise
abbrev pub BellmanFordGives : Net ℤ → ℕ → ℕ → List ℤ → Type 0
BellmanFordGives g s = Gives (BellmanFord.enough g) (BellmanFord.Promise g s) (λ b. b.dist)

-- the number and the matrix; what is lent is a matrix and scratch
abbrev pub MatrixGives : {S : Type 0} → (List ℤ → S → Bool) → (List ℤ → S → List ℤ → S → ℕ → Type 0) → ℕ → List ℤ → Type 0
MatrixGives {S} long promise = Gives {B = List ℤ × S} (λ b. long b.0 b.1) (λ b e. promise b.0 b.1 e.0 e.1) (λ b. b.0)

abbrev pub FloydWarshallGives : Net ℤ → ℕ → List ℤ → Type 0
FloydWarshallGives g = MatrixGives (FloydWarshall.enough g) (FloydWarshall.Promise g)

abbrev pub JohnsonGives : Net ℤ → ℕ → List ℤ → Type 0
JohnsonGives g = MatrixGives (Johnson.enough g) (Johnson.Promise g)

-- number 0, a cost and a path from s to t with the heuristic h
abbrev pub AStarGives : Net ℤ → ℕ → ℕ → List ℤ → ℤ → List ℕ → Type 0
AStarGives g s t h d l =
    let q = AStar.question_of s t h in
    ((b : AStar.Buffers) × (AStar.enough g q b ≡ true))
    × ((b e : AStar.Buffers) (r : AStar.Answer) → AStar.enough g q b ≡ true → AStar.Promise g q b e r
    → (r ≡ AStar.answer_of 0 d (length l)) × (path_in e r ≡ l))

-- ---- the statement
pub record SmallMaps : Type 0 where
  -- S1: 0, and no entry is written
  pub s1 : (d : Bool) (marks xs ys : List ℕ) (cs : List ℤ) → FloydWarshallGives (empty d marks xs ys cs) 0 []
  -- S2: 6, and 7 where negative costs are allowed
  pub s2_dijkstra : DijkstraGives (loop (negsuc 0)) 0 6 (none_i64 ∷ [])
  pub s2_bellman_ford : BellmanFordGives (loop (negsuc 0)) 0 7 (none_i64 ∷ [])
  pub s2_floyd_warshall : FloydWarshallGives (loop (negsuc 0)) 7 (none_i64 ∷ [])
  pub s2_johnson : JohnsonGives (loop (negsuc 0)) 7 (none_i64 ∷ [])
  -- S3: distance 0
  pub s3_dijkstra : DijkstraGives (loop (pos 3)) 0 0 (pos 0 ∷ [])
  pub s3_bellman_ford : BellmanFordGives (loop (pos 3)) 0 0 (pos 0 ∷ [])
  pub s3_floyd_warshall : FloydWarshallGives (loop (pos 3)) 0 (pos 0 ∷ [])
  pub s3_johnson : JohnsonGives (loop (pos 3)) 0 (pos 0 ∷ [])
  -- S4: 6 from 0; none, none, 0 from 2
  pub s4_from_0 : DijkstraGives behind 0 6 (none_i64 ∷ none_i64 ∷ none_i64 ∷ [])
  pub s4_from_2 : DijkstraGives behind 2 0 (none_i64 ∷ none_i64 ∷ pos 0 ∷ [])
  -- S5: 7
  pub s5 : BellmanFordGives pair 0 7 (none_i64 ∷ none_i64 ∷ [])
  -- S6: 0, 2, none, none; 7 for all pairs
  pub s6_bellman_ford : BellmanFordGives apart 0 0 (pos 0 ∷ pos 2 ∷ none_i64 ∷ none_i64 ∷ [])
  pub s6_johnson : JohnsonGives apart 7 (replicate 16 none_i64)
  -- S7: cost 10, path 0 2
  pub s7 : AStarGives detour 0 2 (pos 0 ∷ pos 1 ∷ negsuc 99 ∷ []) (pos 10) (0 ∷ 2 ∷ [])
  -- S8: cost 2, path 0 1 2
  pub s8 : AStarGives detour 0 2 (pos 0 ∷ pos 1 ∷ pos 0 ∷ []) (pos 2) (0 ∷ 1 ∷ 2 ∷ [])
  -- S9: 1→0 7 put, then 1→0 4: one link, cost 4
  pub s9 : feed (ints_put true 2 (1 ∷ 1 ∷ []))
      (ints_now 0 0 (0 ∷ 0 ∷ []) (0 ∷ 0 ∷ []) (pos 0 ∷ pos 0 ∷ []))
      (link_of 1 0 (pos 7) ∷ link_of 1 0 (pos 4) ∷ [])
      ≡ ints_now 0 1 (1 ∷ 0 ∷ []) (0 ∷ 0 ∷ []) (pos 4 ∷ pos 0 ∷ [])
