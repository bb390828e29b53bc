-- The bag of document 01 on its small maps that ask a search (S2, S3, S4, S7, S8), by computation.
use mathlib.Core.Path.{◌≡◌, refl}
use mathlib.Core.List.{List, [], ◌∷◌}
use mathlib.Core.Option.{Option, none, some}
use Prim.Native.Nat.{ℕ}
use lib.IntN.{ℤ, pos, negsuc}
use lib.ListN.{get_or}
use Rattle.pending.specs.Setting.{End}
use Rattle.pending.specs.Literal.{start, Ends, run}
use Rattle.pending.specs.Ints.{dijkstra, a_star}
use Rattle.pending.proofs.Literal.{run_ends}

-- neighbour lists of a map, by index
abbrev pub rows : List (List (ℕ × ℤ)) → ℕ → List (ℕ × ℤ)
rows l u = get_or l u []

-- S2
unfoldable pub s2 : ℕ → List (ℕ × ℤ)
s2 = rows (((0, negsuc 0) ∷ []) ∷ [])

-- S3
unfoldable pub s3 : ℕ → List (ℕ × ℤ)
s3 = rows (((0, pos 3) ∷ []) ∷ [])

-- S4
unfoldable pub s4 : ℕ → List (ℕ × ℤ)
s4 = rows (((1, pos 5) ∷ (2, pos 4) ∷ []) ∷ ((2, negsuc 1) ∷ []) ∷ [] ∷ [])

-- S7 and S8
unfoldable pub s7 : ℕ → List (ℕ × ℤ)
s7 = rows (((2, pos 10) ∷ (1, pos 1) ∷ []) ∷ ((2, pos 1) ∷ []) ∷ [] ∷ [])

-- the heuristic of S7
abbrev pub h7 : ℕ → ℤ
h7 v = get_or (pos 0 ∷ pos 1 ∷ negsuc 99 ∷ []) v (pos 0)

-- the heuristic of S8
abbrev pub h8 : ℕ → ℤ
h8 v = get_or (pos 0 ∷ pos 1 ∷ pos 0 ∷ []) v (pos 0)

-- what a search ends in on the indices 0, 1, 2: the number, distances, predecessors and kept takes
pub record Shows (e : End ℤ) (n : ℕ) (d : List (Option ℤ)) (p : List (Option ℕ)) (k : ℕ) : Type 0 where
  pub number : e.number ≡ n
  pub dist : e.dist 0 ∷ e.dist 1 ∷ e.dist 2 ∷ [] ≡ d
  pub pred : e.pred 0 ∷ e.pred 1 ∷ e.pred 2 ∷ [] ≡ p
  pub takes : e.takes ≡ k

-- what 01 says of them
pub record SmallMaps : Type 0 where
  pub s2_from_0 : (e : End ℤ) × Ends (dijkstra 0) s2 (start (dijkstra 0)) e × Shows e 6 (none ∷ none ∷ none ∷ []) (none ∷ none ∷ none ∷ []) 1
  pub s3_from_0 : (e : End ℤ) × Ends (dijkstra 0) s3 (start (dijkstra 0)) e × Shows e 0 (some (pos 0) ∷ none ∷ none ∷ []) (none ∷ none ∷ none ∷ []) 1
  pub s4_from_0 : (e : End ℤ) × Ends (dijkstra 0) s4 (start (dijkstra 0)) e × Shows e 6 (none ∷ none ∷ none ∷ []) (none ∷ none ∷ none ∷ []) 3
  pub s4_from_2 : (e : End ℤ) × Ends (dijkstra 2) s4 (start (dijkstra 2)) e × Shows e 0 (none ∷ none ∷ some (pos 0) ∷ []) (none ∷ none ∷ none ∷ []) 1
  pub s7_to_2 : (e : End ℤ) × Ends (a_star h7 0 2) s7 (start (a_star h7 0 2)) e × Shows e 0 (some (pos 0) ∷ some (pos 1) ∷ some (pos 10) ∷ []) (none ∷ some 0 ∷ some 0 ∷ []) 2
  pub s8_to_2 : (e : End ℤ) × Ends (a_star h8 0 2) s7 (start (a_star h8 0 2)) e × Shows e 0 (some (pos 0) ∷ some (pos 1) ∷ some (pos 2) ∷ []) (none ∷ some 0 ∷ some 1 ∷ []) 3

-- and it is so
pub small_maps : SmallMaps
unfolding s2 s3 s4 s7 start run
small_maps = record {
  s2_from_0 = (_, run_ends (dijkstra 0) s2 9 _ _ refl, record { number = refl; dist = refl; pred = refl; takes = refl });
  s3_from_0 = (_, run_ends (dijkstra 0) s3 9 _ _ refl, record { number = refl; dist = refl; pred = refl; takes = refl });
  s4_from_0 = (_, run_ends (dijkstra 0) s4 9 _ _ refl, record { number = refl; dist = refl; pred = refl; takes = refl });
  s4_from_2 = (_, run_ends (dijkstra 2) s4 9 _ _ refl, record { number = refl; dist = refl; pred = refl; takes = refl });
  s7_to_2 = (_, run_ends (a_star h7 0 2) s7 9 _ _ refl, record { number = refl; dist = refl; pred = refl; takes = refl });
  s8_to_2 = (_, run_ends (a_star h8 0 2) s7 9 _ _ refl, record { number = refl; dist = refl; pred = refl; takes = refl });
}
