-- What 01 promises of `dijkstra` and `a_star`, in terms of walks.
use Rattle.std.specs.Prelude.{◌≡◌, ◌⊎◌, List, ℕ, length, ℤ, ◌≤ℤ◌}
use Rattle.std.proofs.Math.Option.{none, some}
use Rattle.walks.specs.Walk.{Walk, Least}
use Rattle.walks.specs.Chain.{Chain, passed, Cheapest}
use Rattle.pending.specs.Setting.{End}
use Rattle.pending.specs.Reach.{BadInReach, Reachable, Admissible}

-- what `dijkstra`'s search from o may end in
pub record DijkstraAnswer (Arc : ℕ → ℕ → ℤ → Type 0) (o : ℕ) (e : End ℤ) : Type 0 where
  pub number : (e.number ≡ 0) ⊎ (e.number ≡ 6)
  -- 0: least totals, none exactly without a walk, no arc below zero in reach
  pub least : e.number ≡ 0 → (v : ℕ) (d : ℤ) → e.dist v ≡ some d → Least Arc o v d
  pub unreached : e.number ≡ 0 → (v : ℕ) → e.dist v ≡ none → (t : ℤ) → Walk Arc o v t → ⊥
  pub clean : e.number ≡ 0 → BadInReach Arc o → ⊥
  -- the predecessors lead to the source, by arcs that meet the distances
  pub chain : e.number ≡ 0 → (v : ℕ) (d : ℤ) → e.dist v ≡ some d → Chain Arc o e.dist e.pred v
  -- each index in reach was taken once: as many takes as a list of them is long
  pub takes : e.number ≡ 0 → (l : List ℕ) × Reachable Arc o l × (e.takes ≡ length l)
  -- 6: an arc below zero leaves an index in reach; blank
  pub refused_why : e.number ≡ 6 → BadInReach Arc o
  pub blank : e.number ≡ 6 → (v : ℕ) → (e.dist v ≡ none) × (e.pred v ≡ none)

-- what `a_star`'s search from o to g by the heuristic h may end in
pub record AStarAnswer (Arc : ℕ → ℕ → ℤ → Type 0) (h : ℕ → ℤ) (o g : ℕ) (e : End ℤ) : Type 0 where
  pub number : (e.number ≡ 0) ⊎ (e.number ≡ 6)
  -- 0, with a cost: there is a walk of that total, and the predecessors lead from g to o
  pub walk : e.number ≡ 0 → (d : ℤ) → e.dist g ≡ some d → Walk Arc o g d
  pub chain : e.number ≡ 0 → (d : ℤ) → e.dist g ≡ some d → Chain Arc o e.dist e.pred g
  -- the path's total, with the cheapest arc at each step, is never above the cost
  pub never_above : e.number ≡ 0 → (d : ℤ) → e.dist g ≡ some d → (c : Chain Arc o e.dist e.pred g) (t : ℤ)
      → Cheapest Arc (passed c) t → t ≤ℤ d
  -- 0, without a cost: no walk
  pub unreached : e.number ≡ 0 → e.dist g ≡ none → (t : ℤ) → Walk Arc o g t → ⊥
  -- with an admissible heuristic the cost is the least total, and the path's
  pub least : e.number ≡ 0 → Admissible Arc h g → (d : ℤ) → e.dist g ≡ some d → Least Arc o g d
  pub path_total : e.number ≡ 0 → Admissible Arc h g → (d : ℤ) → e.dist g ≡ some d → (c : Chain Arc o e.dist e.pred g) (t : ℤ)
      → Cheapest Arc (passed c) t → t ≡ d
  -- 6: an arc below zero leaves an index in reach; blank
  pub refused_why : e.number ≡ 6 → BadInReach Arc o
  pub blank : e.number ≡ 6 → (v : ℕ) → (e.dist v ≡ none) × (e.pred v ≡ none)
