-- What a search of document 01's pending bag is given, and what it ends in.
use Rattle.std.specs.Prelude.{Bool, false, ℕ, eqb}
use Rattle.std.proofs.Math.Option.{Option, none, some}
use mathlib.Core.List.{List, Memᴰ}
use Rattle.bag.specs.Order.{pick}

-- f, with x at v
abbrev pub upd : {X : Type 0} → (ℕ → X) → ℕ → X → ℕ → X
upd f v x w = pick (eqb w v) x (f w)

-- keys of the kind K, costs of the kind C
pub record Setting (K C : Type 0) : Type 0 where
  -- is the first below the second
  pub lt : K → K → Bool
  -- the distance at the source
  pub zero : K
  -- a distance and a cost
  pub plus : K → C → K
  -- the key of an index at a distance: the distance itself, or with the index's heuristic added
  pub key : K → ℕ → K
  -- the costs that stop the search with 6
  pub bad : C → Bool
  -- the totals past the cutoff
  pub cut : K → Bool
  -- where to stop, if anywhere
  pub target : Option ℕ
  pub source : ℕ

-- is v the target
abbrev pub is_target : Option ℕ → ℕ → Bool
is_target none v = false
is_target (some t) v = eqb v t

-- what a search ends in: the number that comes back, distances, predecessors, and how many pairs were taken and not dropped
pub record End (K : Type 0) : Type 0 where
  pub number : ℕ
  pub dist : ℕ → Option K
  pub pred : ℕ → Option ℕ
  pub takes : ℕ

-- a bad cost was met: the answers are blank
abbrev pub refused : {K : Type 0} → ℕ → End K
refused n = record { number = 6; dist = λ v. none; pred = λ v. none; takes = n }

-- an arc of a neighbour list
abbrev pub ArcOf : {C : Type 0} → (ℕ → List (ℕ × C)) → ℕ → ℕ → C → Type 0
ArcOf arcs u v c = Memᴰ (v, c) (arcs u)
