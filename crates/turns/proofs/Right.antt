-- What a kind of search has to show, to be one that the search runs by.
-- Assumes nothing.
use mathlib.Core.Option.{Option}
use Prim.Native.Nat.{ℕ}
use lib.ListN.{get_or}
use Rattle.std.specs.Prelude.{Option as Given}
use Rattle.rows.specs.Rows.{Lists}
use Rattle.pending.specs.OnePlace.{Cell}
use Rattle.turns.specs.Kind.{Kind}
use Rattle.turns.specs.Asks.{Asks, RowInRange}
use Rattle.turns.specs.Memory.{Memory}
use Rattle.turns.proofs.Lawful.{Lawful}
use Rattle.turns.proofs.Turns.{Head, Course, Popped}

-- the course that it takes: the keys that its laws are for, what it keeps from turn to turn, and what each turn lowers
pub record Way (K C : Type 0) : Type 1 where
  pub ok : K → Type 0
  pub keeps : ℕ → Option ℕ → ℕ → Lists C → (ℕ → Cell K) → ℕ → Type 0
  pub left : ℕ → Option ℕ → ℕ → Lists C → (ℕ → Cell K) → ℕ → ℕ

-- it takes that course, and what it asks of the neighbour list keeps its sums and its keys in range
pub record Right {K C : Type 0} (Y : Kind K C) (A : Asks K C) (W : Way K C) : Type 0 where
  pub lawful : Lawful Y W.ok
  pub course : {m s : ℕ} {g : Given ℕ} (target : Option ℕ) {nb : Lists C} → A.fit m s g nb → Course Y m target s nb (W.keeps m target s nb) W.ok (W.left m target s nb)
  pub first : {m s : ℕ} {g : Given ℕ} {nb : Lists C} → A.fit m s g nb → A.key Y.zero s
  pub row : {m s : ℕ} {g : Given ℕ} {target : Option ℕ} {nb : Lists C} → A.fit m s g nb → {M M₁ : Memory K} {n t u : ℕ}
      → Head Y m target s nb (W.keeps m target s nb) M n t → Popped Y m target s M M₁ n u → RowInRange Y A m nb u (get_or M.dist u Y.blank)
  -- the keys that it makes may be pushed
  pub fine : (d : K) (v : ℕ) → A.key d v → Y.order.ok (Y.key d v)
