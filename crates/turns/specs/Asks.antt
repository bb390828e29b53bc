-- What a kind of search asks beside what every search does: that the neighbour list fits it, and that its sums and its keys are in range.
-- Assumes nothing.
use Rattle.std.specs.Prelude.{◌≡◌, false, Option, ℕ}
use Rattle.rows.specs.Rows.{Lists}
use Rattle.rows.specs.RowArc.{RowArc}
use Rattle.turns.specs.Kind.{Kind}

pub record Asks (K C : Type 0) : Type 1 where
  -- the neighbour list of m indices fits, from a source, to a target if one is given
  pub fit : ℕ → ℕ → Option ℕ → Lists C → Type 0
  -- the sum of a distance and a cost is in range
  pub sum : K → C → Type 0
  -- the key of an index at a distance is in range
  pub key : K → ℕ → Type 0

module _ {K C : Type 0} (Y : Kind K C) (A : Asks K C) where
  -- the sum of a distance d and a cost c, and the key of v there, are in range
  pub record InRange (d : K) (v : ℕ) (c : C) : Type 0 where
    pub sum : A.sum d c
    pub key : A.key (Y.plus d c) v

  -- so for every arc of u that is not bad, at the distance d
  abbrev pub RowInRange : ℕ → Lists C → ℕ → K → Type 0
  RowInRange m nb u d = (v : ℕ) (c : C) → RowArc m nb u v c → Y.bad c ≡ false → InRange d v c
