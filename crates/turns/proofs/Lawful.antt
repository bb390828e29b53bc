-- What a kind of search must keep for its lists to speak for the pending bag.
-- Assumes nothing.
use mathlib.Core.Path.{◌≡◌}
use mathlib.Core.Bool.{true, false}
use mathlib.Core.Option.{none, some}
use Prim.Native.Nat.{ℕ}
use Rattle.pending.specs.Laws.{Laws}
use Rattle.turns.specs.Kind.{Kind, turn_of}

pub record Lawful {K C : Type 0} (Y : Kind K C) (ok : K → Type 0) : Type 0 where
  -- the pending bag's laws of keys
  pub laws : Laws (turn_of Y) ok
  -- a distance that is stored is a good key
  pub good_ok : (d : K) → Y.good d → ok d
  pub good_zero : Y.good Y.zero
  pub good_plus : (d : K) (c : C) → Y.good d → Y.bad c ≡ false → Y.good (Y.plus d c)
  -- it is read back, and the blank entry is none
  pub back : (d : K) → Y.good d → Y.read d ≡ some d
  pub empty : Y.read Y.blank ≡ none
  -- a smaller distance has no greater key
  pub lower : (d e : K) (v : ℕ) → Y.good d → Y.good e → Y.order.lt d e ≡ true → Y.order.lt (Y.key e v) (Y.key d v) ≡ false
