-- What the theorems ask of a search's keys.
use Rattle.std.specs.Prelude.{◌≡◌, false, ℕ}
use Rattle.bag.specs.Order.{IsOrder}
use Rattle.pending.specs.Setting.{Setting}
use Rattle.pending.specs.OnePlace.{Cell, out, has}

-- the keys that can be, and what holds of them
pub record Laws {K C : Type 0} (S : Setting K C) (ok : K → Type 0) : Type 0 where
  pub order : IsOrder S.lt ok
  pub zero_ok : ok S.zero
  pub plus_ok : (d : K) (c : C) → ok d → S.bad c ≡ false → ok (S.plus d c)
  pub key_ok : (d : K) (v : ℕ) → ok d → ok (S.key d v)

-- a good key, if any
abbrev pub OkCell : {K : Type 0} → (K → Type 0) → Cell K → Type 0
OkCell ok out = Unit {0}
OkCell ok (has d p b) = ok d
