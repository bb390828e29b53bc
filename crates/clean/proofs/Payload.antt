-- A blank slice of f64 patterns tells one NaN from another: where the entry past the used part came back as another NaN, it is not what a blank slice is.
-- Assumes nothing.
use mathlib.Core.Path.{◌≡◌, ap}
use mathlib.Core.List.{List, [], ◌∷◌}
use Prim.Native.Nat.{ℕ}
use native.Mathlib.Omega.{arith}
use lib.ListN.{get_or}
use Rattle.clean.specs.Fill.{filled}
use Rattle.clean.specs.None.{none_f64}

pub payload_told : filled 1 none_f64 (0 ∷ 0x7ff0_0000_0000_0dea ∷ []) ≡ none_f64 ∷ 0x7ff8_0000_0000_0000 ∷ [] → ⊥
unfolding filled
payload_told e = let z : ◌≡◌ {A = ℕ} 0x7ff0_0000_0000_0dea 0x7ff8_0000_0000_0000 = ap (λ (l : List ℕ). get_or l 1 0) e in omega arith
