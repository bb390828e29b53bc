-- Signed numbers that fit their width: -1 less a number of 63 bits, and what lies between the ends of 32 bits.
-- Assumes nothing.
use mathlib.Core.Path.{◌≡◌, ap, ◌∙◌}
use mathlib.Core.Bool.{true}
use Prim.Native.Nat.{ℕ, ◌<◌}
use native.Mathlib.Omega.{arith}
use lib.IntN.{ℤ, pos, negsuc, ◌-ℤ◌}
use lib.Signed.{le_z}
use mir.Val.{to_z, SFits}
use mir.ValLaws.{to_z_pos}
use mir.Syntax.{w32, w64}
use Rattle.whole.specs.Zed.{zed}
use Rattle.whole.proofs.Signed.{under}

-- it fits 64 bits
pub below_fits : (k : ℕ) → k < 9223372036854775808 → SFits w64 (negsuc 0 -ℤ to_z w64 k)
below_fits k h = rw (ap (λ (z : ℤ). negsuc 0 -ℤ z) (to_z_pos w64 k h) ∙ under k) (record { sfits = h })

-- what passes both tests of a cost fits 32 bits
pub between_fits : (z : ℤ) → le_z (negsuc 2147483647) z ≡ true → le_z z (pos 2147483647) ≡ true → SFits w32 z
between_fits z low high = omega (arith, zed)
