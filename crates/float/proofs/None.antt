-- None, the pattern of -1.0, and the test for it: no distance has its pattern, whose sign is set.
-- Assumes nothing.
use mathlib.Core.Path.{◌≡◌, refl}
use mathlib.Core.Bool.{true, false}
use Prim.Native.Nat.{ℕ}
use native.Mathlib.Omega.{arith}
use lib.Dec.{eqb, eqb→eq, not_T}
use lib.Ieee.Bits.{is_false}
use Rattle.clean.specs.None.{none_f64}
use Rattle.float.specs.Dist.{Dist64}
use Rattle.float.proofs.Cost.{dist_low}

-- the test at a distance, and at none
pub dist_not_none : (d : ℕ) → Dist64 d → eqb d none_f64 ≡ false
dist_not_none d p = is_false (eqb d none_f64) (not_T (eqb d none_f64) (λ t. omega (arith, eqb→eq d none_f64 t, dist_low d p)))

pub none_itself : eqb none_f64 none_f64 ≡ true
none_itself = refl
