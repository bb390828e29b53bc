-- A total is stored where its pattern is below that of what stands there: none's pattern is above every distance's, and a
-- total past the limit counts as none.
-- Assumes nothing.
use mathlib.Core.Path.{◌≡◌, sym, ap, ◌∙◌}
use mathlib.Core.Bool.{Bool, true, false, not, cond, ◌&&◌, ◌||◌}
use Prim.Native.Nat.{ℕ}
use native.Mathlib.Omega.{arith}
use lib.Dec.{ltb, lt→ltb}
use lib.Ieee.Bits.{is_true}
use borrow.Author.Tests.{le-ltb}
use Rattle.clean.specs.None.{none_f64}
use Rattle.float.specs.Dist.{Dist64, lt64}
use Rattle.float.specs.Stored.{Stored, none, some}
use Rattle.float.specs.Better.{better_than}
use Rattle.float.proofs.Cost.{dist_low}
use Rattle.float.proofs.BitOrder.{lt64_is}
use Rattle.float.proofs.None.{none_itself, dist_not_none}

-- a total over what stands there
better_bits : (next : ℕ) {stored : ℕ} → Dist64 next → Stored stored → ltb next stored ≡ better_than next stored
unfolding better_than
better_bits next p none =
    is_true (ltb next none_f64) (lt→ltb next none_f64 (omega (arith, dist_low next p))) ∙ ap (λ (b : Bool). b || lt64 next none_f64) (sym none_itself)
better_bits next {stored} p (some q) = sym (lt64_is next stored p q) ∙ ap (λ (b : Bool). b || lt64 next stored) (sym (dist_not_none stored q))

-- none takes no place
none_over : {stored : ℕ} → Stored stored → ltb none_f64 stored ≡ false
none_over none = le-ltb none_f64 none_f64 (omega arith)
none_over {stored} (some q) = le-ltb none_f64 stored (omega (arith, dist_low stored q))

-- the test of the code
pub counted_bits : (t : Bool) (next : ℕ) {stored : ℕ} → Dist64 next → Stored stored → ltb (cond t none_f64 next) stored ≡ not t && better_than next stored
counted_bits true next p q = none_over q
counted_bits false next p q = better_bits next p q
