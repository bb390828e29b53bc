-- The text of a signed 64-bit number: its sign, and then its size in decimal.
-- Assumes nothing.
use mathlib.Core.Path.{◌≡◌, refl}
use mathlib.Core.Bool.{true, false}
use mathlib.Core.List.{[], ◌∷◌, ◌++◌}
use native.Mathlib.Omega.{arith}
use borrow.Author.Tests.{le-ltb}
use lib.IntN.{ℤ, pos, negsuc, nat_abs}
use lib.Signed.{lt_z}
use mir.Val.{to_z, of_z, SFits}
use mir.ValLaws.{to_z-of_z}
use mir.Syntax.{w64}
use Rattle.lines.specs.Text.{signed_text, decimal_text}

-- the sign of a number, by the code's test
below : (z : ℤ) → lt_z z (pos 0) ≡ true → signed_text z ≡ (45 ∷ []) ++ decimal_text (nat_abs z)
unfolding signed_text
below (pos n) e = let h : lt_z (pos n) (pos 0) ≡ false = le-ltb n 0 (omega arith) in cc
below (negsuc n) e = refl

from : (z : ℤ) → lt_z z (pos 0) ≡ false → signed_text z ≡ decimal_text (nat_abs z)
unfolding signed_text
from (pos n) e = refl
from (negsuc n) e = cc

module _ (z : ℤ) (f : SFits w64 z) where
  -- the text of a number below zero, and of one that is not
  pub text_below : lt_z (to_z w64 (of_z w64 z)) (pos 0) ≡ true → signed_text z ≡ (45 ∷ []) ++ decimal_text (nat_abs (to_z w64 (of_z w64 z)))
  text_below e = rw (to_z-of_z w64 z f) (below z (rw (to_z-of_z w64 z f) at e))

  pub text_from : lt_z (to_z w64 (of_z w64 z)) (pos 0) ≡ false → signed_text z ≡ [] ++ decimal_text (nat_abs (to_z w64 (of_z w64 z)))
  text_from e = rw (to_z-of_z w64 z f) (from z (rw (to_z-of_z w64 z f) at e))
