-- The laws of cutoffs. What is above a cut total is cut; no cutoff, a NaN and +infinity cut nothing; one below zero cuts every total; -0.0 acts as 0.0.
-- Assumes nothing.
use mathlib.Core.Path.{◌≡◌, refl, sym, ap, ◌∙◌}
use mathlib.Core.Bool.{true, false}
use Prim.Native.Nat.{ℕ, ◌+◌, ◌*◌}
use native.Mathlib.Nat.{zero-mul, zero-add}
use lib.Dec.{T, ltb}
use lib.Ieee.{Float, nan, inf, fin, binary64, up, down, lt, fits, of_bits}
use Rattle.float.specs.Dist.{Dist64, zero64, lt64}
use Rattle.std.specs.Prelude.{unwrap_or}
use Rattle.float.specs.Cutoff.{Cutoff, limit_of, past}
use Rattle.std.specs.Prelude.{None, Some}
use Rattle.float.proofs.Dist.{clear}
use Rattle.float.proofs.Cost.{zero_dist, dist_value}
use Rattle.float.proofs.BitOrder.{zero_least}
use Rattle.float.proofs.Real.{Real, cut_up, cut_mono, cut_nan}

-- its value is an f64
unfoldable pub Held : Cutoff → Type 0
Held None = Unit {0}
Held (Some c) = T (fits binary64 c)

pub past_up : (k : Cutoff) (x y : ℕ) → Held k → Dist64 x → Dist64 y → lt64 y x ≡ false → past k x ≡ true → past k y ≡ true
unfolding past Held lt64
past_up None x y h p q e t = t
past_up (Some c) x y h p q e t = cut_up binary64 c (of_bits binary64 x) (of_bits binary64 y) h (dist_value x p) (dist_value y q) e t

-- of two cutoffs that are no NaN, the lower cuts all that the other cuts
pub past_mono : (c d : Float) (x : ℕ) → Real binary64 c → Real binary64 d → Dist64 x → lt d c ≡ false → past (Some d) x ≡ true → past (Some c) x ≡ true
unfolding past
past_mono c d x C D p e t = cut_mono binary64 c d (of_bits binary64 x) C D (dist_value x p) e t

-- nothing is cut
pub past_none : (x : ℕ) → past None x ≡ false
unfolding past
past_none x = refl

pub past_nan : (x : ℕ) → past (Some nan) x ≡ false
unfolding past
past_nan x = cut_nan (of_bits binary64 x)

no_more : (x : Float) → lt (inf false) x ≡ false
unfolding lt
no_more nan = refl
no_more (inf s) = refl
no_more (fin s m e) = refl

pub past_infinity : (x : ℕ) → past (Some (inf false)) x ≡ false
unfolding past
past_infinity x = no_more (of_bits binary64 x)

-- so every cutoff is one at a value
pub past_limit : (k : Cutoff) (x : ℕ) → past (Some (limit_of k)) x ≡ past k x
unfolding limit_of
past_limit None x = past_infinity x ∙ sym (past_none x)
past_limit (Some c) x = refl

-- everything is cut
pub past_below : (c : Float) (x : ℕ) → T (fits binary64 c) → Dist64 x → lt c (of_bits binary64 zero64) ≡ true → past (Some c) x ≡ true
unfolding past
past_below c x h p e = cut_up binary64 c (of_bits binary64 zero64) (of_bits binary64 x) h (dist_value zero64 zero_dist) (dist_value x p) (unfold lt64 in zero_least x p) e

nothing_more : (a b : ℕ) → a ≡ 0 → ltb 0 (a + b) ≡ ltb a b
nothing_more a b e = ap (λ (z : ℕ). ltb 0 (z + b)) e ∙ ap (ltb 0) (zero-add b) ∙ ap (λ (z : ℕ). ltb z b) (sym e)

minus_zero : (x : Float) → T (clear x) → lt (of_bits binary64 0x8000_0000_0000_0000) x ≡ lt (of_bits binary64 zero64) x
unfolding lt of_bits
minus_zero nan p = absurd p
minus_zero (inf s) p = refl
minus_zero (fin true m e) p = absurd p
minus_zero (fin false m e) p = nothing_more (0 * down e) (m * up e * 1) (zero-mul (down e))

-- -0.0
pub past_minus : (x : ℕ) → Dist64 x → past (Some (of_bits binary64 0x8000_0000_0000_0000)) x ≡ past (Some (of_bits binary64 zero64)) x
unfolding past
past_minus x p = minus_zero (of_bits binary64 x) (dist_value x p).is_clear

-- the value of a cutoff, +infinity for none
pub limit_is : (k : Cutoff) → unwrap_or k (inf false) ≡ limit_of k
unfolding limit_of
limit_is None = refl
limit_is (Some c) = refl
