-- The order of distances is that of their bits as numbers.
-- A value's bits are a field that tells how many digits were dropped, and the leading digits. Of two values the one with more digits dropped has the larger field,
-- which outweighs all digits; with as many dropped, the digits decide. So the bits grow with the rank (`bits_mono`), and a comparison of distances is one of
-- patterns. What a search asks of the order of its keys is then what numbers have.
-- Assumes nothing.
use mathlib.Core.Path.{◌≡◌, refl, sym, ap, ap₂, ◌∙◌, subst}
use mathlib.Core.Logic.{◌⊎◌, inl, inr}
use Prim.Native.Nat.{ℕ, suc, ◌+◌, ◌-◌, ◌*◌, ◌/◌, ◌^◌, ◌≤◌, ◌<◌, zero-le}
use native.Mathlib.Nat.{le_trans, le_of_eq, le_of_lt, lt_irrefl, lt_of_lt_of_le, lt_of_le_of_lt, eq-or-lt_of_le, zero-add, one-mul}
use native.Mathlib.Nat.{mul_assoc, mul-le-mul_right, mul-div_cancel, lt_of_mul-lt-mul_right, le-div_iff_mul-le, pow-succ', suc-mul}
use native.Mathlib.Omega.{arith}
use mathlib.Core.Bool.{Bool, true, false, not}
use lib.Dec.{T, ltb, ltb→lt, lt→ltb, nltb→le, lit<}
use lib.Pow.{pow-add, pow_pos, shl_lt}
use lib.Ieee.{Float, Format, binary32, binary64, prec, emax, low, up, down, size, hid, ones, fits, to_bits, of_bits, lt}
use lib.Ieee.Digits.{back, size-lt, size-le, size_reaches}
use lib.Ieee.Fits.{kept-lt, two, two-le_pos, down_pos}
use borrow.Author.Tests.{ltb-true, ltb-false, le-ltb}
use Rattle.float.specs.Dist.{Dist64, zero64, lt64}
use Rattle.float.proofs.Cost.{zero_dist, dist_value, dist_back}
use Rattle.float.proofs.Dist.{Dist, rank, overflow, lt_rank, rank_inj, same_test, place, fits_down, fits_short, Shape, shape, num, top as high}

-- the bits of a number of units: its prec leading digits, and how many were dropped
abbrev enc : ℕ → ℕ → ℕ → ℕ
enc p h n = (size n - p) * h + n / 2 ^ (size n - p)

-- n has at most p digits, then zeros
abbrev Short : ℕ → ℕ → Type 0
Short p n = (m : ℕ) × (j : ℕ) × (m < 2 ^ p) × (n ≡ m * 2 ^ j)

spare : (z p j : ℕ) → z ≤ p + j → z - p ≤ j
spare z p j h = omega arith

exact : (p n : ℕ) → Short p n → n / 2 ^ (size n - p) * 2 ^ (size n - p) ≡ n
exact p n s =
    let m = s.0 in
    let j = s.1 in
    let k = size n - p in
    let K : k ≤ j = spare (size n) p j (size-le n (p + j) (subst (λ (x : ℕ). x < 2 ^ (p + j)) (sym s.3) (shl_lt p j s.2))) in
    let e : n ≡ m * 2 ^ (j - k) * 2 ^ k = s.3 ∙ ap (λ (x : ℕ). m * 2 ^ x) (sym (back j k K)) ∙ ap (λ (x : ℕ). m * x) (pow-add 2 (j - k) k) ∙ sym (mul_assoc m (2 ^ (j - k)) (2 ^ k)) in
    ap (λ (x : ℕ). x * 2 ^ k) (ap (λ (x : ℕ). x / 2 ^ k) e ∙ mul-div_cancel (m * 2 ^ (j - k)) (pow_pos k)) ∙ sym e

fewer : (x y p : ℕ) → x ≤ y → x - p ≤ y - p
fewer x y p h = omega arith

all_in_use : (z p : ℕ) → 0 < p → 0 < z - p → p - 1 + (z - p) < z
all_in_use z p P h = omega arith

lead : (p n : ℕ) → 0 < p → 0 < size n - p → 2 ^ (p - 1) ≤ n / 2 ^ (size n - p)
lead p n P K = (le-div_iff_mul-le (pow_pos (size n - p))).1 (le_trans (le_of_eq (sym (pow-add 2 (p - 1) (size n - p)))) (size_reaches n (p - 1 + (size n - p)) (all_in_use (size n) p P K)))

double : (p : ℕ) → 0 < p → 2 ^ p ≡ 2 * 2 ^ (p - 1)
double p P = ap (λ (x : ℕ). 2 ^ x) (one_more p P) ∙ pow-succ' 2 (p - 1)
  where
    one_more : (p : ℕ) → 0 < p → p ≡ suc (p - 1)
    one_more p P = omega arith

-- j digits dropped against k, more: h is the weight of the field
apart : (j k h q r w : ℕ) → j < k → w ≡ 2 * h → q < w → h ≤ r → j * h + q < k * h + r
apart j k h q r w l e a b =
    let m : suc j * h ≤ k * h = mul-le-mul_right h l in
    let s : suc j * h ≡ j * h + h = suc_times j h in
    omega arith
  where
    suc_times : (j h : ℕ) → suc j * h ≡ j * h + h
    suc_times j h = suc-mul j h

together : (c q r : ℕ) → q < r → c + q < c + r
together c q r h = omega arith

enc_mono : (p n m : ℕ) → 0 < p → Short p n → Short p m → n < m → enc p (2 ^ (p - 1)) n < enc p (2 ^ (p - 1)) m
enc_mono p n m P s t l = go (eq-or-lt_of_le (fewer (size n) (size m) p (size-le n (size m) (lt_of_le_of_lt (le_of_lt l) (size-lt m)))))
  where
    go : (size n - p ≡ size m - p) ⊎ (size n - p < size m - p) → enc p (2 ^ (p - 1)) n < enc p (2 ^ (p - 1)) m
    go (inl e) =
        let same : n / 2 ^ (size n - p) < m / 2 ^ (size m - p) =
        lt_of_mul-lt-mul_right (2 ^ (size m - p))
        (lt_of_le_of_lt (le_of_eq (ap (λ (x : ℕ). n / 2 ^ (size n - p) * 2 ^ x) (sym e) ∙ exact p n s)) (lt_of_lt_of_le l (le_of_eq (sym (exact p m t))))) in
        subst (λ (x : ℕ). enc p (2 ^ (p - 1)) n < x * 2 ^ (p - 1) + m / 2 ^ (size m - p)) e (together ((size n - p) * 2 ^ (p - 1)) (n / 2 ^ (size n - p)) (m / 2 ^ (size m - p)) same)
    go (inr g) = apart (size n - p) (size m - p) (2 ^ (p - 1)) (n / 2 ^ (size n - p)) (m / 2 ^ (size m - p)) (2 ^ p) g (double p P) (kept-lt p n) (lead p m P (lt_of_le_of_lt zero-le g))

-- ---- of distances
one_short : (f : Format) → 1 < 2 ^ prec f
one_short binary32 = lit< tt
one_short binary64 = lit< tt

rank_short : (f : Format) {x : Float} → Shape x → T (fits f x) → Short (prec f) (rank f x)
unfolding rank
rank_short f high t = (1, suc (emax f) + low f, one_short f, sym (pow-add 2 (suc (emax f)) (low f)) ∙ sym (one-mul (2 ^ (suc (emax f) + low f))))
rank_short f (num m e) t =
    let j = place (low f) e (fits_down f false m e t) in
    (m, j.0, fits_short f false m e t, ap (λ (x : ℕ). x / down e) (j.1 m) ∙ mul-div_cancel (m * 2 ^ j.0) (down_pos e))

inf_enc : (f : Format) → 0 + ones f * hid f ≡ enc (prec f) (hid f) (overflow f)
unfolding size
inf_enc binary32 = refl
inf_enc binary64 = refl

bits_of : (f : Format) {x : Float} → Shape x → to_bits f x ≡ enc (prec f) (hid f) (rank f x)
unfolding rank to_bits
bits_of f high = inf_enc f
bits_of f (num m e) =
    let n = m * up e * 2 ^ low f / down e in
    ap (λ (z : ℕ). z + n / 2 ^ (size n - prec f)) (zero-add ((size n - prec f) * hid f))

pub bits_mono : (f : Format) (x y : Float) → Dist f x → Dist f y → rank f x < rank f y → to_bits f x < to_bits f y
bits_mono f x y p q h =
    let X = shape x p.is_clear in
    let Y = shape y q.is_clear in
    lt_of_le_of_lt (le_of_eq (bits_of f X))
    (lt_of_lt_of_le (enc_mono (prec f) (rank f x) (rank f y) (two-le_pos (prec f) (two f)) (rank_short f X p.is_held) (rank_short f Y q.is_held) h) (le_of_eq (sym (bits_of f Y))))

-- `x < y` of two distances is `<` of their bits
pub lt_bits : (f : Format) (x y : Float) → Dist f x → Dist f y → lt x y ≡ ltb (to_bits f x) (to_bits f y)
lt_bits f x y p q = lt_rank f x y p q ∙ same_test (ltb (rank f x) (rank f y)) (ltb (to_bits f x) (to_bits f y))
    (λ t. lt→ltb (to_bits f x) (to_bits f y) (bits_mono f x y p q (ltb→lt (rank f x) (rank f y) t)))
    (λ t. back_to (ltb→lt (to_bits f x) (to_bits f y) t))
  where
    back_to : to_bits f x < to_bits f y → T (ltb (rank f x) (rank f y))
    back_to h = go (ltb (rank f x) (rank f y)) (nltb→le (rank f x) (rank f y))
      where
        go : (b : Bool) → (T (not b) → rank f y ≤ rank f x) → T b
        go true k = tt
        go false k = elim (eq-or-lt_of_le (k tt)) [
          | inl e ↦ lt_irrefl (to_bits f x) (subst (λ (z : Float). to_bits f x < to_bits f z) (rank_inj f y x q p e) h)
          | inr l ↦ lt_irrefl (to_bits f x) (lt_of_lt_of_le h (le_of_lt (bits_mono f y x q p l)))
        ]

-- so of two patterns that can be distances the order is that of numbers
pub lt64_is : (a b : ℕ) → Dist64 a → Dist64 b → lt64 a b ≡ ltb a b
unfolding lt64
lt64_is a b p q = lt_bits binary64 (of_bits binary64 a) (of_bits binary64 b) (dist_value a p) (dist_value b q) ∙ ap₂ ltb (dist_back a p) (dist_back b q)

-- one way at most, not below carries on, neither way is the same distance, and none is below 0.0
pub lt64_asym : (a b : ℕ) → Dist64 a → Dist64 b → lt64 a b ≡ true → lt64 b a ≡ false
lt64_asym a b p q e = lt64_is b a q p ∙ le-ltb b a (omega (arith, ltb-true a b (sym (lt64_is a b p q) ∙ e)))

pub lt64_neg : (a b c : ℕ) → Dist64 a → Dist64 b → Dist64 c → lt64 a b ≡ false → lt64 b c ≡ false → lt64 a c ≡ false
lt64_neg a b c p q r e g = lt64_is a c p r ∙ le-ltb a c (omega (arith, ltb-false a b (sym (lt64_is a b p q) ∙ e), ltb-false b c (sym (lt64_is b c q r) ∙ g)))

pub lt64_same : (a b : ℕ) → Dist64 a → Dist64 b → lt64 a b ≡ false → lt64 b a ≡ false → a ≡ b
lt64_same a b p q e g = omega (arith, ltb-false a b (sym (lt64_is a b p q) ∙ e), ltb-false b a (sym (lt64_is b a q p) ∙ g))

pub zero_least : (d : ℕ) → Dist64 d → lt64 d zero64 ≡ false
zero_least d p = lt64_is d 0 p zero_dist ∙ le-ltb d 0 zero-le
