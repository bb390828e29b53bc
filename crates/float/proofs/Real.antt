-- The order of all f64 values but NaN, a cutoff's among them: it is that of the integers `srank`, where -0.0 and 0.0 are both 0.
-- It is shown by their signs: two of one sign are ordered as their sizes, or the other way round below zero, and a size is a value with a
-- clear sign, whose order is that of the ranks (Dist). So cutting is monotone: what is above a cut value is cut, and a cutoff that is not above another cuts all
-- that the other cuts.
-- Assumes nothing.
use mathlib.Core.Path.{◌≡◌, refl, sym, ap, ◌∙◌, subst}
use Prim.Native.Nat.{ℕ, zero, suc, ◌+◌, ◌*◌, ◌^◌, ◌<◌, zero-le}
use native.Mathlib.Nat.{le_refl, le_of_lt, lt_of_lt_of_le, zero-lt-suc, add-mul, zero-mul, mul-pos, mul_comm, mul_assoc, mul_right_comm, le-add_right, le-add_left, zero-add}
use mathlib.Core.Bool.{Bool, true, false, not, true≢false}
use lib.IntN.{ℤ, pos, neg_ℤ}
use lib.Signed.{lt_z, lt_z_yes, lt_z_no, <ℤ-≤ℤ_trans}
use lib.Dec.{T, ltb, leb-suc-suc}
use lib.Pow.{pow_pos}
use lib.Ieee.{Float, nan, inf, fin, Format, low, emax, up, down, lt, fits, is_nan}
use lib.Ieee.Fits.{down_pos}
use lib.Ieee.Bits.{is_true}
use Rattle.float.proofs.Dist.{Dist, rank, overflow, lt_rank, rank_val, rank_under, scaled_test, ltb_yes, ltb_no, no_nan as no_nan_of}

-- an f64 value that is no NaN
pub record Real (f : Format) (x : Float) : Type 0 where
  pub no_nan : T (not (is_nan x))
  pub held : T (fits f x)

-- its signed number of units
unfoldable pub srank : Format → Float → ℤ
srank f nan = pos 0
srank f (inf false) = pos (overflow f)
srank f (inf true) = neg_ℤ (pos (overflow f))
srank f (fin false m e) = pos (rank f (fin false m e))
srank f (fin true m e) = neg_ℤ (pos (rank f (fin false m e)))

-- ---- integers by their signs
neg_neg : (r s : ℕ) → lt_z (neg_ℤ (pos r)) (neg_ℤ (pos s)) ≡ ltb s r
neg_neg zero zero = refl
neg_neg zero (suc s) = ltb_no (suc s) 0 zero-le
neg_neg (suc r) zero = ltb_yes 0 (suc r) (zero-lt-suc r)
neg_neg (suc r) (suc s) = sym (leb-suc-suc (suc s) r)

neg_pos : (r s : ℕ) → lt_z (neg_ℤ (pos r)) (pos s) ≡ ltb 0 (r + s)
neg_pos zero s = ap (ltb 0) (sym (zero-add s))
neg_pos (suc r) s = ltb_yes 0 (suc r + s) (lt_of_lt_of_le (zero-lt-suc r) (le-add_right (suc r) s))

pos_neg : (r s : ℕ) → false ≡ lt_z (pos r) (neg_ℤ (pos s))
pos_neg r zero = ltb_no r 0 zero-le
pos_neg r (suc s) = refl

over_pos : (f : Format) → 0 < overflow f
over_pos f = mul-pos (pow_pos (suc (emax f))) (pow_pos (low f))

-- ---- the same value with a clear sign fits too
fits_clear : (f : Format) (s : Bool) (m : ℕ) (e : ℤ) → T (fits f (fin s m e)) → T (fits f (fin false m e))
unfolding fits
fits_clear f s zero e t = t
fits_clear f s (suc m) e t = t

under : (f : Format) (s : Bool) (m : ℕ) (e : ℤ) → T (fits f (fin s m e)) → rank f (fin false m e) < overflow f
under f s m e t = rank_under f false m e (fits_clear f s m e t)

val : (f : Format) (s : Bool) (m : ℕ) (e : ℤ) → T (fits f (fin s m e)) → m * up e * 2 ^ low f ≡ rank f (fin false m e) * down e
val f s m e t = rank_val f false m e (fits_clear f s m e t)

units_test : (f : Format) (s t : Bool) (m : ℕ) (e : ℤ) (n : ℕ) (d : ℤ) → T (fits f (fin s m e)) → T (fits f (fin t n d))
    → ltb (m * up e * down d) (n * up d * down e) ≡ ltb (rank f (fin false m e)) (rank f (fin false n d))
units_test f s t m e n d p q =
    unfold lt in lt_rank f (fin false m e) (fin false n d) (record { is_clear = tt; is_held = fits_clear f s m e p }) (record { is_clear = tt; is_held = fits_clear f t n d q })

sum_test : (f : Format) (s t : Bool) (m : ℕ) (e : ℤ) (n : ℕ) (d : ℤ) → T (fits f (fin s m e)) → T (fits f (fin t n d))
    → ltb 0 (m * up e * down d + n * up d * down e) ≡ ltb 0 (rank f (fin false m e) + rank f (fin false n d))
sum_test f s t m e n d p q =
    let L = 2 ^ low f in
    let r = rank f (fin false m e) in
    let k = rank f (fin false n d) in
    scaled_test 0 (m * up e * down d + n * up d * down e) 0 (r + k) L (down e * down d) (pow_pos (low f)) (mul-pos (down_pos e) (down_pos d))
    (zero-mul L ∙ sym (zero-mul (down e * down d)))
    (add-mul (m * up e * down d) (n * up d * down e) L
    ∙ ap (λ (z : ℕ). z + n * up d * down e * L) (mul_right_comm (m * up e) (down d) L ∙ ap (λ (z : ℕ). z * down d) (val f s m e p) ∙ mul_assoc r (down e) (down d))
    ∙ ap (λ (z : ℕ). r * (down e * down d) + z)
    (mul_right_comm (n * up d) (down e) L ∙ ap (λ (z : ℕ). z * down e) (val f t n d q) ∙ mul_assoc k (down d) (down e) ∙ ap (λ (z : ℕ). k * z) (mul_comm (down d) (down e)))
    ∙ sym (add-mul r k (down e * down d)))

pub lt_real : (f : Format) (x y : Float) → Real f x → Real f y → lt x y ≡ lt_z (srank f x) (srank f y)
unfolding lt is_nan srank
lt_real f nan y p q = absurd p.no_nan
lt_real f (inf s) nan p q = absurd q.no_nan
lt_real f (fin s m e) nan p q = absurd q.no_nan
lt_real f (inf false) (inf false) p q = ltb_no (overflow f) (overflow f) (le_refl (overflow f))
lt_real f (inf false) (inf true) p q = pos_neg (overflow f) (overflow f)
lt_real f (inf true) (inf false) p q = ltb_yes 0 (overflow f + overflow f) (lt_of_lt_of_le (over_pos f) (le-add_right (overflow f) (overflow f))) ∙ sym (neg_pos (overflow f) (overflow f))
lt_real f (inf true) (inf true) p q = ltb_no (overflow f) (overflow f) (le_refl (overflow f)) ∙ sym (neg_neg (overflow f) (overflow f))
lt_real f (inf false) (fin false n d) p q = ltb_no (overflow f) (rank f (fin false n d)) (le_of_lt (under f false n d q.held))
lt_real f (inf false) (fin true n d) p q = pos_neg (overflow f) (rank f (fin false n d))
lt_real f (inf true) (fin false n d) p q =
    ltb_yes 0 (overflow f + rank f (fin false n d)) (lt_of_lt_of_le (over_pos f) (le-add_right (overflow f) (rank f (fin false n d)))) ∙ sym (neg_pos (overflow f) (rank f (fin false n d)))
lt_real f (inf true) (fin true n d) p q = ltb_yes (rank f (fin false n d)) (overflow f) (under f true n d q.held) ∙ sym (neg_neg (overflow f) (rank f (fin false n d)))
lt_real f (fin false m e) (inf false) p q = ltb_yes (rank f (fin false m e)) (overflow f) (under f false m e p.held)
lt_real f (fin false m e) (inf true) p q = pos_neg (rank f (fin false m e)) (overflow f)
lt_real f (fin true m e) (inf false) p q =
    ltb_yes 0 (rank f (fin false m e) + overflow f) (lt_of_lt_of_le (over_pos f) (le-add_left (overflow f) (rank f (fin false m e)))) ∙ sym (neg_pos (rank f (fin false m e)) (overflow f))
lt_real f (fin true m e) (inf true) p q = ltb_no (overflow f) (rank f (fin false m e)) (le_of_lt (under f true m e p.held)) ∙ sym (neg_neg (rank f (fin false m e)) (overflow f))
lt_real f (fin false m e) (fin false n d) p q = units_test f false false m e n d p.held q.held
lt_real f (fin false m e) (fin true n d) p q = pos_neg (rank f (fin false m e)) (rank f (fin false n d))
lt_real f (fin true m e) (fin false n d) p q = sum_test f true false m e n d p.held q.held ∙ sym (neg_pos (rank f (fin false m e)) (rank f (fin false n d)))
lt_real f (fin true m e) (fin true n d) p q = units_test f true true n d m e q.held p.held ∙ sym (neg_neg (rank f (fin false m e)) (rank f (fin false n d)))

is_nan_lem : (x : Float) → is_nan x ≡ true → x ≡ nan
unfolding is_nan
is_nan_lem nan e = refl
is_nan_lem (inf s) e = absurd (true≢false (sym e))
is_nan_lem (fin s m d) e = absurd (true≢false (sym e))

pub real_of_dist : (f : Format) (x : Float) → Dist f x → Real f x
real_of_dist f x p = record { no_nan = no_nan_of x p.is_clear; held = p.is_held }

-- ---- cutoffs: x is cut where c < x. What is above a cut value is cut, whatever c, a NaN too; and a cutoff that is not above another cuts all that the other cuts
lt_z_on : (a b c : ℤ) → lt_z a b ≡ true → lt_z c b ≡ false → lt_z a c ≡ true
lt_z_on a b c p q = is_true (lt_z a c) (<ℤ-≤ℤ_trans {a = a} {b = b} {c = c} (lt_z_yes (subst T (sym p) tt)) (lt_z_no (subst (λ (t : Bool). T (not t)) (sym q) tt))).lt

pub cut_up : (f : Format) (c x y : Float) → T (fits f c) → Dist f x → Dist f y → lt y x ≡ false → lt c x ≡ true → lt c y ≡ true
cut_up f c x y h p q e t = go (is_nan c) refl
  where
    go : (b : Bool) → is_nan c ≡ b → lt c y ≡ true
    go true n = absurd (true≢false (sym t ∙ ap (λ (z : Float). lt z x) (is_nan_lem c n) ∙ unfold lt in refl))
    go false n =
        let C : Real f c = record { no_nan = subst (λ (z : Bool). T (not z)) (sym n) tt; held = h } in
        let X = real_of_dist f x p in
        let Y = real_of_dist f y q in
        lt_real f c y C Y ∙ lt_z_on (srank f c) (srank f x) (srank f y) (sym (lt_real f c x C X) ∙ t) (sym (lt_real f y x Y X) ∙ e)

pub cut_mono : (f : Format) (c d x : Float) → Real f c → Real f d → Dist f x → lt d c ≡ false → lt d x ≡ true → lt c x ≡ true
cut_mono f c d x C D p e t =
    let X = real_of_dist f x p in
    lt_real f c x C X ∙ before (srank f c) (srank f d) (srank f x) (sym (lt_real f d c D C) ∙ e) (sym (lt_real f d x D X) ∙ t)
  where
    before : (a b x : ℤ) → lt_z b a ≡ false → lt_z b x ≡ true → lt_z a x ≡ true
    before a b x e t = go (lt_z a x) refl
      where
        go : (z : Bool) → lt_z a x ≡ z → lt_z a x ≡ true
        go true h = h
        go false h = absurd (true≢false (sym (lt_z_on b x a t h) ∙ e))

-- a NaN cuts nothing
pub cut_nan : (x : Float) → lt nan x ≡ false
unfolding lt
cut_nan x = refl
