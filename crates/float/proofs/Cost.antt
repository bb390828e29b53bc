-- The patterns that are bad costs are, as numbers, those past +infinity's. Every other pattern is read as a value that can be a distance,
-- so a distance and a good cost make a distance, and one that is no smaller.
-- Assumes nothing.
use mathlib.Core.Path.{◌≡◌, refl, sym, ap, ◌∙◌, subst}
use Prim.Native.Nat.{ℕ, zero, suc, ◌+◌, ◌-◌, ◌*◌, ◌/◌, ◌%◌, ◌^◌, ◌≤◌, ◌<◌}
use native.Mathlib.Omega.{arith}
use lib.IntN.{ℤ}
use native.Mathlib.Nat.{lt_irrefl, lt_of_lt_of_le, lt_of_le_of_lt, mod-eq_of_lt, add_assoc, zero-add}
use mathlib.Core.Bool.{Bool, true, false, not, ◌||◌, cond, true≢false}
use lib.Dec.{T, leb, ltb, eqb, leb→le, nleb→lt, lt→ltb, lit<, not_T}
use lib.Ieee.{Float, nan, inf, fin, Format, binary32, binary64, lt, eq, add, prec, low, hid, ones, top, odd, of_fields, of_bits, to_bits, nan_bits, is_nan, fits, up, down, size}
use lib.Ieee.Bits.{is_true, is_false, nan_bits_is, nan_bits_above, of_bits-fits, of_bits-to_bits, to_bits-of_bits, to_bits-lt}
use lib.Ieee.Fits.{add-fits}
use borrow.Author.Tests.{ltb-false}
use Rattle.whole.proofs.Cases.{or_no, not_t}
use Rattle.float.specs.Cost.{bad_cost}
use Rattle.float.specs.Dist.{Dist64, zero64, lt64, plus64}
use Rattle.float.proofs.Dist.{clear, Dist, odd_clear, add_dist, add_grows, le_not_lt, eq_same, no_nan}

infinity_low : (f : Format) → ones f * hid f < top f
infinity_low binary32 = lit< tt
infinity_low binary64 = lit< tt

pub bad_is : (f : Format) (b : ℕ) → ltb (ones f * hid f) b ≡ bad_cost f b
unfolding bad_cost
bad_is f b = go (leb (top f) b) (leb→le (top f) b) (nleb→lt (top f) b)
  where
    go : (t : Bool) → (T t → top f ≤ b) → (T (not t) → b < top f) → ltb (ones f * hid f) b ≡ (t || is_nan (of_bits f b))
    go true h k = is_true (ltb (ones f * hid f) b) (lt→ltb (ones f * hid f) b (lt_of_lt_of_le (infinity_low f) (h tt)))
    go false h k = ap (ltb (ones f * hid f)) (sym (mod-eq_of_lt (k tt))) ∙ sym (nan_bits_above f b) ∙ nan_bits_is f b

pub good_no_nan : (f : Format) (b : ℕ) → bad_cost f b ≡ false → T (not (nan_bits f b))
unfolding bad_cost
good_no_nan f b e = subst (λ (t : Bool). T (not t)) (sym (nan_bits_is f b ∙ (or_no (leb (top f) b) (is_nan (of_bits f b)) e).1)) tt

nan_is : is_nan nan ≡ false → ⊥
unfolding is_nan
nan_is e = true≢false e

fields_clear : (f : Format) (x t : ℕ) → is_nan (of_fields f false x t) ≡ false → T (clear (of_fields f false x t))
unfolding of_fields
fields_clear f zero t e = odd_clear (prec f) t 0 (low f)
fields_clear f (suc x) t e = go (eqb (suc x) (ones f)) (eqb t 0) e
  where
    go : (p q : Bool) → is_nan (cond p (cond q (inf false) nan) (odd (prec f) false (hid f + t) x (low f))) ≡ false
        → T (clear (cond p (cond q (inf false) nan) (odd (prec f) false (hid f + t) x (low f))))
    go true true e = tt
    go true false e = absurd (nan_is e)
    go false q e = odd_clear (prec f) (hid f + t) x (low f)

good_clear : (f : Format) (b : ℕ) → bad_cost f b ≡ false → T (clear (of_bits f b))
unfolding bad_cost of_bits
good_clear f b e =
    let p = or_no (leb (top f) b) (is_nan (of_bits f b)) e in
    go (leb (top f) b) p.0 p.1
  where
    go : (s : Bool) → s ≡ false → is_nan (of_fields f s (b % top f / hid f) (b % hid f)) ≡ false → T (clear (of_fields f s (b % top f / hid f) (b % hid f)))
    go true q r = absurd (true≢false q)
    go false q r = fields_clear f (b % top f / hid f) (b % hid f) r

pub good_dist : (f : Format) (b : ℕ) → bad_cost f b ≡ false → Dist f (of_bits f b)
good_dist f b e = record { is_clear = good_clear f b e; is_held = of_bits-fits f b }

-- ---- the bits of a distance: the sign's bit is clear, and they are no bad cost
signed_bits : (f : Format) (m : ℕ) (e : ℤ) → to_bits f (fin true m e) ≡ top f + to_bits f (fin false m e)
unfolding to_bits
signed_bits f m e =
    let n = m * up e * 2 ^ low f / down e in
    let k = size n - prec f in
    add_assoc (top f) (k * hid f) (n / 2 ^ k) ∙ ap (λ (z : ℕ). top f + z) (ap (λ (z : ℕ). z + n / 2 ^ k) (sym (zero-add (k * hid f))))

flip_fits : (f : Format) (m : ℕ) (e : ℤ) → T (fits f (fin false m e)) → T (fits f (fin true m e))
unfolding fits
flip_fits f zero e t = t
flip_fits f (suc m) e t = t

half : (t x y : ℕ) → y ≡ t + x → y < 2 * t → x < t
half t x y e h = omega arith

inf_bits : (f : Format) → to_bits f (inf false) < top f
unfolding to_bits
inf_bits f = subst (λ (z : ℕ). z < top f) (sym (zero-add (ones f * hid f))) (infinity_low f)

pub dist_bits : (f : Format) (x : Float) → Dist f x → to_bits f x < top f
dist_bits f nan p = absurd p.is_clear
dist_bits f (inf true) p = absurd p.is_clear
dist_bits f (fin true m e) p = absurd p.is_clear
dist_bits f (inf false) p = inf_bits f
dist_bits f (fin false m e) p = half (top f) (to_bits f (fin false m e)) (to_bits f (fin true m e)) (signed_bits f m e) (to_bits-lt f (fin true m e) (flip_fits f m e p.is_held))

pub clear_no_nan : (x : Float) → T (clear x) → is_nan x ≡ false
unfolding is_nan
clear_no_nan nan p = absurd p
clear_no_nan (inf s) p = refl
clear_no_nan (fin s m e) p = refl

pub dist_good : (f : Format) (x : Float) → Dist f x → bad_cost f (to_bits f x) ≡ false
unfolding bad_cost
dist_good f x p =
    ap (λ (b : Bool). b || is_nan (of_bits f (to_bits f x)))
    (is_false (leb (top f) (to_bits f x)) (not_T (leb (top f) (to_bits f x)) (λ t. lt_irrefl (top f) (lt_of_le_of_lt (leb→le (top f) (to_bits f x) t) (dist_bits f x p)))))
    ∙ ap is_nan (of_bits-to_bits f x p.is_held) ∙ clear_no_nan x p.is_clear

-- ---- patterns that can be a distance: each is the pattern of its value
pub dist_low : (d : ℕ) → Dist64 d → d < top binary64
dist_low d p = lt_of_le_of_lt (ltb-false (ones binary64 * hid binary64) d (bad_is binary64 d ∙ p)) (infinity_low binary64)

pub dist_value : (d : ℕ) → Dist64 d → Dist binary64 (of_bits binary64 d)
dist_value d p = good_dist binary64 d p

pub dist_back : (d : ℕ) → Dist64 d → to_bits binary64 (of_bits binary64 d) ≡ d
dist_back d p = to_bits-of_bits binary64 d (omega (arith, dist_low d p)) (no_nan (of_bits binary64 d) (dist_value d p).is_clear)

-- value equality fixes the bits
pub dist_same : (a b : ℕ) → Dist64 a → Dist64 b → eq (of_bits binary64 a) (of_bits binary64 b) ≡ true → a ≡ b
dist_same a b p q e = sym (dist_back a p) ∙ ap (to_bits binary64) (eq_same binary64 (of_bits binary64 a) (of_bits binary64 b) (dist_value a p) (dist_value b q) e) ∙ dist_back b q

-- ---- the distance 0.0, and the sum of a distance and a good cost
pub zero_dist : Dist64 zero64
unfolding bad_cost of_bits is_nan
zero_dist = refl

-- the sum of the values
pub plus_value : (d b : ℕ) → of_bits binary64 (plus64 d b) ≡ add binary64 (of_bits binary64 d) (of_bits binary64 b)
unfolding plus64
plus_value d b = of_bits-to_bits binary64 (add binary64 (of_bits binary64 d) (of_bits binary64 b)) (add-fits binary64 (of_bits binary64 d) (of_bits binary64 b))

module _ (d b : ℕ) (p : Dist64 d) (g : Dist64 b) where
  -- it is one that can be a distance
  pub sum_dist : Dist binary64 (add binary64 (of_bits binary64 d) (of_bits binary64 b))
  sum_dist = add_dist binary64 (of_bits binary64 d) (of_bits binary64 b) (dist_value d p).is_clear (dist_value b g).is_clear

  pub plus_dist : Dist64 (plus64 d b)
  unfolding plus64
  plus_dist = dist_good binary64 (add binary64 (of_bits binary64 d) (of_bits binary64 b)) sum_dist

  -- a good cost lowers no distance
  pub plus_grows : lt64 (plus64 d b) d ≡ false
  unfolding lt64
  plus_grows =
      ap (λ (z : Float). lt z (of_bits binary64 d)) (plus_value d b)
      ∙ not_t _
      (sym (le_not_lt (of_bits binary64 d) (add binary64 (of_bits binary64 d) (of_bits binary64 b)) (dist_value d p).is_clear sum_dist.is_clear)
      ∙ is_true _ (add_grows binary64 (of_bits binary64 d) (of_bits binary64 b) (dist_value d p) (dist_value b g).is_clear))
