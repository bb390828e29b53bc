-- The laws of f64 distances. `rank` counts one in units of the format's smallest value, and +infinity is the first number past the finite ones.
-- Their order is that of the ranks, and two with one rank are the same value. A sum of two is again one, and no smaller than the first.
-- Assumes nothing.
use mathlib.Core.Path.{◌≡◌, refl, sym, ap, ◌∙◌, subst}
use Prim.Native.Nat.{ℕ, zero, suc, ◌+◌, ◌-◌, ◌*◌, ◌/◌, ◌%◌, ◌^◌, ◌≤◌, ◌<◌}
use native.Mathlib.Nat.{le_refl, le_trans, le_of_eq, le_of_lt, le_antisymm, lt_irrefl, lt_of_lt_of_le, lt_of_le_of_lt, lt_of_not-le, zero-mul}
use native.Mathlib.Nat.{one-mul, mul-one, mul_comm, mul_assoc, mul_right_comm, mul-mul-mul_comm, mul-pos, mul-le-mul_right}
use native.Mathlib.Nat.{mul-lt-mul_of_pos_right, lt_of_mul-lt-mul_right, mul-div_cancel, le-add_right, zero-lt-suc, le_of_suc-le-suc}
use mathlib.Core.Bool.{Bool, true, false, not, ◌&&◌, ◌||◌, cond, true≢false}
use lib.IntN.{ℤ, pos, negsuc}
use lib.Dec.{T, leb, ltb, eqb, leb→le, ltb→lt, lt→ltb, nltb→le, eqb→eq, not_T}
use lib.Pow.{pow-add, pow_pos, pow-lt}
use lib.Ieee.{Float, nan, inf, fin, Format, prec, emax, low, up, down, size, odd, units, round, sum, add, lt, eq, le, fits, is_nan, to_bits, of_bits, hid}
use lib.Ieee.Digits.{back}
use lib.Ieee.Fits.{and_l, and_r, up_pos, down_pos, round-fits, round_is, add-fits, eq→eqb}
use lib.Ieee.Bits.{is_true, is_false, of_bits-to_bits}
use lib.Ieee.Order.{round_mono, drop, kept}
use lib.Ieee.Nearest.{div_same}
use lib.Ieee.Exact.{HasValue, round_exact}

-- not a NaN, and the sign is clear
abbrev pub clear : Float → Bool
clear nan = false
clear (inf s) = not s
clear (fin s m e) = not s

-- a value of the format that can be a distance: zero, every value above it, +infinity
pub record Dist (f : Format) (x : Float) : Type 0 where
  pub is_clear : T (clear x)
  pub is_held : T (fits f x)

-- ---- the rank
-- the first number of units past the finite values
abbrev pub overflow : Format → ℕ
overflow f = 2 ^ suc (emax f) * 2 ^ low f

-- a value's number of units
unfoldable pub rank : Format → Float → ℕ
rank f nan = 0
rank f (inf s) = overflow f
rank f (fin s m e) = m * up e * 2 ^ low f / down e

pow_le_back : (a l : ℕ) → 2 ^ a ≤ 2 ^ l → a ≤ l
pow_le_back a l h = le_of_suc-le-suc (lt_of_not-le (λ (g : suc l ≤ a). lt_irrefl (2 ^ l) (lt_of_lt_of_le (pow-lt g) h)))

-- a value's significand times a power of two is its number of units, exactly
pub place : (l : ℕ) (e : ℤ) → down e ≤ 2 ^ l → (j : ℕ) × ((m : ℕ) → m * up e * 2 ^ l ≡ m * 2 ^ j * down e)
place l (pos a) h = (a + l, λ m. mul_assoc m (2 ^ a) (2 ^ l) ∙ ap (λ (x : ℕ). m * x) (sym (pow-add 2 a l)) ∙ sym (mul-one (m * 2 ^ (a + l))))
place l (negsuc a) h =
    let k : suc a ≤ l = pow_le_back (suc a) l h in (
      l - suc a,
      λ m.
          ap (λ (x : ℕ). x * 2 ^ l) (mul-one m)
          ∙ ap (λ (x : ℕ). m * x) (ap (λ (x : ℕ). 2 ^ x) (sym (back l (suc a) k)) ∙ pow-add 2 (l - suc a) (suc a))
          ∙ sym (mul_assoc m (2 ^ (l - suc a)) (2 ^ suc a)),
    )

low_enough : (u d l : ℕ) → 0 < u → u * d ≡ 1 → d ≤ 2 ^ l
low_enough u d l h e = le_trans (le_trans (le_of_eq (sym (one-mul d))) (mul-le-mul_right d h)) (le_trans (le_of_eq e) (pow_pos l))

pub fits_down : (f : Format) (s : Bool) (m : ℕ) (e : ℤ) → T (fits f (fin s m e)) → down e ≤ 2 ^ low f
unfolding fits
fits_down f s zero e t = low_enough (up e) (down e) (low f) (up_pos e) (eqb→eq (up e * down e) 1 t)
fits_down f s (suc m) e t =
    leb→le (down e) (2 ^ low f) (and_r (eqb (suc m % 2) 1 && ltb (suc m) (2 ^ prec f)) (leb (down e) (2 ^ low f))
    (and_l (eqb (suc m % 2) 1 && ltb (suc m) (2 ^ prec f) && leb (down e) (2 ^ low f)) (ltb (suc m * up e) (2 ^ suc (emax f) * down e)) t))

pub fits_short : (f : Format) (s : Bool) (m : ℕ) (e : ℤ) → T (fits f (fin s m e)) → m < 2 ^ prec f
unfolding fits
fits_short f s zero e t = pow_pos (prec f)
fits_short f s (suc m) e t =
    ltb→lt (suc m) (2 ^ prec f) (and_r (eqb (suc m % 2) 1) (ltb (suc m) (2 ^ prec f)) (and_l (eqb (suc m % 2) 1 && ltb (suc m) (2 ^ prec f)) (leb (down e) (2 ^ low f))
    (and_l (eqb (suc m % 2) 1 && ltb (suc m) (2 ^ prec f) && leb (down e) (2 ^ low f)) (ltb (suc m * up e) (2 ^ suc (emax f) * down e)) t)))

fits_under : (f : Format) (s : Bool) (m : ℕ) (e : ℤ) → T (fits f (fin s m e)) → m * up e < 2 ^ suc (emax f) * down e
unfolding fits
fits_under f s zero e t = subst (λ (x : ℕ). x < 2 ^ suc (emax f) * down e) (sym (zero-mul (up e))) (mul-pos (pow_pos (suc (emax f))) (down_pos e))
fits_under f s (suc m) e t =
    ltb→lt (suc m * up e) (2 ^ suc (emax f) * down e)
    (and_r (eqb (suc m % 2) 1 && ltb (suc m) (2 ^ prec f) && leb (down e) (2 ^ low f)) (ltb (suc m * up e) (2 ^ suc (emax f) * down e)) t)

exact_div : (n k d : ℕ) → 0 < d → n ≡ k * d → n ≡ n / d * d
exact_div n k d D p = p ∙ ap (λ (x : ℕ). x * d) (sym (mul-div_cancel k D) ∙ ap (λ (x : ℕ). x / d) (sym p))

pub rank_val : (f : Format) (s : Bool) (m : ℕ) (e : ℤ) → T (fits f (fin s m e)) → m * up e * 2 ^ low f ≡ rank f (fin s m e) * down e
unfolding rank
rank_val f s m e t =
    let j = place (low f) e (fits_down f s m e t) in
    exact_div (m * up e * 2 ^ low f) (m * 2 ^ j.0) (down e) (down_pos e) (j.1 m)

pub rank_under : (f : Format) (s : Bool) (m : ℕ) (e : ℤ) → T (fits f (fin s m e)) → rank f (fin s m e) < overflow f
rank_under f s m e t =
    lt_of_mul-lt-mul_right (down e)
    (lt_of_le_of_lt (le_of_eq (sym (rank_val f s m e t)))
    (lt_of_lt_of_le (mul-lt-mul_of_pos_right (fits_under f s m e t) (pow_pos (low f))) (le_of_eq (mul_right_comm (2 ^ suc (emax f)) (down e) (2 ^ low f)))))

-- ---- tests
pub same_test : (a b : Bool) → (T a → T b) → (T b → T a) → a ≡ b
same_test true true p q = refl
same_test true false p q = absurd (p tt)
same_test false true p q = absurd (q tt)
same_test false false p q = refl

pub ltb_yes : (a b : ℕ) → a < b → true ≡ ltb a b
ltb_yes a b h = sym (is_true (ltb a b) (lt→ltb a b h))

pub ltb_no : (a b : ℕ) → b ≤ a → false ≡ ltb a b
ltb_no a b h = sym (is_false (ltb a b) (not_T (ltb a b) (λ t. lt_irrefl b (lt_of_le_of_lt h (ltb→lt a b t)))))

-- the order of two numbers is that of what they are equal to, scaled
pub scaled_test : (p q r s k l : ℕ) → 0 < k → 0 < l → p * k ≡ r * l → q * k ≡ s * l → ltb p q ≡ ltb r s
scaled_test p q r s k l K L a b =
    same_test (ltb p q) (ltb r s)
    (λ t. lt→ltb r s (lt_of_mul-lt-mul_right l (lt_of_le_of_lt (le_of_eq (sym a)) (lt_of_lt_of_le (mul-lt-mul_of_pos_right (ltb→lt p q t) K) (le_of_eq b)))))
    (λ t. lt→ltb p q (lt_of_mul-lt-mul_right k (lt_of_le_of_lt (le_of_eq a) (lt_of_lt_of_le (mul-lt-mul_of_pos_right (ltb→lt r s t) L) (le_of_eq (sym b))))))

-- x / de is a / c and y / dd is b / d
pub cross_test : (x y de dd a b c d : ℕ) → 0 < c → 0 < d → 0 < de → 0 < dd → x * c ≡ a * de → y * d ≡ b * dd → ltb (x * dd) (y * de) ≡ ltb (a * d) (b * c)
cross_test x y de dd a b c d C D E F p q =
    scaled_test (x * dd) (y * de) (a * d) (b * c) (c * d) (de * dd) (mul-pos C D) (mul-pos E F)
    (mul-mul-mul_comm x dd c d ∙ ap (λ (z : ℕ). z * (dd * d)) p ∙ mul-mul-mul_comm a de dd d ∙ ap (λ (z : ℕ). a * dd * z) (mul_comm de d) ∙ mul-mul-mul_comm a dd d de
    ∙ ap (λ (z : ℕ). a * d * z) (mul_comm dd de))
    (ap (λ (z : ℕ). y * de * z) (mul_comm c d) ∙ mul-mul-mul_comm y de d c ∙ ap (λ (z : ℕ). z * (de * c)) q ∙ mul-mul-mul_comm b dd de c ∙ ap (λ (z : ℕ). b * de * z) (mul_comm dd c)
    ∙ mul-mul-mul_comm b de c dd)

-- ---- the order is that of the ranks
pub lt_rank : (f : Format) (x y : Float) → Dist f x → Dist f y → lt x y ≡ ltb (rank f x) (rank f y)
unfolding lt
lt_rank f nan y p q = absurd p.is_clear
lt_rank f (inf true) y p q = absurd p.is_clear
lt_rank f (fin true m e) y p q = absurd p.is_clear
lt_rank f (inf false) nan p q = absurd q.is_clear
lt_rank f (inf false) (inf t) p q = unfold rank in ltb_no (overflow f) (overflow f) (le_refl (overflow f))
lt_rank f (inf false) (fin t n d) p q = unfold rank in ltb_no (overflow f) (rank f (fin t n d)) (le_of_lt (rank_under f t n d q.is_held))
lt_rank f (fin false m e) nan p q = absurd q.is_clear
lt_rank f (fin false m e) (inf true) p q = absurd q.is_clear
lt_rank f (fin false m e) (inf false) p q = unfold rank in ltb_yes (rank f (fin false m e)) (overflow f) (rank_under f false m e p.is_held)
lt_rank f (fin false m e) (fin true n d) p q = absurd q.is_clear
lt_rank f (fin false m e) (fin false n d) p q =
    let L : 0 < 2 ^ low f = pow_pos (low f) in
    let r = rank f (fin false m e) in
    let s = rank f (fin false n d) in
    cross_test (m * up e) (n * up d) (down e) (down d) r s (2 ^ low f) (2 ^ low f) L L (down_pos e) (down_pos d)
    (rank_val f false m e p.is_held) (rank_val f false n d q.is_held)
    ∙ scaled_test (r * 2 ^ low f) (s * 2 ^ low f) r s 1 (2 ^ low f) (zero-lt-suc 0) L (mul-one (r * 2 ^ low f)) (mul-one (s * 2 ^ low f))

-- ---- one value to a rank: the bits written are those of the rank
bits_by_rank : (f : Format) (m : ℕ) (e : ℤ) (n : ℕ) (d : ℤ) → rank f (fin false m e) ≡ rank f (fin false n d) → to_bits f (fin false m e) ≡ to_bits f (fin false n d)
unfolding rank to_bits
bits_by_rank f m e n d p = ap (λ (x : ℕ). 0 + (size x - prec f) * hid f + x / 2 ^ (size x - prec f)) p

pub rank_inj : (f : Format) (x y : Float) → Dist f x → Dist f y → rank f x ≡ rank f y → x ≡ y
rank_inj f nan y p q h = absurd p.is_clear
rank_inj f (inf true) y p q h = absurd p.is_clear
rank_inj f (fin true m e) y p q h = absurd p.is_clear
rank_inj f (inf false) nan p q h = absurd q.is_clear
rank_inj f (inf false) (inf true) p q h = absurd q.is_clear
rank_inj f (inf false) (inf false) p q h = refl
rank_inj f (inf false) (fin t n d) p q h =
    let k : rank f (fin t n d) ≡ overflow f = unfold rank in sym h in
    absurd (lt_irrefl (overflow f) (subst (λ (x : ℕ). x < overflow f) k (rank_under f t n d q.is_held)))
rank_inj f (fin false m e) nan p q h = absurd q.is_clear
rank_inj f (fin false m e) (inf t) p q h =
    let k : rank f (fin false m e) ≡ overflow f = unfold rank in h in
    absurd (lt_irrefl (overflow f) (subst (λ (x : ℕ). x < overflow f) k (rank_under f false m e p.is_held)))
rank_inj f (fin false m e) (fin true n d) p q h = absurd q.is_clear
rank_inj f (fin false m e) (fin false n d) p q h =
    sym (of_bits-to_bits f (fin false m e) p.is_held) ∙ ap (of_bits f) (bits_by_rank f m e n d h) ∙ of_bits-to_bits f (fin false n d) q.is_held

-- ---- `<=` is the complement of `<` the other way round, and `==` is identity
or_false : (a : Bool) → (a && true) ≡ a
or_false true = refl
or_false false = refl

le_split : (a b : ℕ) → (ltb a b || (eqb a b && true)) ≡ not (ltb b a)
le_split a b = same_test (ltb a b || (eqb a b && true)) (not (ltb b a)) (there (ltb a b) (ltb→lt a b)) (back_again (ltb a b) (nltb→le a b))
  where
    there : (t : Bool) → (T t → a < b) → T (t || (eqb a b && true)) → T (not (ltb b a))
    there true h u = not_T (ltb b a) (λ v. lt_irrefl a (lt_of_lt_of_le (h tt) (le_of_lt (ltb→lt b a v))))
    there false h u = not_T (ltb b a) (λ v. lt_irrefl a (subst (λ (x : ℕ). x < a) (sym (eqb→eq a b (and_l (eqb a b) true u))) (ltb→lt b a v)))

    back_again : (t : Bool) → (T (not t) → b ≤ a) → T (not (ltb b a)) → T (t || (eqb a b && true))
    back_again true h v = tt
    back_again false h v = subst T (sym (or_false (eqb a b))) (eq→eqb (le_antisymm (nltb→le b a v) (h tt)))

pub le_not_lt : (x y : Float) → T (clear x) → T (clear y) → le x y ≡ not (lt y x)
unfolding le
le_not_lt nan y p q = absurd p
le_not_lt (inf true) y p q = absurd p
le_not_lt (fin true m e) y p q = absurd p
le_not_lt (inf false) nan p q = absurd q
le_not_lt (inf false) (inf true) p q = absurd q
le_not_lt (inf false) (inf false) p q = refl
le_not_lt (inf false) (fin true n d) p q = absurd q
le_not_lt (inf false) (fin false n d) p q = refl
le_not_lt (fin false m e) nan p q = absurd q
le_not_lt (fin false m e) (inf true) p q = absurd q
le_not_lt (fin false m e) (inf false) p q = refl
le_not_lt (fin false m e) (fin true n d) p q = absurd q
le_not_lt (fin false m e) (fin false n d) p q = le_split (m * up e * down d) (n * up d * down e)

-- ---- what is rounded with a clear sign is such a value
pub odd_clear : (d q k l : ℕ) → T (clear (odd d false q k l))
unfolding odd
odd_clear d zero k l = tt
odd_clear d (suc q) k l = tt

units_clear : (f : Format) (q k : ℕ) → T (clear (units f false q k))
unfolding units
units_clear f q k = go (ltb (q * 2 ^ k) (2 ^ (low f + suc (emax f))))
  where
    go : (b : Bool) → T (clear (cond b (odd (suc (prec f)) false q k (low f)) (inf false)))
    go true = odd_clear (suc (prec f)) q k (low f)
    go false = tt

pub round_dist : (f : Format) (a c : ℕ) → Dist f (round f false a c)
round_dist f a c = record {
  is_clear = subst (λ (z : Float). T (clear z)) (sym (round_is f false a c)) (units_clear f (kept (prec f) (a * 2 ^ low f) c) (drop (prec f) (a * 2 ^ low f) c));
  is_held = round-fits f false a c;
}

-- ---- a value is what its own fraction rounds to
rank_same : (f : Format) (m : ℕ) (e : ℤ) (n : ℕ) (d : ℤ) → m * up e * down d ≡ n * up d * down e → rank f (fin false m e) ≡ rank f (fin false n d)
unfolding rank
rank_same f m e n d h =
    div_same (m * up e * 2 ^ low f) (down e) (n * up d * 2 ^ low f) (down d) (down_pos e) (down_pos d)
    (mul_right_comm (m * up e) (2 ^ low f) (down d) ∙ ap (λ (z : ℕ). z * 2 ^ low f) h ∙ mul_right_comm (n * up d) (down e) (2 ^ low f))

-- equal values are one datum, so they have the same bits
pub eq_same : (f : Format) (x y : Float) → Dist f x → Dist f y → eq x y ≡ true → x ≡ y
unfolding eq
eq_same f nan y p q h = absurd p.is_clear
eq_same f (inf true) y p q h = absurd p.is_clear
eq_same f (fin true m e) y p q h = absurd p.is_clear
eq_same f (inf false) nan p q h = absurd q.is_clear
eq_same f (inf false) (inf true) p q h = absurd q.is_clear
eq_same f (inf false) (inf false) p q h = refl
eq_same f (inf false) (fin t n d) p q h = absurd (true≢false (sym h))
eq_same f (fin false m e) nan p q h = absurd q.is_clear
eq_same f (fin false m e) (inf t) p q h = absurd (true≢false (sym h))
eq_same f (fin false m e) (fin true n d) p q h = absurd q.is_clear
eq_same f (fin false m e) (fin false n d) p q h =
    rank_inj f (fin false m e) (fin false n d) p q
    (rank_same f m e n d (eqb→eq (m * up e * down d) (n * up d * down e) (and_l (eqb (m * up e * down d) (n * up d * down e)) true (subst T (sym h) tt))))

value_rank : (f : Format) (x : Float) (n : ℕ) (d : ℤ) → HasValue x false (n * up d) (down d) → rank f x ≡ rank f (fin false n d)
value_rank f nan n d h = absurd h
value_rank f (inf s) n d h = absurd h
value_rank f (fin true m e) n d h = absurd (true≢false h.0)
value_rank f (fin false m e) n d h = rank_same f m e n d h.1

pub round_self : (f : Format) (m : ℕ) (e : ℤ) → T (fits f (fin false m e)) → round f false (m * up e) (down e) ≡ fin false m e
round_self f m e t =
    let j = place (low f) e (fits_down f false m e t) in
    let u : m * 2 ^ j.0 < 2 ^ (low f + suc (emax f)) =
    lt_of_mul-lt-mul_right (down e)
    (lt_of_le_of_lt (le_of_eq (sym (j.1 m)))
    (lt_of_lt_of_le (mul-lt-mul_of_pos_right (fits_under f false m e t) (pow_pos (low f)))
    (le_of_eq (mul_right_comm (2 ^ suc (emax f)) (down e) (2 ^ low f) ∙ ap (λ (z : ℕ). z * down e) (mul_comm (2 ^ suc (emax f)) (2 ^ low f) ∙ sym (pow-add 2 (low f) (suc (emax f)))))))) in
    rank_inj f (round f false (m * up e) (down e)) (fin false m e) (round_dist f (m * up e) (down e)) (record { is_clear = tt; is_held = t })
    (value_rank f (round f false (m * up e) (down e)) m e
    (round_exact f false (m * up e) (down e) m j.0 (down_pos e) (fits_short f false m e t) u (j.1 m)))

-- ---- sums
pub add_fin : (f : Format) (m : ℕ) (e : ℤ) (n : ℕ) (d : ℤ) → add f (fin false m e) (fin false n d) ≡ round f false (m * up e * down d + n * up d * down e) (down e * down d)
unfolding add
add_fin f m e n d = unfold sum in refl

pub add_clear : (f : Format) (x w : Float) → T (clear x) → T (clear w) → T (clear (add f x w))
unfolding add
add_clear f nan w p q = absurd p
add_clear f (inf true) w p q = absurd p
add_clear f (fin true m e) w p q = absurd p
add_clear f (inf false) nan p q = absurd q
add_clear f (inf false) (inf true) p q = absurd q
add_clear f (inf false) (inf false) p q = tt
add_clear f (inf false) (fin t n d) p q = tt
add_clear f (fin false m e) nan p q = absurd q
add_clear f (fin false m e) (inf t) p q = q
add_clear f (fin false m e) (fin true n d) p q = absurd q
add_clear f (fin false m e) (fin false n d) p q = unfold sum in (round_dist f (m * up e * down d + n * up d * down e) (down e * down d)).is_clear

pub add_dist : (f : Format) (x w : Float) → T (clear x) → T (clear w) → Dist f (add f x w)
add_dist f x w p q = record { is_clear = add_clear f x w p q; is_held = add-fits f x w }

le_top : (x : Float) → T (clear x) → T (le x (inf false))
unfolding le
le_top nan p = absurd p
le_top (inf true) p = absurd p
le_top (inf false) p = tt
le_top (fin true m e) p = absurd p
le_top (fin false m e) p = tt

more : (a b p q : ℕ) → a * p * q ≤ (a * q + b) * p
more a b p q = le_trans (le_of_eq (mul_right_comm a p q)) (mul-le-mul_right p (le-add_right (a * q) b))

-- the two shapes of a value that is no NaN and has a clear sign
pub data Shape : Float → Type 0 where
  top : Shape (inf false)
  num : (m : ℕ) (e : ℤ) → Shape (fin false m e)

pub shape : (x : Float) → T (clear x) → Shape x
shape nan p = absurd p
shape (inf true) p = absurd p
shape (inf false) p = top
shape (fin true m e) p = absurd p
shape (fin false m e) p = num m e

-- a distance is at most its sum with a cost
grows : (f : Format) {x w : Float} → Shape x → Shape w → T (fits f x) → T (le x (add f x w))
grows f top top p = unfold add in le_top (inf false) tt
grows f top (num n d) p = unfold add in le_top (inf false) tt
grows f (num m e) top p = unfold add in le_top (fin false m e) tt
grows f (num m e) (num n d) p =
    subst (λ (z : Float). T (le (fin false m e) z)) (sym (add_fin f m e n d))
    (subst (λ (z : Float). T (le z (round f false (m * up e * down d + n * up d * down e) (down e * down d)))) (round_self f m e p)
    (round_mono f (m * up e) (down e) (m * up e * down d + n * up d * down e) (down e * down d) (down_pos e) (mul-pos (down_pos e) (down_pos d))
    (le_trans (le_of_eq (sym (mul_assoc (m * up e) (down e) (down d)))) (more (m * up e) (n * up d * down e) (down e) (down d)))))

pub add_grows : (f : Format) (x w : Float) → Dist f x → T (clear w) → T (le x (add f x w))
add_grows f x w p q = grows f (shape x p.is_clear) (shape w q) p.is_held

pub no_nan : (x : Float) → T (clear x) → T (not (is_nan x))
unfolding is_nan
no_nan nan p = absurd p
no_nan (inf s) p = tt
no_nan (fin s m e) p = tt
