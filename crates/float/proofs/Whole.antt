-- Sums and comparisons of floats that are whole numbers up to 2 ^ prec are those of the numbers: nothing is rounded.
-- Assumes nothing.
use mathlib.Core.Path.{◌≡◌, refl, sym, ap, ap₂, ◌∙◌}
use Prim.Native.Nat.{ℕ, ◌+◌, ◌*◌, ◌^◌, ◌≤◌, ◌<◌}
use native.Mathlib.Nat.{le_trans, mul-one, mul_comm, mul_assoc, mul_left_comm, mul-mul-mul_comm, add-mul, mul-pos, le-add_right, le-add_left, zero-lt-suc}
use mathlib.Core.Bool.{true, false, true≢false}
use lib.IntN.{pos}
use lib.Dec.{ltb}
use lib.Ieee.{Float, nan, inf, fin, Format, prec, up, down, round, add, lt, of_int, of_bits, to_bits, binary64}
use lib.Ieee.Fits.{down_pos, of_int-fits}
use lib.Ieee.Bits.{of_bits-to_bits}
use lib.Ieee.Exact.{HasValue}
use lib.Ieee.Scale.{round_same}
use lib.Ieee.Back.{round_whole}
use Rattle.float.specs.Dist.{Dist64, zero64, lt64, plus64}
use Rattle.float.specs.Whole.{f64_of, bits_of}
use Rattle.float.proofs.Dist.{add_fin, cross_test, round_dist}
use Rattle.float.proofs.Cost.{dist_good}

-- by any fractions that the two equal
pub add_at : (f : Format) (x y : Float) (a c b d : ℕ) → 0 < c → 0 < d → HasValue x false a c → HasValue y false b d → add f x y ≡ round f false (a * d + b * c) (c * d)
add_at f nan y a c b d C D p q = absurd p
add_at f (inf s) y a c b d C D p q = absurd p
add_at f (fin true m e) y a c b d C D p q = absurd (true≢false p.0)
add_at f (fin false m e) nan a c b d C D p q = absurd q
add_at f (fin false m e) (inf t) a c b d C D p q = absurd q
add_at f (fin false m e) (fin true n g) a c b d C D p q = absurd (true≢false q.0)
add_at f (fin false m e) (fin false n g) a c b d C D p q =
    add_fin f m e n g
    ∙ round_same f false (m * up e * down g + n * up g * down e) (down e * down g) (a * d + b * c) (c * d) (mul-pos (down_pos e) (down_pos g)) (mul-pos C D)
    (add-mul (m * up e * down g) (n * up g * down e) (c * d)
    ∙ ap (λ (z : ℕ). z + n * up g * down e * (c * d)) (mul-mul-mul_comm (m * up e) (down g) c d ∙ ap (λ (z : ℕ). z * (down g * d)) p.1 ∙ turn a (down e) (down g) d)
    ∙ ap (λ (z : ℕ). a * d * (down e * down g) + z)
    (ap (λ (z : ℕ). n * up g * down e * z) (mul_comm c d) ∙ mul-mul-mul_comm (n * up g) (down e) d c ∙ ap (λ (z : ℕ). z * (down e * c)) q.1 ∙ turn' b (down g) (down e) c)
    ∙ sym (add-mul (a * d) (b * c) (down e * down g)))
  where
    turn : (a x y d : ℕ) → a * x * (y * d) ≡ a * d * (x * y)
    turn a x y d = simp (mul_assoc, mul_comm, mul_left_comm)

    turn' : (b y x c : ℕ) → b * y * (x * c) ≡ b * c * (x * y)
    turn' b y x c = simp (mul_assoc, mul_comm, mul_left_comm)

pub lt_at : (x y : Float) (a c b d : ℕ) → 0 < c → 0 < d → HasValue x false a c → HasValue y false b d → lt x y ≡ ltb (a * d) (b * c)
unfolding lt
lt_at nan y a c b d C D p q = absurd p
lt_at (inf s) y a c b d C D p q = absurd p
lt_at (fin true m e) y a c b d C D p q = absurd (true≢false p.0)
lt_at (fin false m e) nan a c b d C D p q = absurd q
lt_at (fin false m e) (inf t) a c b d C D p q = absurd q
lt_at (fin false m e) (fin true n g) a c b d C D p q = absurd (true≢false q.0)
lt_at (fin false m e) (fin false n g) a c b d C D p q = cross_test (m * up e) (n * up g) (down e) (down g) a b c d C D (down_pos e) (down_pos g) p.1 q.1

-- ---- whole numbers
pub whole_add : (f : Format) (a b : ℕ) → a + b ≤ 2 ^ prec f → add f (of_int f (pos a)) (of_int f (pos b)) ≡ of_int f (pos (a + b))
unfolding of_int
whole_add f a b h =
    add_at f (round f false a 1) (round f false b 1) a 1 b 1 (zero-lt-suc 0) (zero-lt-suc 0)
    (round_whole f false a (le_trans (le-add_right a b) h)) (round_whole f false b (le_trans (le-add_left b a) h))
    ∙ ap (λ (z : ℕ). round f false z 1) (ap (λ (z : ℕ). z + b * 1) (mul-one a) ∙ ap (λ (z : ℕ). a + z) (mul-one b))

pub whole_lt : (f : Format) (a b : ℕ) → a ≤ 2 ^ prec f → b ≤ 2 ^ prec f → lt (of_int f (pos a)) (of_int f (pos b)) ≡ ltb a b
unfolding of_int
whole_lt f a b h k =
    lt_at (round f false a 1) (round f false b 1) a 1 b 1 (zero-lt-suc 0) (zero-lt-suc 0) (round_whole f false a h) (round_whole f false b k)
    ∙ ap (λ (z : ℕ). ltb z (b * 1)) (mul-one a) ∙ ap (λ (z : ℕ). ltb a z) (mul-one b)

-- ---- as costs and distances
-- 0 is +0.0
pub zero_is : zero64 ≡ bits_of 0
unfolding to_bits of_int
zero_is = refl

pub whole_good : (n : ℕ) → Dist64 (bits_of n)
unfolding of_int
whole_good n = dist_good binary64 (f64_of n) (round_dist binary64 n 1)

-- its pattern is read back as itself
whole_value : (n : ℕ) → of_bits binary64 (bits_of n) ≡ f64_of n
whole_value n = of_bits-to_bits binary64 (f64_of n) (of_int-fits binary64 (pos n))

-- a sum of at most 2^53 is exact
pub whole_plus : (a b : ℕ) → a + b ≤ 2 ^ 53 → plus64 (bits_of a) (bits_of b) ≡ bits_of (a + b)
unfolding plus64
whole_plus a b h = ap (to_bits binary64) (ap₂ (add binary64) (whole_value a) (whole_value b) ∙ whole_add binary64 a b h)

-- and their order is that of the numbers
pub whole_lt64 : (a b : ℕ) → a ≤ 2 ^ 53 → b ≤ 2 ^ 53 → lt64 (bits_of a) (bits_of b) ≡ ltb a b
unfolding lt64
whole_lt64 a b h k = ap₂ lt (whole_value a) (whole_value b) ∙ whole_lt binary64 a b h k
