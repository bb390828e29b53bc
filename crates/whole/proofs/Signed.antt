-- Signed numbers as the code holds them: a local or an element passed on is read back from its bits, and is the same number.
-- Assumes nothing.
use mathlib.Core.Path.{◌≡◌, refl, sym, ap, subst, ◌∙◌}
use mathlib.Core.Bool.{Bool, true, false, true≢false}
use mathlib.Core.List.{List}
use Prim.Native.Nat.{ℕ, zero, suc, ◌<◌, ◌^◌}
use native.Mathlib.Omega.{arith}
use borrow.Author.Tests.{ltb-false, ltb-true, le-ltb}
use lib.IntN.{ℤ, pos, negsuc, ◌-ℤ◌}
use lib.ListN.{get_or}
use lib.Signed.{mag, lt_z, ◌≤ℤ◌, ◌<ℤ◌}
use mir.Syntax.{w64}
use mir.Val.{SFits, to_z, of_z}
use mir.ValLaws.{to_z-of_z}
use Rattle.whole.specs.Zed.{◌⊕◌, zed, Within}

-- -1 less k
pub under : (k : ℕ) → negsuc 0 -ℤ pos k ≡ negsuc k
under zero = refl
under (suc k) = ap (λ (n : ℕ). negsuc (suc n)) (omega arith)

-- ---- the order of whole numbers, as a test
pub lt_z_asym : (a b : ℤ) → lt_z a b ≡ true → lt_z b a ≡ false
lt_z_asym (pos a) (pos b) e = le-ltb b a (omega (arith, ltb-true a b e))
lt_z_asym (pos a) (negsuc b) e = absurd (true≢false (sym e))
lt_z_asym (negsuc a) (pos b) e = refl
lt_z_asym (negsuc a) (negsuc b) e = le-ltb a b (omega (arith, ltb-true b a e))

pub lt_z_neg : (a b c : ℤ) → lt_z a b ≡ false → lt_z b c ≡ false → lt_z a c ≡ false
lt_z_neg (pos a) (pos b) (pos c) e f = le-ltb a c (omega (arith, ltb-false a b e, ltb-false b c f))
lt_z_neg (pos a) (pos b) (negsuc c) e f = refl
lt_z_neg (pos a) (negsuc b) (pos c) e f = absurd (true≢false f)
lt_z_neg (pos a) (negsuc b) (negsuc c) e f = refl
lt_z_neg (negsuc a) (pos b) c e f = absurd (true≢false e)
lt_z_neg (negsuc a) (negsuc b) (pos c) e f = absurd (true≢false f)
lt_z_neg (negsuc a) (negsuc b) (negsuc c) e f = le-ltb c a (omega (arith, ltb-false b a e, ltb-false c b f))

pub lt_z_same : (a b : ℤ) → lt_z a b ≡ false → lt_z b a ≡ false → a ≡ b
lt_z_same a b e f = omega (arith, zed)

pub le_both : {a b : ℤ} → a ≤ℤ b → b ≤ℤ a → a ≡ b
le_both p q = omega (arith, zed)

-- ---- a number and an element of a slice, read back
pub read_back : (z : ℤ) → mag z < 2 ^ 63 → to_z w64 (of_z w64 z) ≡ z
read_back z h = to_z-of_z w64 z (record { sfits = h })

pub read_at : (l : List ℤ) (i : ℕ) → mag (get_or l i (pos 0)) < 2 ^ 63 → to_z w64 (of_z w64 (get_or l i (pos 0))) ≡ get_or l i (pos 0)
read_at l i h = read_back (get_or l i (pos 0)) h

-- ---- a test of two numbers read back is of the numbers
pub told : {a b : ℤ} {t : Bool} → SFits w64 a → SFits w64 b → lt_z (to_z w64 (of_z w64 a)) (to_z w64 (of_z w64 b)) ≡ t → lt_z a b ≡ t
told {a} {b} {t} f g e = subst (λ (x : ℤ). lt_z x b ≡ t) (to_z-of_z w64 a f) (subst (λ (y : ℤ). lt_z (to_z w64 (of_z w64 a)) y ≡ t) (to_z-of_z w64 b g) e)

-- what `lower` answers, of numbers that its arguments are equal to
pub look_lt : {a b x y : ℤ} {r : Bool} → x ≡ a → y ≡ b → r ≡ lt_z x y → r ≡ true → a <ℤ b
look_lt {a} {b} {x} {y} p q e t = let k : lt_z x y ≡ true = sym e ∙ t in omega (arith, zed)

pub look_ge : {a b x y : ℤ} {r : Bool} → x ≡ a → y ≡ b → r ≡ lt_z x y → r ≡ false → b ≤ℤ a
look_ge {a} {b} {x} {y} p q e t = let k : lt_z x y ≡ false = sym e ∙ t in omega (arith, zed)

-- ---- what `plus` asks and answers, of the numbers whose bits it is given
pub near : {d c : ℤ} → SFits w64 d → SFits w64 c → Within (2 ^ 60) d → Within (2 ^ 60) c
    → Within (2 ^ 60) (to_z w64 (of_z w64 d)) × Within (2 ^ 60) (to_z w64 (of_z w64 c))
near {d} {c} f g p q = (rw (to_z-of_z w64 d f) p, rw (to_z-of_z w64 c g) q)

pub sum_is : {d c s : ℤ} → SFits w64 d → SFits w64 c → s ≡ to_z w64 (of_z w64 d) ⊕ to_z w64 (of_z w64 c) → SFits w64 s → to_z w64 (of_z w64 s) ≡ d ⊕ c
sum_is {d} {c} {s} f g e k = to_z-of_z w64 s k ∙ (e ∙ (λ i. to_z-of_z w64 d f i ⊕ to_z-of_z w64 c g i))
