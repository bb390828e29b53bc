-- The signed kit: linear facts on ℤ as `omega (arith, zed, sum a b, ..)`.
use Rattle.std.specs.Prelude.{◌≡◌, refl, Bool, true, false, not, cond, ℕ, zero, suc, ◌+◌, ◌-◌, ◌≤◌, ◌<◌, ◌^◌, max, T, ltb}
use Rattle.std.specs.Prelude.{ℤ, pos, negsuc, neg_ℤ, ◌+ℤ◌, ◌-ℤ◌, ◌≤ℤ◌, ◌<ℤ◌}
use Rattle.std.proofs.Common.{sym, ap, ◌∙◌, subst, arith, ltb→lt, lt→ltb, leb→le, le→leb, nltb→le}
use Rattle.std.proofs.Math.Dec.{nleb→lt}
use Rattle.std.proofs.Math.IntN.{sub_ℕ}
use Rattle.std.specs.Int.Signed.{mag, lt_z, le_z, lt_z_no}
use Rattle.std.specs.Int.{Width, w32, w64}
use mir.Val.{SFits, hbits, to_z, of_z}
use Rattle.std.proofs.lemmas.Int.{to_z-of_z}

-- the sum and the difference, which bind tighter than `◌≤ℤ◌` (`◌+ℤ◌` is infixl 6, `◌≤ℤ◌` infix 50)
infixl 65 ◌⊕◌ ◌⊖◌
abbrev pub ◌⊕◌ : ℤ → ℤ → ℤ
a ⊕ b = a +ℤ b

abbrev pub ◌⊖◌ : ℤ → ℤ → ℤ
a ⊖ b = a -ℤ b

-- the positive and the negative part, of which one is 0
abbrev pub P : ℤ → ℕ
P (pos n) = n
P (negsuc n) = 0

abbrev pub N : ℤ → ℕ
N (pos n) = 0
N (negsuc n) = suc n

-- ---- rules: a hypothesis read
pub le_in : (a b : ℤ) → a ≤ℤ b → P a + N b ≤ P b + N a
le_in (pos a) (pos b) h = let k : a ≤ b = leb→le a b h.le in omega arith
le_in (pos a) (negsuc b) h = absurd h.le
le_in (negsuc a) (pos b) h = omega arith
le_in (negsuc a) (negsuc b) h = let k : b ≤ a = leb→le b a h.le in omega arith

pub lt_in : (a b : ℤ) → a <ℤ b → P a + N b < P b + N a
lt_in (pos a) (pos b) h = let k : a < b = ltb→lt a b h.lt in omega arith
lt_in (pos a) (negsuc b) h = absurd h.lt
lt_in (negsuc a) (pos b) h = omega arith
lt_in (negsuc a) (negsuc b) h = let k : b < a = ltb→lt b a h.lt in omega arith

pub eq_in : (a b : ℤ) → a ≡ b → P a + N b ≡ P b + N a
eq_in a b e = let p : P a ≡ P b = ap P e in let n : N a ≡ N b = ap N e in omega arith

-- ---- rules: a goal turned
pub le_out : (a b : ℤ) → P a + N b ≤ P b + N a → a ≤ℤ b
le_out (pos a) (pos b) h = record { le = le→leb a b (omega arith) }
le_out (pos a) (negsuc b) h = absurd (omega arith)
le_out (negsuc a) (pos b) h = record { le = tt }
le_out (negsuc a) (negsuc b) h = record { le = le→leb b a (omega arith) }

pub lt_out : (a b : ℤ) → P a + N b < P b + N a → a <ℤ b
lt_out (pos a) (pos b) h = record { lt = lt→ltb a b (omega arith) }
lt_out (pos a) (negsuc b) h = absurd (omega arith)
lt_out (negsuc a) (pos b) h = record { lt = tt }
lt_out (negsuc a) (negsuc b) h = record { lt = lt→ltb b a (omega arith) }

pub eq_out : (a b : ℤ) → P a + N b ≡ P b + N a → a ≡ b
eq_out (pos a) (pos b) h = ap pos (omega arith)
eq_out (pos a) (negsuc b) h = absurd (omega arith)
eq_out (negsuc a) (pos b) h = absurd (omega arith)
eq_out (negsuc a) (negsuc b) h = ap negsuc (omega arith)

-- ---- facts of one sum
sub_parts : (a b : ℕ) → P (sub_ℕ a b) + b ≡ N (sub_ℕ a b) + a
sub_parts a b = go (ltb a b) (ltb→lt a b) (nltb→le a b)
  where
    go : (t : Bool) → (T t → a < b) → (T (not t) → b ≤ a)
        → P (cond t (negsuc (b - suc a)) (pos (a - b))) + b ≡ N (cond t (negsuc (b - suc a)) (pos (a - b))) + a
    go true f g = let k : a < b = f tt in omega arith
    go false f g = let k : b ≤ a = g tt in omega arith

pub sum : (a b : ℤ) → P (a +ℤ b) + N a + N b ≡ N (a +ℤ b) + P a + P b
sum (pos a) (pos b) = omega arith
sum (pos a) (negsuc b) = omega (arith, sub_parts a (suc b))
sum (negsuc a) (pos b) = omega (arith, sub_parts b (suc a))
sum (negsuc a) (negsuc b) = omega arith

pub neg : (a : ℤ) → P (neg_ℤ a) + P a ≡ N (neg_ℤ a) + N a
neg (pos zero) = refl
neg (pos (suc n)) = omega arith
neg (negsuc n) = omega arith

-- ---- ranges
-- z lies in -b ..= b: one of its parts is 0, the other at most b
abbrev pub Within : ℕ → ℤ → Type 0
Within b z = P z + N z ≤ b

-- a cost in -2^31 ..= 2^31, as every i32 is
abbrev pub Cost32 : ℤ → Type 0
Cost32 c = Within (2 ^ 31) c

-- z lies there if neither part passes the other by more
pub within_of : (b : ℕ) (z : ℤ) → P z ≤ b + N z → N z ≤ b + P z → Within b z
within_of b (pos n) h k = omega arith
within_of b (negsuc n) h k = omega arith

-- -k ≤ z < k, as bounds on differences
both : (z : ℤ) {k : ℕ} → mag z < k → Within k z
both (pos n) h = omega arith
both (negsuc n) h = omega arith

in_range_lem : (z : ℤ) {k : ℕ} → max (suc (P z) - N z) (N z - P z) ≤ k → mag z < k
in_range_lem (pos n) h = omega arith
in_range_lem (negsuc n) h = omega arith

-- (one rule serves a hypothesis, so this is one statement; it loses that z is not 2 ^ (w - 1) itself)
pub fits_in : (w : Width) (z : ℤ) → SFits w z → Within (2 ^ hbits w) z
fits_in w z f = both z f.sfits

pub fits_out : (w : Width) (z : ℤ) → max (suc (P z) - N z) (N z - P z) ≤ 2 ^ hbits w → SFits w z
fits_out w z h = record { sfits = in_range_lem z h }

-- ---- what a test of the code leaves: an equation of its flag
test : (b c : Bool) → b ≡ c → T c → T b
test b c e t = subst T (sym e) t

ntest : (b c : Bool) → b ≡ c → T (not c) → T (not b)
ntest b c e t = subst (λ (x : Bool). T (not x)) (sym e) t

pub lt_yes : (a b : ℤ) → lt_z a b ≡ true → P a + N b < P b + N a
lt_yes a b e = lt_in a b (record { lt = test (lt_z a b) true e tt })

pub lt_no : (a b : ℤ) → lt_z a b ≡ false → P b + N a ≤ P a + N b
lt_no a b e = le_in b a (lt_z_no (ntest (lt_z a b) false e tt))

pub le_yes : (a b : ℤ) → le_z a b ≡ true → P a + N b ≤ P b + N a
le_yes a b e = le_in a b (record { le = test (le_z a b) true e tt })

nle : (a b : ℤ) → T (not (le_z a b)) → T (lt_z b a)
nle (pos a) (pos b) t = lt→ltb b a (nleb→lt a b t)
nle (pos a) (negsuc b) t = tt
nle (negsuc a) (pos b) t = t
nle (negsuc a) (negsuc b) t = lt→ltb a b (nleb→lt b a t)

pub le_no : (a b : ℤ) → le_z a b ≡ false → P b + N a < P a + N b
le_no a b e = lt_in b a (record { lt = nle a b (ntest (le_z a b) false e tt) })

-- ---- a signed local holds bits: what is read back
pub widen : {z : ℤ} → SFits w32 z → SFits w64 z
widen {z} f = omega (arith, fits_in, fits_out)

-- an i32, cast to i64, read back
pub rd32 : (z : ℤ) → SFits w32 z → to_z w64 (of_z w64 (to_z w32 (of_z w32 z))) ≡ z
rd32 z f = ap (λ (v : ℤ). to_z w64 (of_z w64 v)) (to_z-of_z w32 z f) ∙ to_z-of_z w64 z (widen f)

pub ruleset zed = (le_in, lt_in, eq_in, lt_yes, lt_no, le_yes, le_no, fits_in, le_out, lt_out, eq_out, fits_out)

-- d + c as the machine computes it, d an i64 and c an i32 that is cast
abbrev pub machine : ℤ → ℤ → ℤ
machine d c = to_z w64 (of_z w64 d) +ℤ to_z w64 (of_z w64 (to_z w32 (of_z w32 c)))

pub machine_is : (d c : ℤ) → SFits w64 d → SFits w32 c → machine d c ≡ d ⊕ c
machine_is d c f g = λ i. to_z-of_z w64 d f i +ℤ rd32 c g i

pub machine_back : (d c : ℤ) → SFits w64 d → SFits w32 c → SFits w64 (machine d c) → to_z w64 (of_z w64 (machine d c)) ≡ d ⊕ c
machine_back d c f g k = to_z-of_z w64 (machine d c) k ∙ machine_is d c f g
