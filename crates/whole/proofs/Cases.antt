-- Small laws on tests and numbers that rule out a case or pick one.
-- Assumes nothing.
use mathlib.Core.Path.{◌≡◌, refl, sym, ◌∙◌}
use mathlib.Core.Bool.{Bool, true, false, not, ◌&&◌, ◌||◌, cond, true≢false}
use Prim.Native.Nat.{ℕ}

-- no test gives both answers
pub clash : {b : Bool} → b ≡ true → b ≡ false → ⊥
clash p q = true≢false (sym p ∙ q)

-- no number is two different ones
pub other : {A : Type 0} {number : ℕ} (x y : ℕ) → number ≡ x → number ≡ y → (x ≡ y → ⊥) → A
other x y p q f = absurd (f (sym p ∙ q))

-- what holds of both ways of a test holds of what it picks
pub by_test : {A : Type 0} (P : A → Type 0) (b : Bool) (x y : A) → (b ≡ true → P x) → (b ≡ false → P y) → P (cond b x y)
by_test P true x y p q = p refl
by_test P false x y p q = q refl

-- the two halves of a test that holds
pub and_left : (x y : Bool) → (x && y) ≡ true → x ≡ true
and_left true y e = refl
and_left false y e = e

pub and_right : (x y : Bool) → (x && y) ≡ true → y ≡ true
and_right true y e = e
and_right false y e = absurd (clash e refl)

pub both_of : (x y : Bool) → x ≡ true → y ≡ true → (x && y) ≡ true
both_of x y p q = rw (p, q)

-- the two halves of a choice that fails
pub or_no : (x y : Bool) → (x || y) ≡ false → (x ≡ false) × (y ≡ false)
or_no true y e = absurd (true≢false e)
or_no false y e = (refl, e)

-- tests that hold together are equal
pub agree : (x y : Bool) → (x ≡ true → y ≡ true) → (y ≡ true → x ≡ true) → x ≡ y
agree true true f g = refl
agree true false f g = sym (f refl)
agree false true f g = g refl
agree false false f g = refl

-- a test whose opposite holds fails, and the other way round
pub not_t : (x : Bool) → not x ≡ true → x ≡ false
not_t true e = sym e
not_t false e = refl

pub not_f : (x : Bool) → not x ≡ false → x ≡ true
not_f true e = refl
not_f false e = sym e
