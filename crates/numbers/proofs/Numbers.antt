-- What holds of every table of numbers, proved once.
-- `follows_one`: two answers that the rows allow are equal, where each row settles what it leaves. `given`: a number given tells its row. `exactly`: a number is
-- given exactly when the condition of its row holds and none before it. `one_of`: it is one of the table. `follows_over`: from a table to one with the same
-- conditions. `refused`, `passed`: the tests in front, by the number of the first that fails. `beside`: two calls by tables with the same conditions stop at the
-- same row. `among`: where some tests pass, the number is that of another row. `left`: a number given tells what is left.
-- Assumes nothing.
use mathlib.Core.Path.{◌≡◌, refl, sym, ◌∙◌, subst}
use mathlib.Core.Bool.{Bool, true, false, not, cond}
use mathlib.Core.List.{List, [], ◌∷◌}
use mathlib.Core.Logic.{◌⊎◌, inl, inr, ⊎_elim, ◌↔◌}
use Prim.Native.Nat.{ℕ, zero, suc}
use lib.Dec.{eqb}
use borrow.Author.Tests.{eqb-true, eqb-false}
use Rattle.whole.proofs.Cases.{clash, and_left, and_right, not_t}
use Rattle.numbers.specs.Numbers.{When, fails, holds, Is, Not, Row, Step, here, past, Follows, OneOf, fresh, at_row, At, Given}
use Rattle.numbers.specs.Over.{Settles, SameWhen, Over}
use Rattle.numbers.specs.Tests.{if_fails, first_no, AtTest, Leaves, Numbered, Passing}

-- a condition does not hold and fail
pub not_both : (w : When) → Is w → Not w → ⊥
not_both (fails b) p q = clash q p
not_both (holds C) p q = q p

-- a fact for each row: one, then the next, and `tt` at the end
infixr 20 ◌then◌
pub ◌then◌ : {A B : Type 0} → A → B → A × B
x then y = (x, y)

-- what is equal to one thing is settled
pub is_one : {E : Type 0} {x : E} (e e' : E) → e ≡ x → e' ≡ x → e ≡ e'
is_one e e' p q = p ∙ sym q

-- a condition is the same as itself
pub itself : {C : Type 0} → C ↔ C
itself = (λ c. c, λ c. c)

-- at a row of the number, or past it
module _ {A B : Type 0} where
  row_here : (t l : Bool) → (t ≡ false → A → B) → A → at_row t l A B
  row_here true true f x = x
  row_here true false f x = inl x
  row_here false l f x = f refl x

  row_past : (t l : Bool) → (t ≡ true → l ≡ true → B → A) → B → at_row t l A B
  row_past true true f x = f refl refl x
  row_past true false f x = inr x
  row_past false l f x = x

  -- either way
  row_or : {R : Type 0} (t l : Bool) → (t ≡ true → A → R) → (B → R) → at_row t l A B → R
  row_or true true f g x = f refl x
  row_or true false f g (inl x) = f refl x
  row_or true false f g (inr x) = g x
  row_or false l f g x = g x

  row_over : {A' B' : Type 0} (t l : Bool) → (A → A') → (B → B') → at_row t l A B → at_row t l A' B'
  row_over true true f g x = f x
  row_over true false f g (inl x) = inl (f x)
  row_over true false f g (inr x) = inr (g x)
  row_over false l f g x = g x

-- ---- two answers are equal
pub follows_one : {E : Type 0} (rs : List (Row E)) (e e' : E) (n n' : ℕ) → Settles rs → Follows rs e n → Follows rs e' n' → (n ≡ n') × (e ≡ e')
follows_one [] e e' n n' s f g = absurd f
follows_one (r ∷ rs) e e' n n' s (here w x) (here w' y) = (x.0 ∙ sym y.0, s.0 e e' x.1 y.1)
follows_one (r ∷ rs) e e' n n' s (here w x) (past w' g) = absurd (not_both r.when w w')
follows_one (r ∷ rs) e e' n n' s (past w f) (here w' y) = absurd (not_both r.when w' w)
follows_one (r ∷ rs) e e' n n' s (past w f) (past w' g) = follows_one rs e e' n n' s.1 f g

-- ---- the number
module _ {E : Type 0} where
  pub one_of : (rs : List (Row E)) (e : E) (n : ℕ) → Follows rs e n → OneOf rs n
  one_of [] e n f = f
  one_of (r ∷ rs) e n (here w x) = inl x.0
  one_of (r ∷ rs) e n (past w f) = inr (one_of rs e n f)

  -- no row has a fresh number
  fresh_not : (k : ℕ) (rs : List (Row E)) (e : E) (n : ℕ) → fresh k rs ≡ true → Follows rs e n → k ≡ n → ⊥
  fresh_not k [] e n h f q = f
  fresh_not k (r ∷ rs) e n h (here w x) q = eqb-false k r.number (not_t _ (and_left (not (eqb k r.number)) _ h)) (q ∙ x.0)
  fresh_not k (r ∷ rs) e n h (past w f) q = fresh_not k rs e n (and_right (not (eqb k r.number)) _ h) f q

  -- a number given tells its row
  pub given : (rs : List (Row E)) (e : E) (n : ℕ) → Follows rs e n → (k : ℕ) → n ≡ k → Given k rs e
  given [] e n f k q = f
  given (r ∷ rs) e n (here w x) k q = row_here (eqb k r.number) (fresh k rs) (λ t y. absurd (eqb-false k r.number t (sym q ∙ x.0))) (w, x.1)
  given (r ∷ rs) e n (past w f) k q = row_past (eqb k r.number) (fresh k rs) (λ t l y. absurd (fresh_not k rs e n l f (sym q))) (w, given rs e n f k q)

  -- and so its condition
  given_at : (rs : List (Row E)) (e : E) (k : ℕ) → Given k rs e → At k rs
  given_at [] e k g = g
  given_at (r ∷ rs) e k g = row_over (eqb k r.number) (fresh k rs) (λ x. x.0) (λ x. (x.0, given_at rs e k x.1)) g

  -- a row that is reached gives its number
  at_given : (rs : List (Row E)) (e : E) (n k : ℕ) → At k rs → Follows rs e n → n ≡ k
  at_given [] e n k a f = absurd a
  at_given (r ∷ rs) e n k a (here w x) = row_or (eqb k r.number) (fresh k rs) (λ t y. x.0 ∙ sym (eqb-true k r.number t)) (λ y. absurd (not_both r.when w y.0)) a
  at_given (r ∷ rs) e n k a (past w f) = row_or (eqb k r.number) (fresh k rs) (λ t y. absurd (not_both r.when y w)) (λ y. at_given rs e n k y.1 f) a

  -- each number, exactly when
  pub exactly : (rs : List (Row E)) (e : E) (n : ℕ) → Follows rs e n → (k : ℕ) → (n ≡ k) ↔ At k rs
  exactly rs e n f k = (λ q. given_at rs e k (given rs e n f k q), λ a. at_given rs e n k a f)

-- ---- from table to table
pub is_over : (w w' : When) → SameWhen w w' → Is w → Is w'
is_over (fails b) (fails b') s p = sym s ∙ p
is_over (fails b) (holds C) s p = absurd s
is_over (holds C) (fails b) s p = absurd s
is_over (holds C) (holds C') s p = s.0 p

pub not_over : (w w' : When) → SameWhen w w' → Not w → Not w'
not_over (fails b) (fails b') s p = sym s ∙ p
not_over (fails b) (holds C) s p = absurd s
not_over (holds C) (fails b) s p = absurd s
not_over (holds C) (holds C') s p = λ c. p (s.1 c)

pub follows_over : {E : Type 0} (rs rs' : List (Row E)) (e : E) (n : ℕ) → Over rs rs' → Follows rs e n → Follows rs' e n
follows_over [] [] e n o f = f
follows_over [] (r ∷ rs) e n o f = absurd o
follows_over (r ∷ rs) [] e n o f = absurd o
follows_over (r ∷ rs) (r' ∷ rs') e n o (here w x) = here (is_over r.when r'.when o.0.1 w) (x.0 ∙ o.0.0, o.0.2 e x.1)
follows_over (r ∷ rs) (r' ∷ rs') e n o (past w f) = past (not_over r.when r'.when o.0.1 w) (follows_over rs rs' e n o.1 f)

-- ---- the tests in front
-- the first of them fails, or the rest is looked at
module _ {A B X : Type 0} (n k m : ℕ) (f : n ≡ 0 → ⊥) (go : B → n ≡ m → X) where
  test_refused : (b : Bool) → A × B → n ≡ cond b m k → Step (fails b) ((n ≡ k) × A) X
  test_refused true l p = past refl (go l.1 p)
  test_refused false l p = here refl (p, l.0)

  when_refused : (w : When) → AtTest w A B → n ≡ if_fails w k m → Step w ((n ≡ k) × A) X
  when_refused (fails b) l p = test_refused b l p
  when_refused (holds C) l p = absurd (f p)

pub refused : {E : Type 0} (j : ℕ) (rs : List (Row E)) (b : E) → Leaves j rs b → (n : ℕ) → n ≡ first_no j rs → (n ≡ 0 → ⊥) → Follows rs b n
refused zero rs b l n q f = absurd (f q)
refused (suc j) [] b l n q f = absurd (f q)
refused (suc j) (r ∷ rs) b l n q f = when_refused n r.number (first_no j rs) f (λ l' p. refused j rs b l' n p f) r.when l q

-- none fails
module _ {B X : Type 0} (k m : ℕ) (go : B → m ≡ 0 → X) where
  test_passed : (b : Bool) → (eqb k 0 ≡ false) × B → cond b m k ≡ 0 → (b ≡ true) × X
  test_passed true e p = (refl, go e.1 p)
  test_passed false e p = absurd (eqb-false k 0 e.0 p)

  when_passed : (w : When) → AtTest w (eqb k 0 ≡ false) B → if_fails w k m ≡ 0 → AtTest w (Not w) X
  when_passed (fails b) e p = test_passed b e p
  when_passed (holds C) e p = tt

pub passed : {E : Type 0} (j : ℕ) (rs : List (Row E)) → Numbered j rs → first_no j rs ≡ 0 → Passing j rs
passed zero rs k q = tt
passed (suc j) [] k q = tt
passed (suc j) (r ∷ rs) k q = when_passed r.number (first_no j rs) (λ k' p. passed j rs k' p) r.when k q

-- ---- each row is known to be passed, or its number is one that P names
module _ {E : Type 0} (P : ℕ → Type 0) where
  abbrev pub Among : List (Row E) → Type 0
  Among [] = Unit
  Among (r ∷ rs) = (Not r.when ⊎ P r.number) × Among rs

  pub among : (rs : List (Row E)) (e : E) (n : ℕ) → Among rs → Follows rs e n → P n
  among [] e n a f = absurd f
  among (r ∷ rs) e n a (here w x) = subst P (sym x.0) (⊎_elim (λ q. absurd (not_both r.when w q)) (λ p. p) a.0)
  among (r ∷ rs) e n a (past w f) = among rs e n a.1 f

-- ---- what the rows of a number leave
module _ {E : Type 0} where
  abbrev pub Left : ℕ → List (Row E) → E → Type 0
  Left k [] e = ⊥
  Left k (r ∷ rs) e = at_row (eqb k r.number) (fresh k rs) (r.leaves e) (Left k rs e)

  given_left : (rs : List (Row E)) (e : E) (k : ℕ) → Given k rs e → Left k rs e
  given_left [] e k g = g
  given_left (r ∷ rs) e k g = row_over (eqb k r.number) (fresh k rs) (λ x. x.1) (λ x. given_left rs e k x.1) g

  pub left : (rs : List (Row E)) (e : E) (n : ℕ) → Follows rs e n → (k : ℕ) → n ≡ k → Left k rs e
  left rs e n f k q = given_left rs e k (given rs e n f k q)

-- ---- the rows behind the first j, where none of these holds
abbrev pub behind : {E : Type 0} → ℕ → List (Row E) → List (Row E)
behind zero rs = rs
behind (suc j) [] = []
behind (suc j) (r ∷ rs) = behind j rs

abbrev pub NoneOf : {E : Type 0} → ℕ → List (Row E) → Type 0
NoneOf zero rs = Unit
NoneOf (suc j) [] = Unit
NoneOf (suc j) (r ∷ rs) = Not r.when × NoneOf j rs

pub follows_behind : {E : Type 0} (j : ℕ) (rs : List (Row E)) (e : E) (n : ℕ) → NoneOf j rs → Follows rs e n → Follows (behind j rs) e n
follows_behind zero rs e n t f = f
follows_behind (suc j) [] e n t f = f
follows_behind (suc j) (r ∷ rs) e n t (here w x) = absurd (not_both r.when w t.0)
follows_behind (suc j) (r ∷ rs) e n t (past w f) = follows_behind j rs e n t.1 f
