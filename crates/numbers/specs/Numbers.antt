-- A question's promise as the table of numbers that 01 gives: row by row a number, when it is given, and what the call then leaves.
-- Assumes nothing.
use Rattle.std.specs.Prelude.{◌≡◌, Bool, true, false, not, ◌&&◌, List, [], ◌∷◌, ◌⊎◌, ℕ, eqb}

-- when a row is given: a test of the inputs fails, or a condition on them holds
pub data When : Type 1 where
  fails : Bool → When
  holds : Type 0 → When

-- it is so
abbrev pub Is : When → Type 0
Is (fails b) = b ≡ false
Is (holds C) = C

-- it is not so
abbrev pub Not : When → Type 0
Not (fails b) = b ≡ true
Not (holds C) = C → ⊥

-- a row: the number, when, and what is left. E is what a call leaves: buffers, and what is returned beside the number;
-- `when` cannot speak of it
pub record Row (E : Type 0) : Type 1 where
  pub number : ℕ
  pub when : When
  pub leaves : E → Type 0

-- such a row from its parts
abbrev pub row : {E : Type 0} → ℕ → When → (E → Type 0) → Row E
row n w l = record { number = n; when = w; leaves = l }

-- the last row: none of the conditions before it holds
abbrev pub done : {E : Type 0} → (E → Type 0) → Row E
done l = row 0 (holds Unit) l

-- A where it is so, else B
pub data Step (w : When) (A B : Type 0) : Type 0 where
  here : Is w → A → Step w A B
  past : Not w → B → Step w A B

-- the rows are looked at in their order: the number is that of the first row whose condition holds, and what is left is what that row says
abbrev pub Follows : {E : Type 0} → List (Row E) → E → ℕ → Type 0
Follows [] e n = ⊥
Follows (r ∷ rs) e n = Step r.when ((n ≡ r.number) × r.leaves e) (Follows rs e n)

-- ---- what is said of a table
-- the number is one of those in the table
abbrev pub OneOf : {E : Type 0} → List (Row E) → ℕ → Type 0
OneOf [] n = ⊥
OneOf (r ∷ rs) n = (n ≡ r.number) ⊎ OneOf rs n

-- no row has the number k
abbrev pub fresh : {E : Type 0} → ℕ → List (Row E) → Bool
fresh k [] = true
fresh k (r ∷ rs) = not (eqb k r.number) && fresh k rs

-- at a row: A where it alone has the number, A or B where a later one has it too, B where it has another
abbrev pub at_row : Bool → Bool → Type 0 → Type 0 → Type 0
at_row true true A B = A
at_row true false A B = A ⊎ B
at_row false last A B = B

-- a row of the number k is reached: its condition holds, and none before it
abbrev pub At : {E : Type 0} → ℕ → List (Row E) → Type 0
At k [] = ⊥
At k (r ∷ rs) = at_row (eqb k r.number) (fresh k rs) (Is r.when) (Not r.when × At k rs)

-- the same, and what it says is left
abbrev pub Given : {E : Type 0} → ℕ → List (Row E) → E → Type 0
Given k [] e = ⊥
Given k (r ∷ rs) e = at_row (eqb k r.number) (fresh k rs) (Is r.when × r.leaves e) (Not r.when × Given k rs e)
