-- The tests in front of a table, its first j rows: for the functions that make them one by one, and for the laws about those.
-- Assumes nothing.
use Rattle.std.specs.Prelude.{◌≡◌, false, cond, List, [], ◌∷◌, ℕ, zero, suc, eqb}
use Rattle.numbers.specs.Numbers.{When, fails, holds, Not, Row}

-- k where the test fails, else n
abbrev pub if_fails : When → ℕ → ℕ → ℕ
if_fails (fails b) k n = cond b n k
if_fails (holds C) k n = 0

-- the number of the first that fails, else 0
abbrev pub first_no : {E : Type 0} → ℕ → List (Row E) → ℕ
first_no zero rs = 0
first_no (suc j) [] = 0
first_no (suc j) (r ∷ rs) = if_fails r.when r.number (first_no j rs)

-- at a test both, at no test neither
abbrev pub AtTest : When → Type 0 → Type 0 → Type 0
AtTest (fails b) A B = A × B
AtTest (holds C) A B = Unit

-- they leave b
abbrev pub Leaves : {E : Type 0} → ℕ → List (Row E) → E → Type 0
Leaves zero rs b = Unit
Leaves (suc j) [] b = Unit
Leaves (suc j) (r ∷ rs) b = AtTest r.when (r.leaves b) (Leaves j rs b)

-- none of them is numbered 0
abbrev pub Numbered : {E : Type 0} → ℕ → List (Row E) → Type 0
Numbered zero rs = Unit
Numbered (suc j) [] = Unit
Numbered (suc j) (r ∷ rs) = AtTest r.when (eqb r.number 0 ≡ false) (Numbered j rs)

-- all hold
abbrev pub Passing : {E : Type 0} → ℕ → List (Row E) → Type 0
Passing zero rs = Unit
Passing (suc j) [] = Unit
Passing (suc j) (r ∷ rs) = AtTest r.when (Not r.when) (Passing j rs)
