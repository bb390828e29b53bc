-- What a question shows of its table, row by row, for the laws of every table: each row settles what is left; another has the same rows.
-- Assumes nothing.
use Rattle.std.specs.Prelude.{◌≡◌, List, [], ◌∷◌, ◌↔◌}
use Rattle.numbers.specs.Numbers.{When, fails, holds, Row}

-- each row settles what is left
abbrev pub Settles : {E : Type 0} → List (Row E) → Type 0
Settles [] = Unit
Settles {E} (r ∷ rs) = ((e e' : E) → r.leaves e → r.leaves e' → e ≡ e') × Settles rs

-- the same condition
abbrev pub SameWhen : When → When → Type 0
SameWhen (fails b) (fails b') = b ≡ b'
SameWhen (fails b) (holds C) = ⊥
SameWhen (holds C) (fails b) = ⊥
SameWhen (holds C) (holds C') = C ↔ C'

-- the same number, the same condition, and what the first leaves the second allows
abbrev pub SameRow : {E : Type 0} → Row E → Row E → Type 0
SameRow {E} r r' = (r.number ≡ r'.number) × SameWhen r.when r'.when × ((e : E) → r.leaves e → r'.leaves e)

-- row by row
abbrev pub Over : {E : Type 0} → List (Row E) → List (Row E) → Type 0
Over [] [] = Unit
Over [] (r ∷ rs) = ⊥
Over (r ∷ rs) [] = ⊥
Over (r ∷ rs) (r' ∷ rs') = SameRow r r' × Over rs rs'
