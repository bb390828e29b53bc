-- Two answers by two tables with the same numbers and conditions, row by row: of one question with two memories, or of two questions that agree.
-- `beside`: both stop at the same row. So the numbers are equal, and what the one leaves is related to what the other leaves as that row shows.
-- Assumes nothing.
use mathlib.Core.Path.{◌≡◌, sym, ◌∙◌, subst}
use mathlib.Core.List.{List, [], ◌∷◌}
use Prim.Native.Nat.{ℕ}
use Rattle.numbers.specs.Numbers.{Not, Row, here, past, Follows}
use Rattle.numbers.specs.Over.{SameWhen}
use Rattle.numbers.proofs.Numbers.{not_both, is_over, not_over}

-- a row of two tables side by side: the same number, the same condition, what is left, and the rows behind it
pub alike : {A B F G : Type 0} → A → B → F → G → (A × B × F) × G
alike number same left behind = ((number, same, left), behind)

module _ {E E' : Type 0} (R : ℕ → E → E' → Type 0) where
  -- row by row the same number and the same condition, and R holds of what the two rows leave; the rows behind may rest on those that were passed
  abbrev pub Beside : List (Row E) → List (Row E') → Type 0
  Beside [] [] = Unit
  Beside [] (r ∷ rs) = ⊥
  Beside (r ∷ rs) [] = ⊥
  Beside (r ∷ rs) (r' ∷ rs') =
      ((r.number ≡ r'.number) × SameWhen r.when r'.when × ((e : E) (e' : E') → r.leaves e → r'.leaves e' → R r.number e e'))
      × (Not r.when → Not r'.when → Beside rs rs')

  pub beside : (rs : List (Row E)) (rs' : List (Row E')) (e : E) (e' : E') (n n' : ℕ) → Beside rs rs' → Follows rs e n → Follows rs' e' n' → (n ≡ n') × R n e e'
  beside [] rs' e e' n n' o f g = absurd f
  beside (r ∷ rs) [] e e' n n' o f g = absurd o
  beside (r ∷ rs) (r' ∷ rs') e e' n n' o (here w x) (here w' y) =
      (x.0 ∙ (o.0.0 ∙ sym y.0), subst (λ (k : ℕ). R k e e') (sym x.0) (o.0.2 e e' x.1 y.1))
  beside (r ∷ rs) (r' ∷ rs') e e' n n' o (here w x) (past w' g) = absurd (not_both r'.when (is_over r.when r'.when o.0.1 w) w')
  beside (r ∷ rs) (r' ∷ rs') e e' n n' o (past w f) (here w' y) = absurd (not_both r'.when w' (not_over r.when r'.when o.0.1 w))
  beside (r ∷ rs) (r' ∷ rs') e e' n n' o (past w f) (past w' g) = beside rs rs' e e' n n' (o.1 w w') f g
