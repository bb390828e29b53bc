-- What a list weighs, element by element.
use Rattle.std.specs.Prelude.{List, [], ◌∷◌, ℕ, ◌+◌, ℤ}

-- the weights of the elements together
unfoldable pub weigh : (ℤ → ℕ) → List ℤ → ℕ
weigh w [] = 0
weigh w (x ∷ l) = w x + weigh w l
