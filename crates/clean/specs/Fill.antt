-- What is left in a lent slice of which a part is used: the first places hold what is told, the rest is as it was.
-- Assumes nothing.
use Rattle.std.specs.Prelude.{◌≡◌, List, ◌++◌, ℕ, ◌<◌, length, get_or, drop, replicate}

-- x at the first n places
unfoldable pub filled : {A : Type 0} → ℕ → A → List A → List A
filled n x l = replicate n x ++ drop n l

-- at each of the first n places a value that E allows there (n is at most the length, so that no default d shows)
pub record Settled {A : Type 0} (n : ℕ) (E : ℕ → A → Type 0) (before after : List A) : Type 0 where
  pub long : length after ≡ length before
  pub each : (i : ℕ) (d : A) → i < n → E i (get_or after i d)
  pub rest : drop n after ≡ drop n before
