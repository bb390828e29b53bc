-- The buffer of ranks that set_ranks leaves.
-- Assumes nothing.
use Rattle.std.specs.Prelude.{◌≡◌, Bool, List, ℕ, ◌<◌, length, get_or, drop}
use Rattle.net.specs.Net.{rising}

-- the first n entries say of each index how many below it f holds for; the rest is as it was
pub record Ranks (f : ℕ → Bool) (n : ℕ) (before after : List ℕ) : Type 0 where
  pub long : length after ≡ length before
  pub each : (u : ℕ) → u < n → get_or after u 0 ≡ length (rising f u)
  pub rest : drop n after ≡ drop n before
