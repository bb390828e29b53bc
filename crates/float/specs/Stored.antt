-- What a place of f64 distances holds while a search runs.
-- Assumes nothing.
use Rattle.std.specs.Prelude.{ℕ}
use Rattle.clean.specs.None.{none_f64}
use Rattle.float.specs.Dist.{Dist64}

-- none, or a distance
pub data Stored : ℕ → Type 0 where
  none : Stored none_f64
  some : {x : ℕ} → Dist64 x → Stored x
