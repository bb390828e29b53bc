-- When a total is stored over what a search holds.
-- Assumes nothing.
use Rattle.std.specs.Prelude.{Bool, not, ◌&&◌, ◌||◌, ℕ, eqb, Float}
use Rattle.clean.specs.None.{none_f64}
use Rattle.float.specs.Dist.{lt64}
use Rattle.float.specs.Cutoff.{past}
use Rattle.std.specs.Prelude.{Some}

-- a total takes the place of none, or of a greater distance
unfoldable pub better_than : ℕ → ℕ → Bool
better_than next stored = eqb stored none_f64 || lt64 next stored

-- with a cutoff at a limit, a total that is not past it
unfoldable pub better_within : Float → ℕ → ℕ → Bool
better_within limit next stored = not (past (Some limit) next) && better_than next stored
