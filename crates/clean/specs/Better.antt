-- When a total is stored over what a search holds.
-- Assumes nothing.
use Rattle.std.specs.Prelude.{Bool, true, cond, ℤ}
use Rattle.std.specs.Int.Signed.{lt_z}
use Rattle.clean.specs.None.{none_i64}

-- a total takes the place of none, or of a greater distance
unfoldable pub better_than : ℤ → ℤ → Bool
better_than next stored = cond (lt_z none_i64 stored) (lt_z next stored) true
