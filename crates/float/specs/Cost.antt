-- Which patterns are bad costs.
-- Assumes nothing.
use Rattle.std.specs.Prelude.{Bool, ◌||◌, ℕ, leb}
use Rattle.std.specs.Float.{Format}
use Rattle.std.specs.Float.Ieee.{top, of_bits, is_nan}

-- the sign bit is set, or it is a NaN
unfoldable pub bad_cost : Format → ℕ → Bool
bad_cost f b = leb (top f) b || is_nan (of_bits f b)
