-- The test that stores a total, by cases.
-- Assumes nothing.
use mathlib.Core.Path.{◌≡◌}
use mathlib.Core.Bool.{true, false}
use lib.IntN.{ℤ}
use lib.Signed.{lt_z}
use Rattle.clean.specs.None.{none_i64}
use Rattle.clean.specs.Better.{better_than}

-- where there is a distance
pub better_over : (n old : ℤ) → lt_z none_i64 old ≡ true → lt_z n old ≡ better_than n old
unfolding better_than
better_over n old e = rw e

-- where there is none
pub better_none : (n old : ℤ) → lt_z none_i64 old ≡ false → true ≡ better_than n old
unfolding better_than
better_none n old e = rw e
