-- `float::cuts` meets its contract.
-- Assumes nothing.
use mathlib.Core.Path.{refl}
use lib.Ieee.{binary64}
use Rattle.float.specs.Cutoff.{past}
use Rattle.float.proofs.Cost.{good_no_nan}
use Rattle.float.proofs.cuts.Goals as goal

pub float_from_bits-result : goal.float_from_bits-result
float_from_bits-result c = good_no_nan binary64 c.args.next c.requires

pub returns : goal.returns
unfolding past
returns c = refl
