-- `float::plus` meets its contract.
-- Assumes nothing.
use mathlib.Core.Path.{refl}
use lib.Ieee.{binary64}
use Rattle.float.specs.Dist.{plus64}
use Rattle.float.proofs.Dist.{no_nan}
use Rattle.float.proofs.Cost.{good_no_nan, sum_dist}
use Rattle.float.proofs.plus.Goals as goal

pub float_from_bits-result : goal.float_from_bits-result
float_from_bits-result c = good_no_nan binary64 c.args.d c.requires.dist64

pub float_from_bits-result-2 : goal.float_from_bits-result-2
float_from_bits-result-2 c = good_no_nan binary64 c.args.bits c.requires.dist64_2

pub float_to_bits-result : goal.float_to_bits-result
float_to_bits-result c = no_nan _ (sum_dist _ _ c.requires.dist64 c.requires.dist64_2).is_clear

pub returns : goal.returns
unfolding plus64
returns c = refl
