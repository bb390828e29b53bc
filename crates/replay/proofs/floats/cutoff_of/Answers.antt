-- Bits that are not bad are those of no NaN.
use Rattle.std.proofs.Common.{sym, ◌∙◌}
use Rattle.std.specs.Float.{binary64}
use Rattle.float.proofs.Cost.{good_no_nan}
use Rattle.replay.proofs.floats.cutoff_of.Goals as goal

pub float_from_bits-result : goal.float_from_bits-result
float_from_bits-result c = good_no_nan binary64 c.args.bits (sym c.bad_cost.ensures ∙ c.if-bad_cost.false)
