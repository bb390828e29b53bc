-- `float::limit` meets its contract.
-- Assumes nothing.
use mathlib.Core.Path.{◌∙◌}
use Rattle.float.proofs.Past.{limit_is}
use Rattle.float.proofs.limit.Goals as goal

pub returns : goal.returns
unfolding lib.Ieee.of_bits Rattle.float.specs.Cutoff.limit_of
returns c = c.unwrap_or.ensures ∙ limit_is c.args.cutoff
