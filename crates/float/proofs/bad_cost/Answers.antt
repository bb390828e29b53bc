-- `float::bad_cost` meets its contract.
-- Assumes nothing.
use lib.Ieee.{binary64}
use Rattle.float.proofs.Cost.{bad_is}
use Rattle.float.proofs.bad_cost.Goals as goal

pub returns : goal.returns
returns c = bad_is binary64 c.args.bits
