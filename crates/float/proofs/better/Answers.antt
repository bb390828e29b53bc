-- `float::better` meets its contract.
-- Assumes nothing.
use Rattle.float.specs.Cutoff.{past}
use Rattle.std.specs.Prelude.{Some}
use Rattle.float.specs.Better.{better_within}
use Rattle.float.proofs.StoredOver.{counted_bits}
use Rattle.float.proofs.better.Goals as goal

pub counted-requires : goal.counted-requires
counted-requires c = c.requires.dist64

pub returns : goal.returns
unfolding better_within
returns c = rw c.counted.ensures (counted_bits (past (Some c.args.limit) c.args.next) c.args.next c.requires.dist64 c.requires.stored)
