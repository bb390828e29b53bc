-- `lines::put_byte` meets its contract: a store is a text of one byte.
-- Assumes nothing.
use Rattle.lines.proofs.Places.{one_byte}
use Rattle.lines.proofs.put_byte.Goals as goal

pub returns : goal.returns
returns c = one_byte c.args.out.now c.args.at c.args.b c.requires
