-- `clean::fill` meets its contract.
-- Assumes nothing.
use Rattle.std.proofs.Common.{arith}
use Rattle.clean.proofs.Filling.{starts, goes_on, ends, over_front}
use Rattle.clean.proofs.fill.Goals as goal

pub loop-cell-init : goal.loop-cell-init
loop-cell-init g c = starts (omega arith)

pub loop-cell-preserved : goal.loop-cell-preserved
loop-cell-preserved g c = goes_on c.loop-cell.invariant c.loop-cell-test.true

pub returns : goal.returns
returns g c =
    over_front c.args.n c.args.x c.args.s.now c.loop-cell.cell-items c.requires (ends c.loop-cell.invariant c.loop-cell-test.false)
