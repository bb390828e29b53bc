-- `floyd_warshall::start` meets its contract.
-- Assumes nothing.
use Rattle.floyd_warshall.proofs.Stores.{starting_first, starting_more}
use Rattle.floyd_warshall.proofs.start.Goals as goal

pub loop-i-init : goal.loop-i-init
loop-i-init c = starting_first c.args.p c.args.cells.now c.fill.new.s c.requires c.fill.ensures

pub loop-i-preserved : goal.loop-i-preserved
loop-i-preserved c = starting_more _ _ _ c.loop-i-test.true c.loop-i.invariant
