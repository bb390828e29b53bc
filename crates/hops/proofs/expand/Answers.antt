-- `hops::expand` meets its contract.
-- Assumes nothing.
use Rattle.std.proofs.Common.{arith}
use Rattle.hops.proofs.Waves.{rowing_next, rowing_ends, few_queued, row_below}
use Rattle.hops.proofs.expand.Goals as goal

pub meet-size-requires : goal.meet-size-requires
meet-size-requires c =
    let f = c.args.rows.sound in
    let o = c.loop-i.invariant.state in
    let b = row_below f o c.loop-i-test.true in
    (omega (arith, b, o.good.room_l), omega (arith, few_queued o.good, f.bounded), omega (arith, few_queued o.good, o.good.room_q))

pub loop-i-preserved : goal.loop-i-preserved
loop-i-preserved c = rowing_next c.args.rows.sound c.loop-i.invariant c.loop-i-test.true (rw c.from.ensures at c.meet-size.ensures)

pub returns : goal.returns
returns c = rowing_ends c.args.rows.sound c.loop-i.invariant c.loop-i-test.false
