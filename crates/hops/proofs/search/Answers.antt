-- `hops::search` meets its contract.
-- Assumes nothing.
use Rattle.std.proofs.Common.{inl, inr}
use Rattle.hops.proofs.Waves.{turn_first, searched, kept_refl}
use Rattle.hops.proofs.search.Goals as goal

pub loop-head-init : goal.loop-head-init
loop-head-init c = record { turning = turn_first c.requires c.meet-size.ensures; rest = kept_refl _ _ _ }

pub returns-else-size-rows : goal.returns-else-size-rows
returns-else-size-rows c = searched c.args.rows.sound c.requires c.meet-size.ensures c.loop-head.invariant (inr c.if-size-rows.false)

pub returns-after-loop-head : goal.returns-after-loop-head
returns-after-loop-head c = searched c.args.rows.sound c.requires c.meet-size.ensures c.loop-head.invariant (inl c.loop-head-test.false)
