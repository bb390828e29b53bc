-- `hops::search` meets its contract.
-- Assumes nothing.
use Prim.Native.Nat.{◌-◌}
use Rattle.hops.proofs.Waves.{Searching}
use Rattle.hops.proofs.search.Given as goal

abbrev pub invariant-loop-head : goal.invariant-loop-head
invariant-loop-head l = Searching l.rows.bound l.source l.rows.offsets.now l.rows.heads.now l.head l.size l.initial.labels l.initial.queue l.labels l.queue

abbrev pub decreases-loop-head : goal.decreases-loop-head
decreases-loop-head l = l.rows.bound - l.head
