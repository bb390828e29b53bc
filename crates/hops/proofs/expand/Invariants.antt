-- `hops::expand` meets its contract.
-- Assumes nothing.
use lib.ListN.{get_or}
use Rattle.hops.proofs.Waves.{Rowing}
use Rattle.hops.proofs.expand.Given as goal

abbrev pub invariant-loop-i : goal.invariant-loop-i
invariant-loop-i l =
    let r = l.rows in
    Rowing r.bound l.source r.offsets.now r.heads.now l.u (get_or l.initial.labels l.u 0) l.i l.place l.size l.initial.labels l.initial.queue l.labels l.queue
