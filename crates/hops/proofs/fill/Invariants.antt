-- `hops::fill` meets its contract.
-- Assumes nothing.
use Rattle.hops.specs.Search.{Filled, RowLeads}
use Rattle.hops.proofs.fill.Given as goal

abbrev pub invariant-loop-i : goal.invariant-loop-i
invariant-loop-i l =
    let r = l.rows in
    Filled r.bound l.p l.i (RowLeads r.bound r.offsets.now r.heads.now) l.nodes l.initial.labels l.initial.queue l.initial.matrix l.labels l.queue l.matrix
