-- `bellman_ford::relax_row` meets its contract.
-- Assumes nothing.
use Rattle.rows.specs.Rows.{lists_in}
use Rattle.bellman_ford.specs.Search.{memory_of}
use Rattle.bellman_ford.proofs.Row.{Row}
use Rattle.bellman_ford.proofs.relax_row.Given as goal

abbrev pub invariant-loop-i : goal.invariant-loop-i
invariant-loop-i l =
    Row l.m l.p l.source (lists_in l.lists) l.u l.d l.k l.i l.head l.waiting l.size
    (memory_of l.initial.dist l.initial.queue l.initial.queued l.initial.lengths) (memory_of l.dist l.queue l.queued l.lengths)
