-- `bellman_ford::search` meets its contract.
-- The loop's invariant is `Turning` of proofs/Turns.antt, at whose head the argument stands: between two turns an index that does not wait has no arc to relax. The
-- index taken has a label, so its row may be looked through; that gives a closed walk below zero, or the invariant again with less left to do. When nothing waits the
-- labels are the answer.
-- Assumes nothing.
use Rattle.rows.specs.Rows.{lists_in}
use Rattle.bellman_ford.specs.Search.{memory_of, to_do}
use Rattle.bellman_ford.proofs.Turns.{Turning}
use Rattle.bellman_ford.proofs.search.Given as goal

abbrev pub invariant-loop-size : goal.invariant-loop-size
invariant-loop-size l =
    Turning l.m l.p l.source (lists_in l.lists) l.head l.size (memory_of l.initial.dist l.initial.queue l.initial.queued l.initial.lengths)
    (memory_of l.dist l.queue l.queued l.lengths)

abbrev pub decreases-loop-size : goal.decreases-loop-size
decreases-loop-size l = to_do (memory_of l.dist l.queue l.queued l.lengths) l.size
