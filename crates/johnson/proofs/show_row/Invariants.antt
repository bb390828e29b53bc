-- `johnson::show_row` meets its contract.
-- Assumes nothing.
use Rattle.johnson.proofs.Shows.{Showing}
use Rattle.johnson.proofs.show_row.Given as goal

abbrev pub invariant-loop-v : goal.invariant-loop-v
invariant-loop-v l = Showing l.m l.at l.s l.marks l.heights l.memory.dist.now l.initial.matrix l.matrix l.j l.v
