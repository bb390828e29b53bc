-- `johnson::fill` meets its contract.
-- Assumes nothing.
use Rattle.rows.specs.Rows.{lists_in}
use Rattle.search.specs.Lists.{memory_in, SameMemory}
use Rattle.johnson.proofs.Shows.{Filling}
use Rattle.johnson.proofs.fill.Given as goal

abbrev pub invariant-loop-u : goal.invariant-loop-u
invariant-loop-u l = record {
  filling : Filling l.m l.p l.marks (lists_in l.lists) l.heights l.initial.matrix l.matrix (memory_in l.initial.memory) (memory_in l.memory) l.i l.u;
  same : SameMemory l.initial.memory l.memory;
}
