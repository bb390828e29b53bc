-- `hops::show_row` meets its contract.
-- Assumes nothing.
use Rattle.hops.specs.Search.{RowShown}
use Rattle.hops.proofs.show_row.Given as goal

abbrev pub invariant-loop-j : goal.invariant-loop-j
invariant-loop-j l = RowShown l.j l.at l.nodes l.labels l.initial.matrix l.matrix
