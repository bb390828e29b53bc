-- `floyd_warshall::show` meets its contract. The invariant: the entries passed are shown, the others as they were.
-- Assumes nothing.
use Rattle.floyd_warshall.proofs.Stores.{Showing}
use Rattle.floyd_warshall.proofs.show.Given as goal

abbrev pub invariant-loop-cell : goal.invariant-loop-cell
invariant-loop-cell l = Showing l.initial.cells l.cell-index l.cells
