-- `floyd_warshall::start` meets its contract.
-- Assumes nothing.
use Rattle.floyd_warshall.proofs.Stores.{Starting}
use Rattle.floyd_warshall.proofs.start.Given as goal

abbrev pub invariant-loop-i : goal.invariant-loop-i
invariant-loop-i l = Starting l.p l.i l.cells
