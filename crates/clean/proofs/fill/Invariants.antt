-- `clean::fill` meets its contract.
-- Assumes nothing.
use Rattle.std.proofs.Common.{length}
use Rattle.clean.proofs.Filling.{Filling}
use Rattle.clean.proofs.fill.Given as goal

abbrev pub invariant-loop-cell : goal.invariant-loop-cell
invariant-loop-cell g l = Filling (length l.initial.cell-items) l.x l.initial.cell-items l.cell-items l.cell-index
