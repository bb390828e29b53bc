-- `johnson::shift_row` meets its contract.
-- Assumes nothing.
use Rattle.johnson.proofs.Shifted.{Shifting}
use Rattle.johnson.proofs.shift_row.Given as goal

abbrev pub invariant-loop-i : goal.invariant-loop-i
invariant-loop-i l = Shifting l.m l.u l.offsets l.heads l.heights l.initial.weights l.weights l.i
