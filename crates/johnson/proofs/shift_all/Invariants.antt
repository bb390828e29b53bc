-- `johnson::shift_all` meets its contract.
-- Assumes nothing.
use lib.ListN.{get_or}
use Rattle.rows.specs.Rows.{lists_of}
use Rattle.johnson.specs.Shifting.{ShiftedTo}
use Rattle.johnson.proofs.shift_all.Given as goal

abbrev pub invariant-loop-u : goal.invariant-loop-u
invariant-loop-u l = ShiftedTo l.m (lists_of l.offsets l.heads l.initial.weights) l.heights l.weights (get_or l.offsets l.u 0)
