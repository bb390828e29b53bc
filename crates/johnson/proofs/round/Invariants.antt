-- `johnson::round` meets its contract.
-- Assumes nothing.
use Rattle.johnson.specs.Rounds.{table_in}
use Rattle.johnson.proofs.Steps.{Sweeping}
use Rattle.johnson.proofs.round.Given as goal

abbrev pub invariant-loop-k : goal.invariant-loop-k
invariant-loop-k l = Sweeping (table_in l.fn.net) l.fn.net.map.count l.initial.heights l.heights l.k l.fell
