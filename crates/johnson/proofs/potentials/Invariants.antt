-- `johnson::potentials` meets its contract.
-- Assumes nothing.
use Rattle.johnson.specs.Rounds.{table_in}
use Rattle.johnson.proofs.Steps.{Going}
use Rattle.johnson.proofs.potentials.Given as goal

abbrev pub invariant-loop-round : goal.invariant-loop-round
invariant-loop-round l = Going (table_in l.fn.net) l.fn.net.map.count l.fn.p l.initial.heights l.heights l._round
