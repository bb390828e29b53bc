-- `johnson::potentials` meets its contract.
-- Assumes nothing.
use Rattle.johnson.proofs.Steps.{ask_shallow, rounds_start, rounds_next}
use Rattle.johnson.proofs.Tests.{answer_no, answered}
use Rattle.johnson.proofs.potentials.Goals as goal

pub loop-round-init : goal.loop-round-init
loop-round-init c = rounds_start _ _ _ _ (ask_shallow c.requires)

pub returns-then-not-round : goal.returns-then-not-round
returns-then-not-round c = answer_no c.requires c.loop-round.invariant c.round.ensures c.if-not-round.true

pub loop-round-preserved : goal.loop-round-preserved
loop-round-preserved c = rounds_next c.loop-round.invariant c.round.ensures c.loop-round-test.true

pub returns : goal.returns
returns c = answered c.requires c.loop-round.invariant c.round-2.ensures c.loop-round-test.false
