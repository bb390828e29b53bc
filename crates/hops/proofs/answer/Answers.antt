-- `hops::answer` meets its contract.
-- Assumes nothing.
use Rattle.hops.proofs.Answers.{answered}
use Rattle.hops.proofs.answer.Goals as goal

pub returns-clause-answered : goal.returns-clause-answered
returns-clause-answered g c = answered c.requires c.most_arcs-a.ensures c.solve-p.ensures.solved c.wipe.ensures.wiped
