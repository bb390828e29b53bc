-- `search::to_all` meets its contract.
-- Assumes nothing.
use Rattle.search.proofs.Runs.{fits, reached}
use Rattle.search.proofs.to_all.Goals as goal

pub run-requires : goal.run-requires
run-requires c = record { fit = fits c.requires.cheap c.requires.source_lt_m.0; enough_memory = c.requires.source_lt_m.1 }

pub returns-clause-to_all : goal.returns-clause-to_all
returns-clause-to_all c = reached c.run.ensures.ran c.requires.source_lt_m.1.dist

pub returns-clause-ran : goal.returns-clause-ran
returns-clause-ran c = c.run.ensures.ran
