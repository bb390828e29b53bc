-- `a_star::solve` meets its contract.
-- Assumes nothing.
use Rattle.a_star.proofs.Answers.{few_links, can_seek, told, can_wipe, outcome}
use Rattle.a_star.proofs.solve.Goals as goal

pub seek-found-requires : goal.seek-found-requires
seek-found-requires c = can_seek c.requires

pub answer-given-requires : goal.answer-given-requires
answer-given-requires c = told c.requires c.seek-found.ensures.sought

pub most_arcs-requires : goal.most_arcs-requires
most_arcs-requires c = few_links c.requires

pub wipe-requires : goal.wipe-requires
wipe-requires c = can_wipe c.requires c.seek-found.ensures.sought c.most_arcs.ensures

pub returns-clause-solved : goal.returns-clause-solved
returns-clause-solved c = outcome c.requires c.seek-found.ensures.sought c.answer-given.ensures.read c.most_arcs.ensures c.wipe.ensures.wiped
