-- `a_star::seek` meets its contract.
-- Assumes nothing.
use Rattle.a_star.proofs.Answers.{can_place_lem, place_room, search_room, fit, sought}
use Rattle.a_star.proofs.seek.Goals as goal

pub position_csr-requires-clause-ready : goal.position_csr-requires-clause-ready
position_csr-requires-clause-ready c = can_place_lem c.requires

pub position_csr-requires-clause-enough_for : goal.position_csr-requires-clause-enough_for
position_csr-requires-clause-enough_for c = place_room c.requires

pub run-requires : goal.run-requires
run-requires c = record { fit = fit c.requires c.position_csr.ensures.rows c.position_csr.ensures.known; enough_memory = search_room c.requires }

pub returns-clause-sought : goal.returns-clause-sought
returns-clause-sought c = sought c.requires c.position_csr.ensures.rows c.position_csr.ensures.known c.run.ensures.ran
