-- `hops::solve` meets its contract.
-- Assumes nothing.
use Rattle.hops.proofs.Solving.{list_room, can_fill_lem, fit_of, solved_of}
use Rattle.hops.proofs.solve.Goals as goal

pub position_csr_ends-requires-clause-enough_for : goal.position_csr_ends-requires-clause-enough_for
position_csr_ends-requires-clause-enough_for g c = list_room c.requires

pub invariant_of-rows : goal.invariant_of-rows
invariant_of-rows g c = record { sound = fit_of c.requires c.position_csr_ends.ensures }

pub fill-requires : goal.fill-requires
fill-requires g c = can_fill_lem c.requires c.list_nodes-p.ensures.1 c.list_nodes-p.ensures.0

pub returns-clause-solved : goal.returns-clause-solved
returns-clause-solved g c = solved_of c.requires c.position_csr_ends.ensures c.list_nodes-p.ensures.1 c.list_nodes-p.ensures.0 c.fill.ensures
