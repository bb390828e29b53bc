-- `bellman_ford::solve` meets its contract.
-- Assumes nothing.
use Rattle.rows.proofs.Maps.{ready_ints}
use Rattle.bellman_ford.proofs.Solves.{marked, list_room, fit_of, solved_of}
use Rattle.bellman_ford.proofs.solve.Goals as goal

pub position_csr-requires-clause-ready : goal.position_csr-requires-clause-ready
position_csr-requires-clause-ready c =
    let v = c.args.net in
    ready_ints v.map.bound v.map.count v.map.directed v.marks.now v.from.now v.to.now v.costs.costs.now c.requires.whole c.requires.inside

pub position_csr-requires-clause-enough_for : goal.position_csr-requires-clause-enough_for
position_csr-requires-clause-enough_for c = list_room c.requires

pub count_present-p-requires : goal.count_present-p-requires
count_present-p-requires c = marked c.requires

pub search-requires-clause-fit : goal.search-requires-clause-fit
search-requires-clause-fit c = fit_of c.requires c.position_csr.ensures.rows c.count_present-p.ensures c.position_csr.ensures.known

pub returns-clause-solved : goal.returns-clause-solved
returns-clause-solved c = solved_of c.requires c.position_csr.ensures.rows c.position_csr.ensures.known c.search.ensures
