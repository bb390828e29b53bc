-- `johnson::prepare` meets its contract.
-- Assumes nothing.
use Rattle.johnson.proofs.Lays.{marked, ask, can_list, prepared_yes, listed, prepared_no}
use Rattle.johnson.proofs.prepare.Goals as goal

pub count_present-p-requires : goal.count_present-p-requires
count_present-p-requires c =
    let a = c.args in
    marked a.net.map.bound a.net.map.count a.net.map.directed a.net.marks.now a.net.from.now a.net.to.now a.net.costs.costs.now c.requires

pub potentials-requires : goal.potentials-requires
potentials-requires c =
    let a = c.args in
    ask a.net.map.bound a.net.map.count a.net.map.directed a.net.marks.now a.net.from.now a.net.to.now a.net.costs.costs.now c.requires c.count_present-p.ensures c.fill.ensures

pub returns-then-potentials-clause-prepared : goal.returns-then-potentials-clause-prepared
returns-then-potentials-clause-prepared c =
    let a = c.args in
    prepared_yes a.net.map.bound a.net.map.count a.net.map.directed a.net.marks.now a.net.from.now a.net.to.now a.net.costs.costs.now c.requires
    c.fill.ensures c.potentials.ensures c.if-potentials.true

pub position_csr-requires : goal.position_csr-requires
position_csr-requires c =
    let a = c.args in
    let g = can_list a.net.map.bound a.net.map.count a.net.map.directed a.net.marks.now a.net.from.now a.net.to.now a.net.costs.costs.now c.requires in record { ready = g.0; enough_for = g.1 }

pub shift_all-requires : goal.shift_all-requires
shift_all-requires c =
    let a = c.args in
    listed a.net.map.bound a.net.map.count a.net.map.directed a.net.marks.now a.net.from.now a.net.to.now a.net.costs.costs.now c.requires
    c.count_present-p.ensures c.fill.ensures c.potentials.ensures c.if-potentials.false c.position_csr.ensures.rows c.position_csr.ensures.known

pub returns-clause-prepared : goal.returns-clause-prepared
returns-clause-prepared c =
    let a = c.args in
    prepared_no a.net.map.bound a.net.map.count a.net.map.directed a.net.marks.now a.net.from.now a.net.to.now a.net.costs.costs.now c.requires
    c.count_present-p.ensures c.fill.ensures c.potentials.ensures c.if-potentials.false
    c.position_csr.ensures.rows c.position_csr.ensures.known c.shift_all.ensures
