-- `johnson::solve` meets its contract.
-- Assumes nothing.
use Rattle.net.proofs.Bounds.{whole_ints}
use Rattle.johnson.proofs.Solves.{can_fill_lem, solved_no}
use Rattle.johnson.proofs.solve.Goals as goal

pub count_present-p-requires : goal.count_present-p-requires
count_present-p-requires c =
    let a = c.args in
    (whole_ints a.net.map.bound a.net.map.count a.net.map.directed a.net.marks.now a.net.from.now a.net.to.now a.net.costs.costs.now c.requires.whole).marked

pub fill-requires : goal.fill-requires
fill-requires c = let a = c.args in (
  can_fill_lem c.requires c.prepare.ensures.prepared c.if-prepare.false c.count_present-p.ensures
      (whole_ints a.net.map.bound a.net.map.count a.net.map.directed a.net.marks.now a.net.from.now a.net.to.now a.net.costs.costs.now c.requires.whole).marked,
  c.requires.room.memory,
)

pub returns-clause-solved : goal.returns-clause-solved
returns-clause-solved c = solved_no c.requires c.prepare.ensures.prepared c.if-prepare.false c.count_present-p.ensures c.fill.ensures.filled c.fill.ensures.kept
