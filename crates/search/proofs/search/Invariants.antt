-- `search::search` meets its contract.
-- The loop's invariant is `Head` (turns, Turns): whatever the pending bag ends in from here it ends in from its start. A take gives the least pair; if that is the target's
-- the search is over, else its row is one turn. The measure is what the rule has left to do, which falls with each turn; when nothing is pending the bag is at its end.
-- Assumes nothing.
use Rattle.rows.specs.Rows.{neighbours_in}
use Rattle.turns.specs.Kind.{ordered}
use Rattle.turns.specs.Memory.{cells_of}
use Rattle.turns.proofs.Turns.{Head}
use Rattle.search.specs.Target.{target_in}
use Rattle.search.specs.Lists.{memory_in, SameMemory}
use Rattle.search.proofs.search.Given as goal

abbrev pub invariant-loop-size : goal.invariant-loop-size
invariant-loop-size g l =
    let nb = neighbours_in l.rows in
    let target = target_in l.m l.target in
    Head (ordered g.R.Key.Key.kind (g.R.Rule.kind l.rule)) l.m target l.source nb ((g.R.Rule.way l.rule).keeps l.m target l.source nb)
    (memory_in l.memory) l.size l.takes
    × SameMemory l.initial.memory l.memory

abbrev pub decreases-loop-size : goal.decreases-loop-size
decreases-loop-size g l =
    let cells = cells_of (ordered g.R.Key.Key.kind (g.R.Rule.kind l.rule)) (memory_in l.memory) in
    (g.R.Rule.way l.rule).left l.m (target_in l.m l.target) l.source (neighbours_in l.rows) cells l.takes
