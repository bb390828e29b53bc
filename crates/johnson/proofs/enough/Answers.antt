-- `johnson::enough` meets its contract.
-- Assumes nothing.
use mathlib.Core.Path.{sym, ◌∙◌}
use native.Mathlib.Omega.{arith}
use Rattle.net.specs.Net.{int_net}
use Rattle.net.proofs.Bounds.{Whole, whole_ints, width_small}
use Rattle.matrix.proofs.Matrix.{square_small}
use Rattle.johnson.proofs.enough.Goals as goal
use Rattle.johnson.proofs.enough.Goals.{Else-not-whole}

map_whole : (c : Else-not-whole) → Whole (int_net c.args.net)
map_whole c =
    let a = c.args in
    whole_ints a.net.map.bound a.net.map.count a.net.map.directed a.net.marks.now a.net.from.now a.net.to.now a.net.costs.costs.now (sym c.whole.ensures ∙ c.if-not-whole.false)

pub count_present-p-requires : goal.count_present-p-requires
count_present-p-requires c = (map_whole (goal.at.count_present-p-requires c).Else-not-whole).marked

pub overflow_mul-p : goal.overflow_mul-p
overflow_mul-p c =
    let n = c.count_present-p in
    omega (arith, n.ensures, square_small n.result (omega (arith, n.ensures, width_small (map_whole (goal.at.overflow_mul-p c).Else-not-whole))))

pub most_arcs-requires : goal.most_arcs-requires
most_arcs-requires c = (map_whole (goal.at.most_arcs-requires c).Else-not-whole).links
