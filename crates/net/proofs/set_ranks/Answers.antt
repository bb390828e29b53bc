-- `net::set_ranks` meets its contract.
-- Assumes nothing.
use mathlib.Core.Logic.{inl, inr}
use native.Mathlib.Omega.{arith}
use Rattle.table.specs.Links.{present}
use Rattle.net.proofs.Nodes.{count_most}
use Rattle.net.proofs.Lists.{ranking_first, ranking_more, ranking_last}
use Rattle.net.proofs.set_ranks.Goals.{then-marks-i-ne0, else-marks-i-ne0}
use Rattle.net.proofs.set_ranks.Goals as goal

pub loop-i-init : goal.loop-i-init
loop-i-init c = ranking_first _ _ _

pub bounds-ranks-i : goal.bounds-ranks-i
bounds-ranks-i c = omega (arith, c.loop-i.invariant.long, c.requires.1)

pub bounds-marks-i : goal.bounds-marks-i
bounds-marks-i c = omega (arith, c.requires.0)

pub overflow_add-p : goal.overflow_add-p
overflow_add-p c = omega (arith, c.loop-i.invariant.count, count_most (present c.args.bound c.args.marks.now) c.loop-i.i)

pub loop-i-preserved : goal.loop-i-preserved
loop-i-preserved c = ranking_more c.loop-i.invariant _ c.loop-i-test.true c.requires.1 (elim c.if-marks-i-ne0.branch [
  | then-marks-i-ne0 w ↦ inl (w.if-marks-i-ne0.true, w.p-is)
  | else-marks-i-ne0 w ↦ inr (w.if-marks-i-ne0.false, w.p-is)
])

pub shape_of-ranks : goal.shape_of-ranks
shape_of-ranks c = c.loop-i.invariant.long

pub returns : goal.returns
returns c = ranking_last c.loop-i.invariant c.loop-i-test.false
