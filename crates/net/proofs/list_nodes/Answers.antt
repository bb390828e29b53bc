-- `net::list_nodes` meets its contract.
-- Assumes nothing.
use native.Mathlib.Omega.{arith}
use borrow.Author.Rules.{rules}
use Rattle.net.proofs.Lists.{listing_first, listing_room, listing_next, listing_skip, listing_last}
use Rattle.net.proofs.list_nodes.Goals.{then-marks-i-ne0, else-marks-i-ne0}
use Rattle.net.proofs.list_nodes.Goals as goal

pub loop-i-init : goal.loop-i-init
loop-i-init c = listing_first

pub bounds-marks-i : goal.bounds-marks-i
bounds-marks-i c = omega (arith, c.requires.1)

pub overflow_cast-nodes : goal.overflow_cast-nodes
overflow_cast-nodes c = omega (arith, c.requires.0)

pub offset_bounds-nodes-p : goal.offset_bounds-nodes-p
offset_bounds-nodes-p c = let h = listing_room c.loop-i.invariant c.loop-i-test.true c.requires.2 c.if-marks-i-ne0.true in search rules

pub bounds-nodes-p : goal.bounds-nodes-p
bounds-nodes-p c = listing_room c.loop-i.invariant c.loop-i-test.true c.requires.2 c.if-marks-i-ne0.true

pub overflow_add-p : goal.overflow_add-p
overflow_add-p c = let h = listing_room c.loop-i.invariant c.loop-i-test.true c.requires.2 c.if-marks-i-ne0.true in search rules

pub loop-i-preserved : goal.loop-i-preserved
loop-i-preserved c =
    elim c.if-marks-i-ne0.branch [
      | then-marks-i-ne0 w ↦ rw (w.nodes-is, w.p-is) (listing_next c.loop-i.invariant c.loop-i-test.true c.requires.2 w.if-marks-i-ne0.true)
      | else-marks-i-ne0 w ↦ rw (w.nodes-is, w.p-is) (listing_skip c.loop-i.invariant c.loop-i-test.true w.if-marks-i-ne0.false)
    ]

pub shape_of-nodes : goal.shape_of-nodes
shape_of-nodes c = c.loop-i.invariant.long

pub returns : goal.returns
returns c = listing_last c.loop-i.invariant c.loop-i-test.false
