-- `johnson::show_row` meets its contract.
-- Assumes nothing.
use borrow.Author.Rules.{rules, sfits_of}
use mathlib.Core.Path.{◌∙◌}
use mir.Syntax.{w64}
use mir.ValLaws.{to_z-of_z}
use Rattle.johnson.proofs.Shows.{show_room, show_next, show_skip}
use Rattle.johnson.proofs.show_row.Goals as goal
use Rattle.johnson.proofs.show_row.Goals.{then-marks-v-ne0, else-marks-v-ne0}

pub overflow_add-at : goal.overflow_add-at
overflow_add-at c =
    let h = show_room c.requires c.loop-v.invariant c.loop-v-test.true c.if-marks-v-ne0.true in
    search rules

pub offset_bounds-matrix-at : goal.offset_bounds-matrix-at
offset_bounds-matrix-at c =
    let h = show_room c.requires c.loop-v.invariant c.loop-v-test.true c.if-marks-v-ne0.true in
    search rules

pub bounds-matrix-at : goal.bounds-matrix-at
bounds-matrix-at c = show_room c.requires c.loop-v.invariant c.loop-v-test.true c.if-marks-v-ne0.true

pub overflow_add-j : goal.overflow_add-j
overflow_add-j c =
    let h = show_room c.requires c.loop-v.invariant c.loop-v-test.true c.if-marks-v-ne0.true in
    search rules

pub loop-v-preserved : goal.loop-v-preserved
loop-v-preserved c = elim c.if-marks-v-ne0.branch [
  | then-marks-v-ne0 k ↦ rw (k.matrix-is, k.j-is) (show_next c.requires c.loop-v.invariant c.loop-v-test.true _ k.if-marks-v-ne0.true
      (to_z-of_z w64 _ (sfits_of k.shift_back.type_inv) ∙ k.shift_back.ensures))
  | else-marks-v-ne0 k ↦ rw (k.matrix-is, k.j-is) (show_skip c.requires c.loop-v.invariant c.loop-v-test.true k.if-marks-v-ne0.false)
]
