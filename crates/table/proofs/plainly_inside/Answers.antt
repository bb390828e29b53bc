use Rattle.std.proofs.Common.{arith, sym, refl, ◌∙◌}
use Rattle.table.proofs.Plain.{plain, failed}
use Rattle.table.proofs.plainly_inside.Goals as goal
use Rattle.table.proofs.plainly_inside.Goals.{then-all_marked, else-all_marked}

pub returns-then-all_below : goal.returns-then-all_below
returns-then-all_below c =
    let v = c.args in
    λ e.
    elim c.if-all_marked.branch [
      | then-all_marked w ↦
          plain {marks = v.marks.now} {xs = v.from.now} {ys = v.to.now} (record { marked = omega arith; in_from = omega arith; in_to = omega arith })
          (λ k h. w.if-all_marked.ensures refl k h)
          (w.all_below.ensures (sym w.value-is ∙ c.if-all_below.true)) (c.all_below-then-all_below.ensures e)
      | else-all_marked w ↦ failed (sym w.if-all_marked.false ∙ (sym w.value-is ∙ c.if-all_below.true))
    ]
