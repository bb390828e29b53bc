-- `text::print_rows` meets its contract: the invariant is `Rowing` of Rows.
-- Assumes nothing.
use mathlib.Core.Path.{sym, ◌∙◌}
use Rattle.table.specs.Links.{present}
use Rattle.text.proofs.Rows.{rowing_skip, rowing_room, rowing_more}
use Rattle.text.proofs.print_rows.Goals as goal
use Rattle.text.proofs.print_rows.Goals.{then-is_present, else-is_present}

pub split_at-requires : goal.split_at-requires
split_at-requires g c =
    let v = c.args in
    rowing_room g.E.Entry.text_of g.E.Entry.widest (present v.bound v.marks.now) v.bound v.matrix.now c.loop-i.invariant c.loop-i-test.true
    c.count_present-p.ensures (sym c.is_present.ensures ∙ c.if-is_present.true) c.requires.1

pub loop-i-preserved : goal.loop-i-preserved
loop-i-preserved g c =
    let v = c.args in
    let has = present v.bound v.marks.now in
    let l = c.loop-i in
    let h = c.loop-i-test.true in
    let e = c.is_present.ensures in
    let n = c.count_present-p.ensures in
    let q = g.E.Entry in
    elim c.if-is_present.branch [
      | then-is_present w ↦ rw (w.out-is, w.next-is, w.rest-is)
          (rowing_more q.text_of q.widest has v.bound v.matrix.now l.invariant h n (sym e ∙ w.if-is_present.true) w.split_at.ensures.front w.split_at.ensures.back
          w.print_row-next.ensures.printed (rw w.split_at.ensures.front_len at w.print_row-next.ensures.short))
      | else-is_present w ↦ rw (w.out-is, w.next-is, w.rest-is) (rowing_skip q.text_of q.widest has v.bound v.matrix.now l.invariant h (sym e ∙ w.if-is_present.false))
    ]
