-- `text::print_tree` meets its contract: the invariant is `Listing` of Lines.
-- Assumes nothing.
use mathlib.Core.Path.{sym, ◌∙◌}
use Rattle.table.specs.Links.{present}
use Rattle.text.specs.Text.{tree_line}
use Rattle.text.proofs.Lines.{listing_skip, listing_more, each_yes, each_no}
use Rattle.text.proofs.print_tree.Goals as goal
use Rattle.text.proofs.print_tree.Goals.{then-is_present, else-is_present}

pub loop-i-preserved : goal.loop-i-preserved
loop-i-preserved c =
    let v = c.args in
    let has = present v.bound v.marks.now in
    let f = tree_line v.dist.now v.preds.now in
    let l = c.loop-i in
    let h = c.loop-i-test.true in
    let e = c.is_present.ensures in
    elim c.if-is_present.branch [
      | then-is_present w ↦ let o = w.print_reached-next.ensures in
          rw (w.out-is, w.next-is) (listing_more l.invariant h (each_yes has f l.i (sym e ∙ w.if-is_present.true)) o.printed o.short)
      | else-is_present w ↦ rw (w.out-is, w.next-is) (listing_skip l.invariant h (each_no has f l.i (sym e ∙ w.if-is_present.false)))
    ]
