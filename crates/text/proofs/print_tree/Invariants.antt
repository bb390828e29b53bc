-- `text::print_tree` meets its contract: the invariant is `Listing` of Lines.
-- Assumes nothing.
use Rattle.table.specs.Links.{present}
use Rattle.text.specs.Text.{each_index, tree_line}
use Rattle.text.proofs.Lines.{Listing}
use Rattle.text.proofs.print_tree.Given as goal

abbrev pub invariant-loop-i : goal.invariant-loop-i
invariant-loop-i l = Listing (each_index (present l.bound l.marks) (tree_line l.dist l.preds)) 59 l.initial.out l.at l.bound l.out l.next l.i
