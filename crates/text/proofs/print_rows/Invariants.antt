-- `text::print_rows` meets its contract: the invariant is `Rowing` of Rows.
-- Assumes nothing.
use Rattle.table.specs.Links.{present}
use Rattle.text.proofs.Rows.{Rowing}
use Rattle.text.proofs.print_rows.Given as goal

abbrev pub invariant-loop-i : goal.invariant-loop-i
invariant-loop-i g l = Rowing g.E.Entry.text_of g.E.Entry.widest (present l.bound l.marks) l.bound l.matrix l.initial.out l.at l.out l.next l.rest l.i
