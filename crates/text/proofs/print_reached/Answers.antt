-- `text::print_reached` meets its contract: four texts one after the other.
-- Assumes nothing.
use native.Mathlib.Omega.{arith}
use Rattle.lines.proofs.Pages.{printed_four}
use Rattle.text.proofs.print_reached.Goals as goal

pub returns-clause-printed : goal.returns-clause-printed
returns-clause-printed c = printed_four c.put-index.ensures.printed c.put_field-bits.ensures.printed c.put_field-pred.ensures.printed c.put_newline.ensures (omega arith)
