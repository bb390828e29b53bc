-- `text::print_number` meets its contract: three texts one after the other.
-- Assumes nothing.
use native.Mathlib.Omega.{arith}
use Rattle.lines.proofs.Pages.{printed_three}
use Rattle.text.proofs.print_number.Goals as goal

pub returns-clause-printed : goal.returns-clause-printed
returns-clause-printed c = printed_three c.put_bytes-text.ensures c.put_field-number.ensures.printed c.put_newline.ensures (omega arith)
