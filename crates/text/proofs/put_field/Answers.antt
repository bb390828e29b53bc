-- `text::put_field` meets its contract: a space, and then the entry.
-- Assumes nothing.
use native.Mathlib.Omega.{arith}
use Rattle.lines.proofs.Pages.{printed_two}
use Rattle.text.proofs.put_field.Goals as goal

pub returns-clause-printed : goal.returns-clause-printed
returns-clause-printed g c = printed_two c.put_space-next.ensures c.put.ensures.printed (omega arith)
