-- `text::print_row` meets its contract: four texts one after the other.
-- Assumes nothing.
use native.Mathlib.Omega.{arith}
use mathlib.Core.List.{map, ◌++◌}
use Rattle.lines.specs.Text.{decimal_text, row_text}
use Rattle.lines.proofs.Pages.{printed_four}
use Rattle.text.specs.Text.{field}
use Rattle.text.proofs.Lines.{fields_split}
use Rattle.text.proofs.print_row.Goals as goal

pub returns-clause-printed : goal.returns-clause-printed
returns-clause-printed g c =
    rw (fields_split (row_text ++ field (decimal_text c.args.i)) (map g.E.Entry.text_of c.args.row.now))
    (printed_four c.put_bytes-word.ensures c.put_field-index.ensures.printed c.put_fields-entries.ensures.printed c.put_newline.ensures (omega arith))
