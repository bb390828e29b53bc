-- `text::print_nodes` meets its contract: three texts one after the other.
-- Assumes nothing.
use native.Mathlib.Omega.{arith}
use mathlib.Core.List.{map}
use Rattle.lines.specs.Text.{path_text}
use Rattle.lines.proofs.Pages.{printed_three}
use Rattle.text.specs.Text.{index_text}
use Rattle.text.proofs.Lines.{fields_split}
use Rattle.text.proofs.print_nodes.Goals as goal

pub returns-clause-printed : goal.returns-clause-printed
returns-clause-printed c =
    rw (fields_split path_text (map index_text c.args.path.now))
    (printed_three c.put_bytes-word.ensures c.put_fields-nodes.ensures.printed c.put_newline.ensures (omega arith))
