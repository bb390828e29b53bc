-- `text::print_cost` meets its contract: four texts one after the other.
-- Assumes nothing.
use native.Mathlib.Omega.{arith}
use mir.Val.{to_z, of_z}
use mir.ValLaws.{to_z-of_z}
use mir.Syntax.{w64}
use Rattle.lines.proofs.Pages.{printed_four}
use Rattle.text.proofs.Widths.{signed_width}
use Rattle.text.proofs.print_cost.Goals as goal

pub returns-clause-printed : goal.returns-clause-printed
returns-clause-printed c =
    let w = signed_width (to_z w64 (of_z w64 c.args.cost)) in
    rw (to_z-of_z w64 c.args.cost c.ranges.cost) at
    (printed_four c.put_bytes-word.ensures c.put_space-space.ensures c.put_signed-number.ensures c.put_newline.ensures (omega (arith, w)))
