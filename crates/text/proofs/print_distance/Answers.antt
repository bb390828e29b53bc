-- `text::print_distance` meets its contract: three texts one after the other.
-- Assumes nothing.
use borrow.Author.Rules.{rules}
use native.Mathlib.Omega.{arith}
use lib.IntN.{pos}
use lib.ListN.{get_or}
use mir.Val.{SFits}
use mir.ValLaws.{to_z-of_z}
use mir.Syntax.{w64}
use Rattle.lines.proofs.Pages.{printed_three}
use Rattle.text.proofs.print_distance.Goals as goal

pub returns-clause-printed : goal.returns-clause-printed
returns-clause-printed c =
    let z = get_or c.args.dist.now c.args.i (pos 0) in
    let fit : SFits w64 z = search rules in
    printed_three c.put-index.ensures.printed (rw (to_z-of_z w64 z fit) at c.put_field-number.ensures.printed) c.put_newline.ensures (omega arith)
