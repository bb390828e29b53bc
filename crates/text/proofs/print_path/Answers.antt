-- `text::print_path` meets its contract: both lines, or none by the test.
-- Assumes nothing.
use native.Mathlib.Omega.{arith}
use mathlib.Core.Path.{sym, ap, ◌∙◌}
use lib.ListN.{length-take}
use lib.Signed.{lt_z}
use mir.ValLaws.{to_z-of_z}
use mir.Syntax.{w64}
use Rattle.clean.specs.None.{none_i64}
use Rattle.lines.proofs.Pages.{printed_two}
use Rattle.text.proofs.Fields.{path_some}
use Rattle.text.proofs.print_path.Goals as goal

pub returns-then-cost-gt-NONE_I64-clause-printed : goal.returns-then-cost-gt-NONE_I64-clause-printed
returns-then-cost-gt-NONE_I64-clause-printed c =
    let v = c.args in
    let e = to_z-of_z w64 v.cost c.ranges.cost in
    rw (path_some v.cost v.n v.path.now (ap (lt_z none_i64) (sym e) ∙ c.if-cost-gt-NONE_I64.true))
    (printed_two (rw e at c.print_cost-next.ensures.printed) c.print_nodes.ensures.printed (omega (arith, length-take v.n v.path.now)))
