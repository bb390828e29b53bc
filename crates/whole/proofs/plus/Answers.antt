-- `whole::plus` meets its contract.
-- Assumes nothing.
use mathlib.Core.Path.{◌∙◌}
use native.Mathlib.Omega.{arith}
use mir.Syntax.{w64}
use mir.ValLaws.{to_z-of_z}
use Rattle.whole.specs.Zed.{zed, sum}
use Rattle.whole.proofs.plus.Goals as goal

pub overflow_add-result : goal.overflow_add-result
overflow_add-result c = rw (to_z-of_z w64 c.args.d c.ranges.d, to_z-of_z w64 c.args.c c.ranges.c) (omega (arith, zed, sum c.args.d c.args.c))

pub returns : goal.returns
returns c = to_z-of_z w64 _ (overflow_add-result c) ∙ rw (to_z-of_z w64 c.args.d c.ranges.d, to_z-of_z w64 c.args.c c.ranges.c)
