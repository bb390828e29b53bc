-- `johnson::shift_row` meets its contract.
-- Assumes nothing.
use mathlib.Core.Path.{ap}
use borrow.Author.Rules.{rules}
use native.Mathlib.Omega.{arith}
use lib.ListN.{set}
use Rattle.johnson.proofs.Shifted.{row_weight, row_head, row_small, row_next}
use Rattle.johnson.proofs.shift_row.Goals as goal

pub bounds-heights-from : goal.bounds-heights-from
bounds-heights-from c = omega (arith, c.from.ensures, (row_head c.requires.0 c.requires.1 c.loop-i.invariant c.loop-i-test.true).1)

pub shift-requires : goal.shift-requires
shift-requires c =
    let small = row_small c.requires.0 c.requires.1 c.loop-i.invariant c.loop-i-test.true in
    search rules

pub bounds-weights-i : goal.bounds-weights-i
bounds-weights-i c = row_weight c.requires.0 c.requires.1 c.loop-i.invariant c.loop-i-test.true

pub offset_bounds-weights-i-in-loop-i : goal.offset_bounds-weights-i-in-loop-i
offset_bounds-weights-i-in-loop-i c =
    let l = row_weight c.requires.0 c.requires.1 c.loop-i.invariant c.loop-i-test.true in
    search rules

pub loop-i-preserved : goal.loop-i-preserved
loop-i-preserved c = row_next c.requires.0 c.requires.1 c.loop-i.invariant c.loop-i-test.true (ap (set c.loop-i.weights c.loop-i.i) (search rules))
