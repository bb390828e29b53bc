-- `johnson::relax` meets its contract.
-- Assumes nothing.
use mathlib.Core.Path.{◌≡◌, sym, ap, ◌∙◌}
use mathlib.Core.Bool.{true, false}
use borrow.Author.Rules.{rules}
use lib.ListN.{set}
use native.Mathlib.Omega.{arith}
use Rattle.std.proofs.lemmas.Grind.{common_steps}
use Rattle.johnson.specs.Rounds.{lowers}
use Rattle.johnson.proofs.Looks.{lowered_yes, lowered_no}
use Rattle.johnson.proofs.relax.Goals as goal

pub returns-then-sum-heights : goal.returns-then-sum-heights
unfolding lowers
returns-then-sum-heights c =
    let a = c.args in
    let q : lowers a.u a.v a.cost a.heights.now ≡ true = grind (arith, common_steps) in
    (sym q, ap (set a.heights.now a.v) (search rules) ∙ sym (lowered_yes a.u a.v a.cost a.heights.now q))

pub returns-else-sum-heights : goal.returns-else-sum-heights
unfolding lowers
returns-else-sum-heights c =
    let a = c.args in
    let q : lowers a.u a.v a.cost a.heights.now ≡ false = grind (arith, common_steps) in
    (sym q, sym (lowered_no a.u a.v a.cost a.heights.now q))
