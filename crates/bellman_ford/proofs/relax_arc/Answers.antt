-- `bellman_ford::relax_arc` meets its contract.
-- Assumes nothing.
use mathlib.Core.Path.{◌≡◌, refl, sym, ap, ◌∙◌}
use borrow.Author.Rules.{sfits_of}
use lib.ListN.{get_or, set}
use lib.IntN.{pos}
use mir.Syntax.{w64}
use mir.Val.{to_z, of_z}
use Rattle.clean.specs.Better.{better_than}
use Rattle.whole.specs.Zed.{◌⊕◌}
use Rattle.whole.proofs.Signed.{near, sum_is, read_at}
use Rattle.bellman_ford.specs.Search.{kept, long, stored}
use Rattle.bellman_ford.proofs.relax_arc.Goals as goal
use Rattle.bellman_ford.proofs.relax_arc.Goals.{After-better}

-- what the sum and the test gave, of the numbers themselves
module _
    (c : After-better) where
  n_is : to_z w64 (of_z w64 c.plus-n.result) ≡ c.args.d ⊕ c.args.cost
  n_is =
      sum_is c.ranges.d c.ranges.cost c.plus-n.ensures
      (sfits_of c.plus-n.type_inv)

  same_test : better_than (to_z w64 (of_z w64 c.plus-n.result)) (to_z w64 (of_z w64 (get_or c.args.dist.now c.args.v (pos 0))))
      ≡ better_than (c.args.d ⊕ c.args.cost) (get_or c.args.dist.now c.args.v (pos 0))
  same_test = λ i. better_than (n_is i) (read_at c.args.dist.now c.args.v c.better-arg-1.given i)

pub plus-n-requires : goal.plus-n-requires
plus-n-requires c = near c.ranges.d c.ranges.cost c.requires.label c.requires.cost

pub returns-then-not-better : goal.returns-then-not-better
returns-then-not-better c = kept (sym (c.if-not-better.ensures ∙ same_test (goal.at.returns-then-not-better c).After-better)) refl refl refl

pub returns-then-p-k : goal.returns-then-p-k
returns-then-p-k c = long (sym (c.if-not-better.ensures ∙ same_test (goal.at.returns-then-p-k c).After-better)) c.if-p-k.true refl refl

pub returns-else-p-k : goal.returns-else-p-k
returns-else-p-k c = stored (sym (c.if-not-better.ensures ∙ same_test (goal.at.returns-else-p-k c).After-better)) c.if-p-k.false refl
    (ap (set c.args.dist.now c.args.v) (n_is (goal.at.returns-else-p-k c).After-better))
    refl
    c.push.ensures
