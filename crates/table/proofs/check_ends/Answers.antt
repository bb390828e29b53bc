use Rattle.std.proofs.Common.{arith, sym, ap, ◌∙◌, Bool}
use mathlib.Core.Bool.{cond}
use Rattle.table.proofs.Laws.{whole, no_whole, no_short}
use Rattle.table.proofs.check_ends.Goals as goal

pub returns-then-not-lent_whole : goal.returns-then-not-lent_whole
returns-then-not-lent_whole c = sym (no_short _ _ _ _ _ (sym c.lent_whole.ensures ∙ c.if-not-lent_whole.true))

pub all_inside-requires : goal.all_inside-requires
all_inside-requires c =
    let w = whole _ _ _ _ (sym c.lent_whole.ensures ∙ c.if-not-lent_whole.false) in
    (w.marked, omega (arith, w.few, c.requires), omega (arith, w.few, c.requires))

pub returns-then-not-all_inside : goal.returns-then-not-all_inside
returns-then-not-all_inside c =
    sym (no_whole _ _ _ _ _ (sym c.lent_whole.ensures ∙ c.if-not-lent_whole.false)
    ∙ ap (λ (t : Bool). cond t 0 2) (sym c.all_inside.ensures ∙ c.if-not-all_inside.true))

pub returns : goal.returns
returns c =
    sym (no_whole _ _ _ _ _ (sym c.lent_whole.ensures ∙ c.if-not-lent_whole.false)
    ∙ ap (λ (t : Bool). cond t 0 2) (sym c.all_inside.ensures ∙ c.if-not-all_inside.false))
