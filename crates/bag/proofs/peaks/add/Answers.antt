-- `bag::peaks::add` meets its contract. Assumes nothing.
use mathlib.Core.Path.{sym, ap, ◌∙◌}
use native.Mathlib.Omega.{arith}
use Rattle.bag.specs.Content.{held}
use Rattle.bag.proofs.Content.{held_room, one_more, no_more}
use Rattle.bag.proofs.peaks.add.Goals as goal

pub overflow_add-result : goal.overflow_add-result
overflow_add-result c = record { fits = omega (arith, c.requires.n_value, c.requires.peaks.few, held_room c.args.words.now c.args.v c.requires.v_in_bounds.0 c.if-old-eq0.true) }

pub returns-then-old-eq0-clause-value : goal.returns-then-old-eq0-clause-value
returns-then-old-eq0-clause-value c =
    let more = one_more c.args.words.now _ _ _ c.requires.n_value c.requires.v_in_bounds.0 c.requires.v_in_bounds.2 c.if-old-eq0.true in
    more ∙ ap held (sym c.raise.ensures.words_after)

pub returns-else-old-eq0-clause-value : goal.returns-else-old-eq0-clause-value
returns-else-old-eq0-clause-value c =
    let same = no_more c.args.words.now _ _ _ c.requires.n_value c.requires.v_in_bounds.2 (omega (arith, c.if-old-eq0.false)) in
    same ∙ ap held (sym c.raise.ensures.words_after)
