-- `bag::push_or_lower` meets its contract. Assumes nothing.
use mathlib.Core.Path.{ap, ◌∙◌}
use lib.ListN.{set}
use Rattle.bag.proofs.Pairs.{grows, pushed}
use Rattle.bag.proofs.push_or_lower.Goals as goal

pub add-r-requires : goal.add-r-requires
add-r-requires g c =
    let B = c.requires.bag in
    let R = g.met.K.Key.right in
    let grown = grows g.K.Key.kind _ _ _ _ B R c.args.v c.args.k c.requires.v_in_bounds c.requires.ok c.requires.not_above in
    record { v_in_bounds = rw c.word-w.ensures (c.requires.v_in_bounds, grown, R.some c.args.k c.args.v c.requires.ok); peaks = B.shape; n_value = B.many }

pub returns : goal.returns
returns g c =
    let e = c.add-r.ensures.words_after ∙ ap (set c.args.words.now c.args.v) c.word-w.ensures in
    let p = pushed g.K.Key.kind _ _ _ _ c.requires.bag g.met.K.Key.right _ _ c.requires.v_in_bounds c.requires.ok _ _ _ e c.add-r.ensures.peaks_2 c.add-r.ensures.value in
    record { bag_2 = p.0; keys_after = p.1 }
