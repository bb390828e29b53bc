-- `bag::take_least` meets its contract. Assumes nothing.
use Rattle.bag.proofs.Pairs.{room, most_some, worded, alone, alone_first, taken}
use Rattle.bag.proofs.take_least.Goals as goal

pub lone-requires : goal.lone-requires
lone-requires g c = (c.requires.bag.shape.same, room g.K.Key.kind _ _ _ _ c.requires.bag c.requires.n_nonzero)

pub empty-requires-clause-by_index : goal.empty-requires-clause-by_index
empty-requires-clause-by_index g c = let only = c.in-Some.ensures in alone g.K.Key.kind _ _ _ _ c.requires.bag _ only.2 only.1

pub returns-in-Some : goal.returns-in-Some
returns-in-Some g c =
    let B = c.requires.bag in
    let only = c.in-Some.ensures in
    let first = alone_first g.K.Key.kind _ _ _ _ B _ only.2 only.1 in
    let t = taken g.K.Key.kind _ _ _ _ B g.met.K.Key.right c.requires.n_nonzero _ first _ _ _ c.empty.ensures.words_after c.empty.ensures.peaks_2 in
    record { least = t.0; bag_2 = t.1.0; keys_after = t.1.1 }

pub first-r-requires : goal.first-r-requires
first-r-requires g c =
    let B = c.requires.bag in
    record { peaks = B.shape; nonzero = most_some g.K.Key.kind _ _ _ _ B c.requires.n_nonzero; worded = worded g.K.Key.kind _ _ _ _ B }

pub returns-in-None : goal.returns-in-None
returns-in-None g c =
    let t = taken g.K.Key.kind _ _ _ _ c.requires.bag g.met.K.Key.right c.requires.n_nonzero _ c.first-r.ensures _ _ _ c.clear.ensures.words_after c.clear.ensures.peaks_2 in
    record { least = t.0; bag_2 = t.1.0; keys_after = t.1.1 }
