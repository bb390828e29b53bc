-- `bag::peaks::clear` meets its contract.
-- Clearing a word can lower the largest of its block of 8, and so on up. The three entries above the word are each made anew from the eight below it, lowest first,
-- so that each is made of entries that are right already; no other block has the word in it (`peaks_cleared`). Every place lies within its list, for there are at
-- most 1,024 words.
-- Assumes nothing.
use lib.ListN.{length-set}
use Rattle.bag.proofs.Largest.{peaks_cleared}
use Rattle.bag.proofs.peaks.clear.Goals as goal

pub returns-clause-peaks_2 : goal.returns-clause-peaks_2
returns-clause-peaks_2 c =
    let long = length-set c.args.words.now c.args.v 0 in
    peaks_cleared _ _ _ 0 _ _ _ _ c.requires.peaks c.requires.v_in_bounds long c.of_group-low.ensures c.of_group-high.ensures c.of_group-top.ensures
