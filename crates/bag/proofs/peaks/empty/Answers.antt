-- `bag::peaks::empty` meets its contract. Assumes nothing.
use lib.ListN.{length-set}
use Rattle.bag.proofs.Largest.{peaks_emptied}
use Rattle.bag.proofs.peaks.empty.Goals as goal

pub returns-clause-peaks_2 : goal.returns-clause-peaks_2
returns-clause-peaks_2 c = peaks_emptied _ _ _ _ c.requires.peaks c.requires.v_in_bounds c.requires.by_index (length-set c.args.words.now c.args.v 0)
