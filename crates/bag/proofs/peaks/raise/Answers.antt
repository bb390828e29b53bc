-- `bag::peaks::raise` meets its contract. Assumes nothing.
use lib.ListN.{length-set}
use Rattle.bag.proofs.Largest.{peaks_raised}
use Rattle.bag.proofs.peaks.raise.Goals as goal

pub note-requires : goal.note-requires
note-requires c =
    let same = length-set c.args.words.now c.args.v c.args.w in
    peaks_raised _ _ _ _ _ _ _ _ c.requires.peaks c.requires.v_in_bounds.0 c.requires.v_in_bounds.1 same c.lift.ensures c.lift-2.ensures c.lift-3.ensures
