-- `bag::peaks::first_top` meets its contract. Assumes nothing.
use Rattle.bag.proofs.Firsts.{top_first}
use Rattle.bag.proofs.peaks.first_top.Goals as goal

pub returns : goal.returns
returns c = top_first _ _ c.requires.peaks.0 _ c.requires.w_value c.requires.peaks.1 _ c.from.ensures
