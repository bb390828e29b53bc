-- `bag::peaks::first_of_group` meets its contract. Assumes nothing.
use Rattle.bag.proofs.Firsts.{first_eight}
use Rattle.bag.proofs.peaks.first_of_group.Goals as goal

pub returns-then-i-end : goal.returns-then-i-end
returns-then-i-end c = rw c.first_of_eight.ensures (first_eight _ _ _ _ c.if-i-end.true c.requires.w_value.0 c.requires.w_value.1)
