-- `bag::peaks::of_two` meets its contract. Assumes nothing.
use mathlib.Core.Path.{◌∙◌}
use Rattle.bag.proofs.Largest.{peak_two}
use Rattle.bag.proofs.peaks.of_two.Goals as goal

pub returns : goal.returns
returns c = c.max.ensures ∙ peak_two _ _
