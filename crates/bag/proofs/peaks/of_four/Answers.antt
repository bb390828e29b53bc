-- `bag::peaks::of_four` meets its contract. Assumes nothing.
use mathlib.Core.Path.{◌∙◌, ap₂}
use Prim.Native.Nat.{max}
use Rattle.bag.proofs.Largest.{peak_halves}
use Rattle.bag.proofs.peaks.of_four.Goals as goal

pub returns : goal.returns
returns c = c.max.ensures ∙ ap₂ max c.of_two.ensures c.of_two-2.ensures ∙ peak_halves _ _ 2
