-- `bag::peaks::of_eight` meets its contract. Assumes nothing.
use mathlib.Core.Path.{◌∙◌, ap₂}
use Prim.Native.Nat.{max}
use Rattle.bag.proofs.Largest.{peak_halves}
use Rattle.bag.proofs.peaks.of_eight.Goals as goal

pub returns : goal.returns
returns c = c.max.ensures ∙ ap₂ max c.of_four.ensures c.of_four-2.ensures ∙ peak_halves _ _ 4
