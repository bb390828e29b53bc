-- `bag::peaks::largest` meets its contract. Assumes nothing.
use mathlib.Core.Path.{◌∙◌}
use native.Mathlib.Omega.{arith}
use Rattle.bag.proofs.Largest.{top_one, top_two}
use Rattle.bag.proofs.peaks.largest.Goals as goal

pub returns-then-m-le512 : goal.returns-then-m-le512
returns-then-m-le512 c = top_one _ _ c.requires.0 c.requires.1 c.if-m-le512.true

pub returns-else-m-le512 : goal.returns-else-m-le512
returns-else-m-le512 c = c.of_two.ensures ∙ top_two _ _ c.requires.0 (omega (arith, c.if-m-le512.false))
