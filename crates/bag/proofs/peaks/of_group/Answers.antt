-- `bag::peaks::of_group` meets its contract. Assumes nothing.
use mathlib.Core.Path.{◌≡◌, ap, ◌∙◌}
use Prim.Native.Nat.{◌-◌}
use native.Mathlib.Omega.{arith}
use Rattle.bag.specs.Peaks.{peak, span}
use Rattle.bag.proofs.peaks.of_group.Goals as goal

pub returns-then-i-end : goal.returns-then-i-end
returns-then-i-end c =
    let e : 8 ≡ span c.args.i c.args.end = omega (arith, c.if-i-end.true) in
    c.of_eight.ensures ∙ ap (peak c.args.list.now c.args.i) e

pub returns-else-i-end : goal.returns-else-i-end
returns-else-i-end c =
    let e : c.args.end - c.args.i ≡ span c.args.i c.args.end = omega (arith, c.if-i-end.false) in
    c.of_rest.ensures ∙ ap (peak c.args.list.now c.args.i) e
