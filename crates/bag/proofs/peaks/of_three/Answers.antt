-- `bag::peaks::of_three` meets its contract. Assumes nothing.
use mathlib.Core.Path.{◌≡◌, sym, ap, ap₂, ◌∙◌}
use Prim.Native.Nat.{◌+◌, ◌-◌, max}
use native.Mathlib.Omega.{arith}
use Rattle.bag.specs.Peaks.{peak}
use Rattle.bag.proofs.Largest.{peak_parts}
use Rattle.bag.proofs.peaks.of_three.Goals as goal

pub returns-then-i-end : goal.returns-then-i-end
returns-then-i-end c =
    let e : 2 + (c.args.end - (c.args.i + 2)) ≡ c.args.end - c.args.i = omega (arith, c.if-i-end.true) in
    c.max.ensures ∙ ap₂ max c.of_two.ensures c.of_one.ensures ∙ sym (peak_parts _ _ 2 _) ∙ ap (peak c.args.list.now c.args.i) e
