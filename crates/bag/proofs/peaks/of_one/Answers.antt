-- `bag::peaks::of_one` meets its contract. Assumes nothing.
use mathlib.Core.Path.{◌≡◌, sym, ap, ◌∙◌}
use Prim.Native.Nat.{◌-◌}
use native.Mathlib.Omega.{arith}
use Rattle.bag.specs.Peaks.{peak}
use Rattle.bag.proofs.Largest.{peak_none, peak_one}
use Rattle.bag.proofs.peaks.of_one.Goals as goal

pub returns-then-i-end : goal.returns-then-i-end
returns-then-i-end c =
    let e : c.args.end - c.args.i ≡ 1 = omega (arith, c.requires.3, c.if-i-end.true) in
    sym (ap (peak c.args.list.now c.args.i) e ∙ peak_one _ _)

pub returns-else-i-end : goal.returns-else-i-end
returns-else-i-end c =
    let e : c.args.end - c.args.i ≡ 0 = omega (arith, c.if-i-end.false) in
    sym (ap (peak c.args.list.now c.args.i) e ∙ peak_none _ _)
