-- `net::count_present` meets its contract.
-- Assumes nothing.
use mathlib.Core.Path.{◌≡◌, refl, ap, ◌∙◌}
use mathlib.Core.Logic.{inl, inr}
use Prim.Native.Nat.{ℕ}
use native.Mathlib.Omega.{arith}
use lib.ListN.{length}
use Rattle.table.specs.Links.{present}
use Rattle.net.specs.Net.{rising}
use Rattle.net.proofs.Nodes.{count_most}
use Rattle.net.proofs.Lists.{count_more}
use Rattle.net.proofs.count_present.Goals.{then-marks-i-ne0, else-marks-i-ne0}
use Rattle.net.proofs.count_present.Goals as goal

pub loop-i-init : goal.loop-i-init
loop-i-init c = (omega arith, omega arith, refl)

pub overflow_add-p : goal.overflow_add-p
overflow_add-p c = omega (arith, count_most (present c.args.bound c.args.marks.now) c.loop-i.i)

pub loop-i-preserved : goal.loop-i-preserved
loop-i-preserved c =
    let l = c.loop-i in
    let v = c.args in (
      omega arith,
      l.invariant.1,
      count_more v.bound v.marks.now l.i l.p _ c.loop-i-test.true l.invariant.2 (elim c.if-marks-i-ne0.branch [
        | then-marks-i-ne0 w ↦ inl (w.if-marks-i-ne0.true, w.p-is)
        | else-marks-i-ne0 w ↦ inr (w.if-marks-i-ne0.false, w.p-is)
      ]),
    )

pub returns : goal.returns
returns c =
    let l = c.loop-i in
    let v = c.args in
    let e : l.i ≡ v.bound = omega arith in
    l.invariant.2 ∙ ap (λ (k : ℕ). length (rising (present v.bound v.marks.now) k)) e
