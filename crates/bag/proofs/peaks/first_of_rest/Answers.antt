-- `bag::peaks::first_of_rest` meets its contract. Assumes nothing.
use mathlib.Core.Path.{◌≡◌, ap, ◌∙◌}
use Prim.Native.Nat.{ℕ, ◌-◌}
use native.Mathlib.Omega.{arith}
use Rattle.bag.specs.Peaks.{first_from}
use Rattle.bag.proofs.Firsts.{first_rest, rest_room, rest_none, rest_more}
use Rattle.bag.proofs.peaks.first_of_rest.Goals as goal

pub loop-k-init : goal.loop-k-init
loop-k-init c = (rest_room _ _ _ _ c.requires.w_value.0 c.requires.w_value.1, omega arith, rest_none _ _ _)

pub loop-k-preserved : goal.loop-k-preserved
loop-k-preserved c =
    let more = c.loop-k-test.true in
    (omega (arith, more), omega (arith, c.loop-k.invariant.1), rest_more _ _ _ _ _ _ (omega (arith, more)) c.loop-k.invariant.1 c.loop-k.invariant.2 c.sooner-r.ensures)

pub returns : goal.returns
returns c =
    let e : c.loop-k.k ≡ c.args.i = omega (arith, c.loop-k.invariant.0, c.loop-k-test.false) in
    let r = c.loop-k.invariant.2 ∙ ap (λ (k : ℕ). first_from c.args.list.now k (c.args.end - k) c.args.w) e in
    rw r (first_rest _ _ _ _ c.requires.w_value.0 c.requires.w_value.1)
