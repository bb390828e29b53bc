-- `bag::peaks::first_of_eight` meets its contract. Assumes nothing.
use mathlib.Core.Path.{refl, sym}
use Prim.Native.Nat.{◌+◌}
use native.Mathlib.Omega.{arith}
use Rattle.bag.proofs.Firsts.{first_none, first_step}
use Rattle.bag.proofs.peaks.first_of_eight.Goals as goal

pub returns : goal.returns
returns c =
    let l = c.args.list.now in
    let i = c.args.i in
    let w = c.args.w in
    let g = first_step l (i + 6) 0 w (i + 7) _ _ (omega arith) (sym (first_none l (i + 7) w)) c.sooner-g.ensures in
    let f = first_step l (i + 5) 1 w (i + 6) _ _ (omega arith) g c.sooner-f.ensures in
    let e = first_step l (i + 4) 2 w (i + 5) _ _ (omega arith) f c.sooner-e.ensures in
    let d = first_step l (i + 3) 3 w (i + 4) _ _ (omega arith) e c.sooner-d.ensures in
    let b = first_step l (i + 2) 4 w (i + 3) _ _ (omega arith) d c.sooner-c.ensures in
    let a = first_step l (i + 1) 5 w (i + 2) _ _ (omega arith) b c.sooner-b.ensures in
    first_step l i 6 w (i + 1) _ _ refl a c.sooner.ensures
