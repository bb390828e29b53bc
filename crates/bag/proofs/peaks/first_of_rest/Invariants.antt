-- `bag::peaks::first_of_rest` meets its contract. Assumes nothing.
use mathlib.Core.Path.{◌≡◌}
use Prim.Native.Nat.{◌-◌, ◌≤◌}
use Rattle.bag.specs.Peaks.{first_from}
use Rattle.bag.proofs.peaks.first_of_rest.Given as goal

abbrev pub invariant-loop-k : goal.invariant-loop-k
invariant-loop-k l = (l.i ≤ l.k) × (l.k ≤ l.end) × (l.r ≡ first_from l.list l.k (l.end - l.k) l.w)
