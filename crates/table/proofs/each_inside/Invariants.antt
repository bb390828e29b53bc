use mathlib.Core.Path.{◌≡◌}
use mathlib.Core.Bool.{true}
use Prim.Native.Nat.{◌≤◌}
use lib.ListN.{take}
use Rattle.table.specs.Links.{ends, all_inside}
use Rattle.table.proofs.Laws.{Sized}
use Rattle.table.proofs.each_inside.Given as goal

abbrev pub invariant-loop-i : goal.invariant-loop-i
invariant-loop-i l = Sized l.m l.n l.marks l.from l.to × (l.i ≤ l.n) × (all_inside l.m l.marks (take l.i (ends l.from l.to)) ≡ true)
