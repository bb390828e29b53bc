-- `net::count_present` meets its contract.
-- Assumes nothing.
use mathlib.Core.Path.{◌≡◌}
use Prim.Native.Nat.{◌≤◌}
use lib.ListN.{length}
use Rattle.table.specs.Links.{present}
use Rattle.net.specs.Net.{rising}
use Rattle.net.proofs.count_present.Given as goal

abbrev pub invariant-loop-i : goal.invariant-loop-i
invariant-loop-i l = (l.i ≤ l.bound) × (l.bound ≤ length l.marks) × (l.p ≡ length (rising (present l.bound l.marks) l.i))
