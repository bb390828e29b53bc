use mathlib.Core.Path.{◌≡◌}
use mathlib.Core.Bool.{false}
use Prim.Native.Nat.{ℕ, ◌≤◌, ◌<◌}
use lib.ListN.{length, get_or}
use Rattle.table.specs.Links.{joins_ends}
use Rattle.table.proofs.find_link.Given as goal

abbrev pub invariant-loop-k : goal.invariant-loop-k
invariant-loop-k l = (l.n ≤ length l.from) × (l.n ≤ length l.to) × (l.k ≤ l.n) × ((j : ℕ) → j < l.k → joins_ends l.directed l.u l.v (get_or l.from j 0) (get_or l.to j 0) ≡ false)
