-- `table::all_below` meets its contract.
-- Assumes nothing.
use Prim.Native.Nat.{ℕ, ◌<◌}
use lib.ListN.{get_or}
use Rattle.table.proofs.Plain.{Until}
use Rattle.table.proofs.all_below.Given as goal

abbrev pub invariant-loop-x : goal.invariant-loop-x
invariant-loop-x l = Until (λ (k : ℕ). get_or l.x-items k 0 < l.top) l.x-index l.good
