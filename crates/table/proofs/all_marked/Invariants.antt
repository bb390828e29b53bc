-- `table::all_marked` meets its contract.
-- Assumes nothing.
use mathlib.Core.Path.{◌≡◌}
use Prim.Native.Nat.{ℕ}
use lib.ListN.{get_or}
use Rattle.table.proofs.Plain.{Until}
use Rattle.table.proofs.all_marked.Given as goal

abbrev pub invariant-loop-mark : goal.invariant-loop-mark
invariant-loop-mark l = Until (λ (k : ℕ). get_or l.mark-items k 0 ≡ 0 → ⊥) l.mark-index l.good
