-- `floyd_warshall::rounds` meets its contract. Each loop has as its invariant the record of proofs/Turns.antt for its turn; that of the columns says too
-- that the diagonal entry of the row is not below zero, as the test found it.
-- The entries are at every moment those of the rounds done, in the rows and columns done one round more; the laws of Turns take one block of columns, row or
-- round to the next. No diagonal entry was below zero so far, hence every entry is small and no sum overflows (Triangle). The loops end with all rounds done, or
-- with a diagonal entry that a round made negative, and only then is `below` set.
-- Assumes nothing.
use mathlib.Core.Path.{◌≡◌}
use mathlib.Core.Bool.{false}
use Prim.Native.Nat.{◌-◌}
use lib.IntN.{pos}
use lib.Signed.{◌≤ℤ◌}
use Rattle.floyd_warshall.specs.Rounds.{cell}
use Rattle.floyd_warshall.proofs.Turns.{Round, Rows, Turn}
use Rattle.floyd_warshall.proofs.rounds.Given as goal

abbrev pub invariant-columns : goal.invariant-columns
invariant-columns l = Turn l.p l.fn.cells l.k l.i l.j l.cells × (pos 0 ≤ℤ cell l.p l.cells l.i l.i) × (l.below ≡ false)

abbrev pub decreases-columns : goal.decreases-columns
decreases-columns l = l.p - l.j

abbrev pub invariant-rows : goal.invariant-rows
invariant-rows l = Rows l.p l.fn.cells l.k l.i l.cells × (l.below ≡ false)

abbrev pub invariant-rounds : goal.invariant-rounds
invariant-rounds l = Round l.p l.fn.cells l.k l.cells × (l.below ≡ false)
