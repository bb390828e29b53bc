-- `floyd_warshall::rounds` meets its contract.
-- Assumes nothing.
use mathlib.Core.Path.{◌≡◌, refl, sym, ◌∙◌, subst}
use Prim.Native.Nat.{◌+◌}
use native.Mathlib.Omega.{arith}
use lib.IntN.{ℤ}
use mir.Syntax.{w64}
use mir.Val.{SFits, to_z, of_z}
use mir.ValLaws.{to_z-of_z}
use Rattle.std.proofs.Common.{rules}
use Rattle.std.proofs.lemmas.Int.{ints}
use Rattle.floyd_warshall.specs.Rounds.{cell, after}
use Rattle.floyd_warshall.proofs.Turns.{Rows, Turn, round_first, block_asks, block_done, row_done, row_refused, row_skipped}
use Rattle.floyd_warshall.proofs.rounds.Goals as goal
use Rattle.floyd_warshall.proofs.rounds.Goals.{then-reaches+else-columns-test, else-reaches, After-lower_next-j, In-rows}

-- in a row: its entry in column k, as it is passed on
module _ (h : In-rows) where
  abbrev entry : ℤ
  entry = cell h.args.p h.rows.cells h.rows.i h.rounds.k

  passed : SFits w64 entry → to_z w64 (of_z w64 entry) ≡ after (cell h.args.p h.args.cells.now) h.rounds.k h.rows.i h.rounds.k
  passed f = to_z-of_z w64 entry f ∙ h.rows.invariant.0.next h.rows.i h.rounds.k (omega arith) h.rows-test.true h.rounds-test.true

pub rounds-init : goal.rounds-init
rounds-init c = (round_first c.requires, refl)

pub lower_next-j-requires : goal.lower_next-j-requires
lower_next-j-requires c = let h = (goal.at.lower_next-j-requires c).In-rows in (omega arith, block_asks c.columns.invariant.0 (passed h (search rules)) c.columns-test.true)

-- after a block of columns
module _ (b : After-lower_next-j) where
  lowered : Turn b.args.p b.args.cells.now b.rounds.k b.rows.i (b.columns.j + b.lower_next-j.result) b.lower_next-j.new.cells
  lowered =
      let m = b.lower_next-j.ensures in
      block_done b.columns.invariant.0 (passed (goal.at.After-lower_next-j b).In-rows (search rules)) b.lower_next-j.result (omega (arith, m.1, b.columns-test.true)) m.2

pub returns-then-diagonal-lt0 : goal.returns-then-diagonal-lt0
returns-then-diagonal-lt0 c = row_refused (lowered (goal.at.returns-then-diagonal-lt0 c).After-lower_next-j) (grind (arith, to_z-of_z))

pub columns-preserved : goal.columns-preserved
columns-preserved c = (lowered (goal.at.columns-preserved c).After-lower_next-j, grind (arith, ints), c.columns.invariant.2)

-- a row that was gone through, and one that was left
pub rows-preserved : goal.rows-preserved
rows-preserved c = elim c.if-reaches.branch [
  | then-reaches+else-columns-test v ↦ (
    subst (Rows c.args.p c.args.cells.now c.rounds.k (c.rows.i + 1)) (sym v.cells-is) (row_done v.columns.invariant.0 v.columns-test.false v.columns.invariant.1),
    v.below-is ∙ v.columns.invariant.2,
  )
  | else-reaches v ↦ (
    subst (Rows c.args.p c.args.cells.now c.rounds.k (c.rows.i + 1)) (sym v.cells-is)
        (row_skipped c.rows-test.true c.rounds.invariant.0 c.rows.invariant.0 c.any_below-falls.ensures (passed (goal.at.rows-preserved c).In-rows (search rules))
        (sym c.reaches.ensures ∙ v.if-reaches.false)),
    v.below-is ∙ c.rows.invariant.1,
  )
]
