-- `floyd_warshall::width_of` meets its contract.
-- Assumes nothing.
use mathlib.Core.Path.{sym, ◌∙◌}
use native.Mathlib.Omega.{arith}
use Rattle.net.specs.Net.{int_net}
use Rattle.net.proofs.Bounds.{Whole, whole_ints, width_small}
use Rattle.matrix.proofs.Matrix.{square_small}
use Rattle.floyd_warshall.proofs.Refusals.{refused_limits, refused_ranks, refused_matrix, refused_outside, refused_none}
use Rattle.floyd_warshall.proofs.width_of.Goals as goal
use Rattle.floyd_warshall.proofs.width_of.Goals.{Else-not-whole, then-not-whole-via-then-not-whole, then-not-whole-via-else-not-whole+then-ranks-net}

-- past the first test: the map is whole
whole_at : (e : Else-not-whole) → Whole (int_net e.args.net)
whole_at e = whole_ints _ _ _ _ _ _ _ (sym e.if-not-whole.ensures)

pub returns-then-not-whole-clause-number : goal.returns-then-not-whole-clause-number
returns-then-not-whole-clause-number c = elim c.then-not-whole.branch [
  | then-not-whole-via-then-not-whole w ↦ refused_limits _ _ _ (sym c.whole.ensures ∙ w.if-not-whole.true)
  | then-not-whole-via-else-not-whole+then-ranks-net w ↦ refused_ranks _ _ _ (sym c.whole.ensures ∙ w.if-not-whole.false) w.if-ranks-net.true
]

pub count_present-p-requires : goal.count_present-p-requires
count_present-p-requires c = (whole_at (goal.at.count_present-p-requires c).Else-not-whole).marked

pub overflow_mul-p : goal.overflow_mul-p
overflow_mul-p c = omega (arith, square_small c.count_present-p.result (omega (arith, c.count_present-p.ensures, width_small (whole_at (goal.at.overflow_mul-p c).Else-not-whole))))

pub returns-then-matrix-p-clause-number : goal.returns-then-matrix-p-clause-number
returns-then-matrix-p-clause-number c = refused_matrix _ _ _ (sym c.if-not-whole.ensures) c.if-ranks-net.false _ c.count_present-p.ensures c.if-matrix-p.true

pub returns-then-inside-clause-number : goal.returns-then-inside-clause-number
returns-then-inside-clause-number c = refused_none _ _ _ (sym c.if-not-whole.ensures) c.if-ranks-net.false _ c.count_present-p.ensures c.if-matrix-p.false (sym c.if-inside.ensures)

pub returns-else-inside-clause-number : goal.returns-else-inside-clause-number
returns-else-inside-clause-number c = refused_outside _ _ _ (sym c.if-not-whole.ensures) c.if-ranks-net.false _ c.count_present-p.ensures c.if-matrix-p.false (sym c.if-inside.ensures)
