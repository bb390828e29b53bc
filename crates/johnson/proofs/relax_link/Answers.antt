-- `johnson::relax_link` meets its contract.
-- Assumes nothing.
use mathlib.Core.Path.{◌≡◌, sym, ap, ◌∙◌}
use mathlib.Core.Bool.{not}
use native.Mathlib.Omega.{arith}
use mir.Syntax.{w32}
use mir.ValLaws.{to_z-of_z}
use Rattle.whole.specs.Zed.{Cost32, fits_in}
use Rattle.johnson.specs.Rounds.{lowers, lowered}
use Rattle.johnson.proofs.Steps.{deep_next, looked_directed, looked_there, looked_back}
use Rattle.johnson.proofs.relax_link.Goals as goal
use Rattle.johnson.proofs.relax_link.Goals.{After-relax-there, then-not-directed, else-not-directed}

-- the first look
module _ (c : After-relax-there) where
  small : Cost32 c.args.cost
  small = fits_in w32 c.args.cost c.ranges.cost

  told : c.relax-there.result ≡ lowers c.args.u c.args.v c.args.cost c.args.heights.now
  told = rw (to_z-of_z w32 c.args.cost c.ranges.cost) at c.relax-there.ensures.0

  left : c.relax-there.new.heights ≡ lowered c.args.u c.args.v c.args.cost c.args.heights.now
  left = rw (to_z-of_z w32 c.args.cost c.ranges.cost) at c.relax-there.ensures.1

pub relax-back-requires : goal.relax-back-requires
relax-back-requires c =
    let a = c.args in
    let p = (goal.at.relax-back-requires c).After-relax-there in (
      omega (arith, c.relax-there.auto.heights, c.requires.1),
      omega (arith, c.relax-there.auto.heights, c.requires.0),
      deep_next a.u a.v a.v a.cost a.heights.now _ c.requires.1 (small p) c.requires.2 (left p),
    )

pub returns-then-there : goal.returns-then-there
returns-then-there c =
    let e = to_z-of_z w32 c.args.cost c.ranges.cost in
    let p = (goal.at.returns-then-there c).After-relax-there in
    elim c.if-not-directed.branch [
      | then-not-directed w ↦ looked_there _ _ _ _ (small p) w.if-not-directed.true (told p) (left p) (rw e at w.relax-back.ensures.0) (w.heights-is ∙ rw e at w.relax-back.ensures.1) c.if-there.true
      | else-not-directed w ↦ looked_directed _ _ _ _ (small p) w.if-not-directed.false (told p) (w.heights-is ∙ left p)
    ]

pub returns-else-there : goal.returns-else-there
returns-else-there c =
    let e = to_z-of_z w32 c.args.cost c.ranges.cost in
    let p = (goal.at.returns-else-there c).After-relax-there in
    elim c.if-not-directed.branch [
      | then-not-directed w ↦ looked_back _ _ _ _ (small p) w.if-not-directed.true (told p) (left p) (w.back-is ∙ rw e at w.relax-back.ensures.0)
          (w.heights-is ∙ rw e at w.relax-back.ensures.1) c.if-there.false
      | else-not-directed w ↦ looked_directed _ _ _ _ (small p) w.if-not-directed.false (w.back-is ∙ (ap not w.if-not-directed.false ∙ (sym c.if-there.false ∙ told p)))
          (w.heights-is ∙ left p)
    ]
