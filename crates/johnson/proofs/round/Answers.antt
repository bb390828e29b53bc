-- `johnson::round` meets its contract.
-- Assumes nothing.
use mathlib.Core.Path.{refl}
use native.Mathlib.Omega.{arith}
use borrow.Author.Rules.{rules}
use lib.IntN.{pos}
use lib.ListN.{get_or}
use mir.Syntax.{w32}
use mir.ValLaws.{to_z-of_z}
use Rattle.johnson.proofs.Steps.{sweep_starts, sweep_asks, sweep_next, sweep_ends}
use Rattle.johnson.proofs.round.Goals as goal

pub loop-k-init : goal.loop-k-init
loop-k-init c = sweep_starts _ _ _

pub relax_link-fell-requires : goal.relax_link-fell-requires
relax_link-fell-requires c =
    let w = sweep_asks c.requires.0 c.requires.1 c.loop-k.invariant c.loop-k-test.true in
    (omega (arith, c.from-u.ensures, w.0.0), omega (arith, c.from-v.ensures, w.0.1), w.1)

pub loop-k-preserved : goal.loop-k-preserved
loop-k-preserved c =
    let e = to_z-of_z w32 (get_or c.args.net.costs.costs.now c.loop-k.k (pos 0)) (search rules) in
    sweep_next c.requires.0 c.loop-k.invariant c.loop-k-test.true (rw (c.from-u.ensures, c.from-v.ensures, e) at c.relax_link-fell.ensures) refl

pub returns : goal.returns
returns c = sweep_ends c.requires.0 c.loop-k.invariant c.loop-k-test.false
