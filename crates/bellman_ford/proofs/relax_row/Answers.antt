-- `bellman_ford::relax_row` meets its contract.
-- Assumes nothing.
use mathlib.Core.Path.{refl}
use Prim.Native.Nat.{◌<◌}
use native.Mathlib.Omega.{arith}
use borrow.Author.Rules.{rules, sfits_of}
use lib.ListN.{length}
use mir.Syntax.{w64}
use mir.ValLaws.{to_z-of_z}
use Rattle.bellman_ford.proofs.Arc.{safe}
use Rattle.bellman_ford.proofs.Row.{row_first, row_next, row_stops, row_ends, safe_at, relaxed_at}
use Rattle.bellman_ford.proofs.relax_row.Goals as goal
use Rattle.bellman_ford.proofs.relax_row.Goals.{In-loop-i}

-- a place of the row is a place of the neighbour list
module _ (c : In-loop-i) where
  in_heads : c.loop-i.i < length c.args.lists.now.heads.now
  in_heads = omega (
    arith,
    c.requires.fit.sound.heads
        c.args.u c.loop-i.invariant.state.index,
  )

  in_weights : c.loop-i.i < length c.args.lists.now.weights.now
  in_weights = omega (
    arith,
    c.requires.fit.sound.weights
        c.args.u c.loop-i.invariant.state.index,
  )

pub loop-i-init : goal.loop-i-init
loop-i-init c = row_first (to_z-of_z w64 _ (sfits_of c.d-1.given)) c.requires.fact

pub offset_bounds-heads-i : goal.offset_bounds-heads-i
offset_bounds-heads-i c = let h = in_heads c in search rules

pub bounds-heads-i : goal.bounds-heads-i
bounds-heads-i c = in_heads (goal.at.bounds-heads-i c).In-loop-i

pub offset_bounds-weights-i : goal.offset_bounds-weights-i
offset_bounds-weights-i c = let h = in_weights (goal.at.offset_bounds-weights-i c).In-loop-i in search rules

pub bounds-weights-i : goal.bounds-weights-i
bounds-weights-i c = in_weights (goal.at.bounds-weights-i c).In-loop-i

pub relax_arc-requires : goal.relax_arc-requires
relax_arc-requires c = safe_at c.from-v.ensures (to_z-of_z w64 _ (sfits_of c.relax_arc-arg-1.given)) (safe c.requires.fit c.loop-i.invariant.state c.loop-i-test.true)

pub returns-in_err-size : goal.returns-in_err-size
returns-in_err-size c = row_stops c.requires.fit c.loop-i.invariant c.loop-i-test.true
    (relaxed_at c.from-v.ensures (to_z-of_z w64 _ (sfits_of c.relax_arc-arg-1.given)) c.in_err-size.was c.relax_arc.ensures) refl c.from_residual.ensures.0

pub loop-i-preserved : goal.loop-i-preserved
loop-i-preserved c = row_next c.requires.fit c.loop-i.invariant c.loop-i-test.true
    (relaxed_at c.from-v.ensures (to_z-of_z w64 _ (sfits_of c.relax_arc-arg-1.given)) c.in_ok-size.was c.relax_arc.ensures) refl

pub returns : goal.returns
returns c = row_ends c.requires.fit c.loop-i.invariant c.loop-i-test.false
