-- `bellman_ford::search` meets its contract.
-- The loop's invariant is `Turning` of proofs/Turns.antt, at whose head the argument stands: between two turns an index that does not wait has no arc to relax. The
-- index taken has a label, so its row may be looked through; that gives a closed walk below zero, or the invariant again with less left to do. When nothing waits the
-- labels are the answer.
-- Assumes nothing.
use mathlib.Core.Path.{refl}
use Prim.Native.Nat.{◌<◌}
use native.Mathlib.Omega.{arith}
use borrow.Author.Rules.{rules}
use lib.ListN.{length, get_or}
use Rattle.bellman_ford.proofs.Turns.{turn_first, turn_below, turn_open, turn_next, turn_falls, turn_stops, turn_ends, done_at}
use Rattle.bellman_ford.proofs.search.Goals as goal
use Rattle.bellman_ford.proofs.search.Goals.{In-loop-size}

-- the first place of the ring, and what waits there
module _ (c : In-loop-size) where
  in_queue : c.loop-size.head < length c.loop-size.queue
  in_queue = let r = c.loop-size.invariant.calm.held.ring in omega (arith, r.first, r.room_q)

  in_queued : get_or c.loop-size.queue c.loop-size.head 0 < length c.loop-size.queued
  in_queued = omega (arith, turn_below c.loop-size.invariant c.loop-size-test.true, c.loop-size.invariant.calm.held.ring.room_d)

pub push-size-requires : goal.push-size-requires
push-size-requires c =
    let f = c.requires.fit in
    let w = c.requires.fresh.wide in
    (f.sound.bounded, omega (arith, f.below), omega arith, f.below, w.queue, w.queued)

pub loop-size-init : goal.loop-size-init
loop-size-init c = (turn_first c.requires.fit c.requires.fresh refl c.push-size.ensures).0

pub offset_bounds-queue-head : goal.offset_bounds-queue-head
offset_bounds-queue-head c = let h = in_queue c in search rules

pub bounds-queue-head : goal.bounds-queue-head
bounds-queue-head c = in_queue (goal.at.bounds-queue-head c).In-loop-size

pub offset_bounds-queued-u : goal.offset_bounds-queued-u
offset_bounds-queued-u c = let h = in_queued (goal.at.offset_bounds-queued-u c).In-loop-size in search rules

pub bounds-queued-u : goal.bounds-queued-u
bounds-queued-u c = in_queued (goal.at.bounds-queued-u c).In-loop-size

pub slot-head-requires : goal.slot-head-requires
slot-head-requires c =
    let r = c.loop-size.invariant.calm.held.ring in
    (c.requires.fit.sound.bounded, r.first, omega (arith, r.first))

pub relax_row-requires : goal.relax_row-requires
relax_row-requires c = record { fit = c.requires.fit; fact = turn_open c.loop-size.invariant c.loop-size-test.true c.slot-head.ensures }

pub returns-in_err-size : goal.returns-in_err-size
returns-in_err-size c = turn_stops c.loop-size.invariant c.loop-size-test.true (done_at c.in_err-size.was c.relax_row.ensures)
    (turn_first c.requires.fit c.requires.fresh refl c.push-size.ensures).1 refl c.from_residual.ensures.0

pub loop-size-smaller : goal.loop-size-smaller
loop-size-smaller c = turn_falls c.loop-size.invariant c.loop-size-test.true (done_at c.in_ok-size.was c.relax_row.ensures) refl

pub loop-size-preserved : goal.loop-size-preserved
loop-size-preserved c = turn_next c.loop-size.invariant c.loop-size-test.true (done_at c.in_ok-size.was c.relax_row.ensures) refl

pub returns : goal.returns
returns c = turn_ends c.loop-size.invariant c.loop-size-test.false (turn_first c.requires.fit c.requires.fresh refl c.push-size.ensures).1
