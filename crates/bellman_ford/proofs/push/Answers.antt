-- `bellman_ford::push` meets its contract.
-- Assumes nothing.
use mathlib.Core.Path.{refl, sym, ap, subst}
use Prim.Native.Nat.{ℕ, ◌<◌}
use native.Mathlib.Omega.{arith}
use lib.ListN.{set}
use Rattle.bellman_ford.specs.Search.{full, waiting, pushed}
use Rattle.bellman_ford.proofs.Waits.{slot_below}
use borrow.Author.Rules.{rules}
use Rattle.bellman_ford.proofs.push.Goals as goal
use Rattle.bellman_ford.proofs.push.Goals.{After-slot-at}

-- the place that the push writes
below : (c : After-slot-at) → c.slot-at.result < c.args.m
below c = subst (λ (x : ℕ). x < c.args.m) (sym c.slot-at.ensures) (slot_below _ _ _ c.requires.1 c.requires.2)

pub returns-then-m-size : goal.returns-then-m-size
returns-then-m-size c = full c.if-m-size.true refl refl refl

pub offset_bounds-queue-at : goal.offset_bounds-queue-at
offset_bounds-queue-at c = let h = below c in search rules

pub bounds-queue-at : goal.bounds-queue-at
bounds-queue-at c = omega (arith, below c)

pub returns-then-old-eq0 : goal.returns-then-old-eq0
returns-then-old-eq0 c = pushed c.if-old-eq0.true refl (ap (λ (k : ℕ). set c.args.queue.now k c.args.v) c.slot-at.ensures) refl

pub returns-else-old-eq0 : goal.returns-else-old-eq0
returns-else-old-eq0 c = waiting (omega (arith, c.if-m-size.false)) c.if-old-eq0.false refl (ap (λ (k : ℕ). set c.args.queue.now k c.args.v) c.slot-at.ensures) refl
