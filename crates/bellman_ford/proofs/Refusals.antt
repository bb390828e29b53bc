-- The refusals 1 and 2 as facts, and what a call that is not refused may rest on.
-- Assumes nothing.
use mathlib.Core.Path.{◌≡◌, refl}
use mathlib.Core.Bool.{true}
use Prim.Native.Nat.{ℕ, ◌≤◌}
use borrow.Author.Tests.{leb-true}
use lib.Dec.{leb}
use lib.IntN.{ℤ}
use lib.ListN.{length}
use Rattle.whole.proofs.Cases.{and_left, and_right}
use Rattle.numbers.proofs.Numbers as numbers
use Rattle.table.proofs.Laws as lent
use Rattle.net.specs.Net.{Net, whole_net, inside_net, most_arcs_of}
use Rattle.rows.specs.Scratch.{has_lists}
use Rattle.rows.proofs.Kept.{has_lists_lem}
use Rattle.bellman_ford.specs.Promise.{Buffers, long_enough, enough, table, Promise}
use Rattle.bellman_ford.specs.Parts.{refusal_no, EnoughScratch}

-- ---- the number of the refusal
module _ (g : Net ℤ) (b : Buffers) where
  -- a refusal is what the promise says
  pub refused : (s r : ℕ) → r ≡ refusal_no g b → (r ≡ 0 → ⊥) → Promise g s b b r
  unfolding refusal_no
  refused s r q f = record { follows = numbers.refused 2 (table g s b) b (refl, (refl, tt)) r q f }

-- ---- what a call that is not refused may rest on
pub record Passed (g : Net ℤ) (b : Buffers) : Type 0 where
  pub long : enough g b ≡ true
  pub inside : inside_net g ≡ true
  pub whole : whole_net g ≡ true
  pub marked : g.bound ≤ length g.marks
  pub dist : g.bound ≤ length b.dist
  pub room : EnoughScratch g.bound (most_arcs_of g) b.scratch

pub enough_passed : (g : Net ℤ) (b : Buffers) → enough g b ≡ true → inside_net g ≡ true → Passed g b
unfolding long_enough
enough_passed g b e i =
    let l = and_right (whole_net g) _ e in
    let e1 = and_right (has_lists g.bound (most_arcs_of g) b.scratch.rows) _ l in
    let e2 = and_right (leb g.bound (length b.dist)) _ e1 in
    let e3 = and_right (leb g.bound (length b.scratch.queue)) _ e2 in
    record {
      long = e;
      inside = i;
      whole = and_left (whole_net g) _ e;
      marked = (lent.whole g.bound g.count g.room g.marks (and_left (whole_net g) _ e)).marked;
      dist = leb-true _ _ (and_left (leb g.bound (length b.dist)) _ e1);
      room =
          record {
            rows = has_lists_lem _ _ _ (and_left (has_lists g.bound (most_arcs_of g) b.scratch.rows) _ l);
            queue = leb-true _ _ (and_left (leb g.bound (length b.scratch.queue)) _ e2);
            queued = leb-true _ _ (and_left (leb g.bound (length b.scratch.queued)) _ e3);
            lengths = leb-true _ _ (and_right (leb g.bound (length b.scratch.queued)) _ e3);
          };
    }

pub passed : (g : Net ℤ) (b : Buffers) → refusal_no g b ≡ 0 → Passed g b
unfolding refusal_no
passed g b q = let p = numbers.passed 2 (table g 0 b) (refl, (refl, tt)) q in enough_passed g b p.0 p.1.0
