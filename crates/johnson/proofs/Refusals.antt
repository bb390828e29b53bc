-- The refusals 1 and 2 as facts.
-- Assumes nothing.
use mathlib.Core.Path.{◌≡◌}
use mathlib.Core.Bool.{Bool, true}
use mathlib.Core.List.{List}
use Prim.Native.Nat.{ℕ, ◌*◌}
use borrow.Author.Tests.{leb-true}
use lib.Dec.{leb}
use lib.IntN.{ℤ}
use lib.ListN.{length}
use Rattle.whole.proofs.Cases.{and_left, and_right}
use Rattle.net.specs.Net.{Net, net_of, whole_net, inside_net, most_arcs_of, width}
use Rattle.table.proofs.Laws.{whole}
use Rattle.net.proofs.Bounds.{Whole, whole_ints}
use Rattle.rows.specs.Scratch.{has_lists}
use Rattle.rows.proofs.Kept.{has_lists_lem}
use Rattle.search.proofs.Lists.{has_memory_lem}
use Rattle.matrix.specs.Matrix.{buffers_of}
use Rattle.matrix.proofs.Settles as pairs
use Rattle.johnson.specs.Promise.{Scratch, long_enough, enough, wiped_all, Promise}
use Rattle.johnson.specs.Parts.{refusal_no, Passed}

module _ (g : Net ℤ) (matrix : List ℤ) (s : Scratch) where
  -- a refusal is what the promise says
  pub refused : (r : ℕ) → r ≡ refusal_no g matrix s → (r ≡ 0 → ⊥) → Promise g matrix s matrix s r
  unfolding refusal_no
  refused = pairs.refused g (enough g matrix s) (wiped_all g.bound (most_arcs_of g) s) (buffers_of matrix s)

  -- no refusal: nothing is too short, and each link is inside
  pub not_refused : refusal_no g matrix s ≡ 0 → (enough g matrix s ≡ true) × (inside_net g ≡ true)
  unfolding refusal_no
  not_refused = pairs.passed g (enough g matrix s) (wiped_all g.bound (most_arcs_of g) s) (buffers_of matrix s)

  module _ (ok : refusal_no g matrix s ≡ 0) where
    pub passed : Passed g matrix s
    unfolding long_enough
    passed =
        let m = g.bound in
        let a = most_arcs_of g in
        let e = (not_refused ok).0 in
        let l = and_right (whole_net g) _ e in
        let e1 = and_right (leb (width g * width g) (length matrix)) _ l in
        let e2 = and_right (has_lists m a s.rows) _ e1 in
        record {
          whole = and_left (whole_net g) _ e;
          inside = (not_refused ok).1;
          output = leb-true _ _ (and_left (leb (width g * width g) (length matrix)) _ l);
          room = record {
            bounded = (whole g.bound g.count g.room g.marks (and_left (whole_net g) _ e)).indices;
            rows = has_lists_lem m a s.rows (and_left (has_lists m a s.rows) _ e1);
            heights = leb-true _ _ (and_left (leb m (length s.heights)) _ e2);
            memory = has_memory_lem m s.memory (and_right (leb m (length s.heights)) _ e2);
          };
        }

-- the limits of an integer map that is not refused
pub limits : (m n : ℕ) (d : Bool) (marks xs ys : List ℕ) (cs matrix : List ℤ) (s : Scratch) → refusal_no (net_of m n d marks xs ys cs) matrix s ≡ 0 → Whole (net_of m n d marks xs ys cs)
limits m n d marks xs ys cs matrix s ok = whole_ints m n d marks xs ys cs (passed (net_of m n d marks xs ys cs) matrix s ok).whole
