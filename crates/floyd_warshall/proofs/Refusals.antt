-- The refusals 1 and 2 as facts.
-- Assumes nothing.
use mathlib.Core.Path.{◌≡◌, subst}
use mathlib.Core.Bool.{true, false}
use mathlib.Core.List.{List}
use Prim.Native.Nat.{ℕ, ◌*◌, ◌≤◌, ◌<◌}
use borrow.Author.Tests.{leb-true, le-leb, lt-leb}
use lib.Dec.{leb}
use lib.IntN.{ℤ}
use lib.ListN.{length}
use Rattle.whole.proofs.Cases.{and_left, and_right}
use Rattle.clean.specs.Fill.{filled}
use Rattle.net.specs.Net.{Net, whole_net, inside_net, width}
use Rattle.matrix.specs.Matrix.{square, buffers_of}
use Rattle.matrix.proofs.Settles as pairs
use Rattle.floyd_warshall.specs.Promise.{enough, Promise}
use Rattle.floyd_warshall.specs.Filling.{refusal_no}

-- what a call that is not refused was lent
pub record Passed (g : Net ℤ) (matrix : List ℤ) (ranks : List ℕ) : Type 0 where
  pub enough : enough g matrix ranks ≡ true
  pub whole : whole_net g ≡ true
  pub inside : inside_net g ≡ true
  pub scratch : g.bound ≤ length ranks
  pub output : square g ≤ length matrix

module _ (g : Net ℤ) (matrix : List ℤ) (ranks : List ℕ) where
  pub refused_limits : whole_net g ≡ false → 1 ≡ refusal_no g matrix ranks
  unfolding refusal_no enough
  refused_limits e = rw e

  module _ (e : whole_net g ≡ true) where
    pub refused_ranks : length ranks < g.bound → 1 ≡ refusal_no g matrix ranks
    unfolding refusal_no enough
    refused_ranks h = rw (e, lt-leb g.bound (length ranks) h)

    module _ (h : g.bound ≤ length ranks) (p : ℕ) (w : p ≡ width g) where
      pub refused_matrix : length matrix < p * p → 1 ≡ refusal_no g matrix ranks
      unfolding refusal_no enough
      refused_matrix k = let k' : length matrix < square g = subst (λ (x : ℕ). length matrix < x * x) w k in rw (e, le-leb g.bound (length ranks) h, lt-leb (square g) (length matrix) k')

      module _ (k : p * p ≤ length matrix) where
        all_long : enough g matrix ranks ≡ true
        unfolding enough
        all_long = let k' : square g ≤ length matrix = subst (λ (x : ℕ). x * x ≤ length matrix) w k in rw (e, le-leb g.bound (length ranks) h, le-leb (square g) (length matrix) k')

        pub refused_outside : inside_net g ≡ false → 2 ≡ refusal_no g matrix ranks
        unfolding refusal_no
        refused_outside i = rw (all_long, i)

        pub refused_none : inside_net g ≡ true → 0 ≡ refusal_no g matrix ranks
        unfolding refusal_no
        refused_none i = rw (all_long, i)

  -- a refusal is what the promise says
  pub refused : (r : ℕ) → r ≡ refusal_no g matrix ranks → (r ≡ 0 → ⊥) → Promise g matrix ranks matrix ranks r
  unfolding refusal_no
  refused = pairs.refused g (enough g matrix ranks) (filled g.bound 0 ranks) (buffers_of matrix ranks)

  -- no refusal
  pub passed : refusal_no g matrix ranks ≡ 0 → Passed g matrix ranks
  unfolding refusal_no enough
  passed q =
      let p = pairs.passed g (enough g matrix ranks) (filled g.bound 0 ranks) (buffers_of matrix ranks) q in
      let l = and_right (whole_net g) _ p.0 in
      record {
        enough = p.0;
        whole = and_left (whole_net g) _ p.0;
        inside = p.1;
        scratch = leb-true _ _ (and_left (leb g.bound (length ranks)) _ l);
        output = leb-true _ _ (and_right (leb g.bound (length ranks)) _ l);
      }
