-- The refusals 1 and 2 as facts, for a map of any kind.
-- A number other than 0 is that of a row of the promise, and such a row leaves every buffer; 0 says that the map keeps the limits, every slice is long enough and
-- the links are inside.
-- Assumes nothing.
use mathlib.Core.Path.{◌≡◌, refl}
use mathlib.Core.Bool.{true}
use Prim.Native.Nat.{ℕ, ◌+◌, ◌*◌}
use borrow.Author.Tests.{leb-true}
use lib.Dec.{leb}
use lib.ListN.{length}
use Rattle.whole.proofs.Cases.{and_left, and_right}
use Rattle.numbers.proofs.Numbers as numbers
use Rattle.net.specs.Net.{Net, whole_net, inside_net, width, most_arcs_of}
use Rattle.hops.specs.Promise.{Buffers, long_enough, enough, result_of, table, Promise}
use Rattle.hops.specs.Parts.{refusal_no, Fits}

-- buffers that are long enough
pub fits_of : (m a p : ℕ) (b : Buffers) → long_enough m a p b ≡ true → Fits m a p b
unfolding long_enough
fits_of m a p b e =
    let e1 = and_right (leb p (length b.nodes)) _ e in
    let e2 = and_right (leb (p * p) (length b.matrix)) _ e1 in
    let e3 = and_right (leb (m + 1) (length b.offsets)) _ e2 in
    let e4 = and_right (leb a (length b.heads)) _ e3 in
    record {
      nodes = leb-true _ _ (and_left (leb p (length b.nodes)) _ e);
      matrix = leb-true _ _ (and_left (leb (p * p) (length b.matrix)) _ e1);
      offsets = leb-true _ _ (and_left (leb (m + 1) (length b.offsets)) _ e2);
      heads = leb-true _ _ (and_left (leb a (length b.heads)) _ e3);
      labels = leb-true _ _ (and_left (leb m (length b.labels)) _ e4);
      queue = leb-true _ _ (and_right (leb m (length b.labels)) _ e4);
    }

module _ {C : Type 0} (g : Net C) (b : Buffers) where
  -- a refusal is what the promise says
  pub refused : (r : ℕ) → r ≡ refusal_no g b → (r ≡ 0 → ⊥) → Promise g b b r 0
  unfolding refusal_no
  refused r q f = record { follows = numbers.refused 2 (table g b) (result_of 0 b) (refl, (refl, tt)) r q f }

  -- no refusal: nothing is too short, and the links are inside
  pub passed : refusal_no g b ≡ 0 → (enough g b ≡ true) × (inside_net g ≡ true)
  unfolding refusal_no
  passed q = let p = numbers.passed 2 (table g b) (refl, (refl, tt)) q in (p.0, p.1.0)

  module _ (ok : refusal_no g b ≡ 0) where
    pub passed_whole : whole_net g ≡ true
    passed_whole = and_left (whole_net g) _ (passed ok).0

    pub passed_inside : inside_net g ≡ true
    passed_inside = (passed ok).1

    pub passed_fits : Fits g.bound (most_arcs_of g) (width g) b
    passed_fits = fits_of _ _ _ b (and_right (whole_net g) _ (passed ok).0)
