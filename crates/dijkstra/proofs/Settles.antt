-- The promise of `dijkstra` settles the answer and each buffer, goes by the arcs alone, and gives each number exactly when its condition holds.
-- What holds of every table of numbers (crate numbers) gives this, row by row: after 0 the buffers are equal, since least totals are. Maps with the same arcs pass
-- the same tests and have the same walks.
-- Assumes nothing.
use mathlib.Core.Path.{◌≡◌, refl, sym, ap, ◌∙◌}
use mathlib.Core.Bool.{false}
use mathlib.Core.Logic.{◌⊎◌, inl, inr, ◌↔◌}
use Prim.Native.Nat.{ℕ}
use lib.IntN.{ℤ, pos}
use lib.Signed.{◌<ℤ◌}
use Rattle.numbers.specs.Numbers.{here, past, Follows, At, Given}
use Rattle.numbers.specs.Over.{Over}
use Rattle.numbers.proofs.Numbers.{◌then◌, is_one, follows_one, exactly, given, follows_over, itself}
use Rattle.clean.specs.Fill.{Settled}
use Rattle.clean.specs.None.{none_i64}
use Rattle.clean.proofs.Filled.{settled_one}
use Rattle.walks.specs.Walk.{Walk, Entry}
use Rattle.walks.proofs.Over.{entry_one}
use Rattle.net.specs.Net.{Net, ArcOf, most_arcs_of, SameNet}
use Rattle.net.proofs.Same.{arc_turned, same_inside, same_size}
use Rattle.net.proofs.Totals.{arc_over, arc_back, entries_over}
use Rattle.rows.specs.Kept.{Kept}
use Rattle.rows.proofs.Kept.{kept_none, kept_filled, kept_settled}
use Rattle.pending.specs.Reach.{BadInReach}
use Rattle.search.proofs.Runs.{bad_over}
use Rattle.dijkstra.specs.Promise.{Buffers, clear, table, Promise}
use Rattle.dijkstra.proofs.Refusals.{enough_passed}
use Rattle.dijkstra.proofs.Answers.{KeptScratch, scratch_same, scratch_wiped}

module _ {g : Net ℤ} {s : ℕ} {b : Buffers} where
  -- ---- two answers that the promise allows are equal: after 0 the distances are settled index by index, else the row names the buffers
  pub promise_one : {e e' : Buffers} {number number' : ℕ} → Promise g s b e number → Promise g s b e' number' → (number ≡ number') × (e ≡ e')
  promise_one {e} {e'} {number} {number'} p q = follows_one (table g s b) e e' number number' (is_one then is_one then is_one then is_one then all then tt) p.follows q.follows
    where
      all : (x y : Buffers) → Settled g.bound (Entry (ArcOf g) s) b.dist x.dist × (x.scratch ≡ clear g b)
          → Settled g.bound (Entry (ArcOf g) s) b.dist y.dist × (y.scratch ≡ clear g b) → x ≡ y
      all x y p q = λ j. record { dist = settled_one (pos 0) (λ v k c d. entry_one) p.0 q.0 j; scratch = (p.1 ∙ sym q.1) j }

  module _ {e : Buffers} {number : ℕ} (p : Promise g s b e number) where
    -- ---- each number exactly when its row is reached, and what is then left
    pub promise_exactly : (k : ℕ) → (number ≡ k) ↔ At k (table g s b)
    promise_exactly = exactly (table g s b) e number p.follows

    pub promise_given : (k : ℕ) → number ≡ k → Given k (table g s b) e
    promise_given = given (table g s b) e number p.follows

    -- ---- only the part used of each buffer changes
    pub promise_kept : Kept g.bound b.dist e.dist × KeptScratch g.bound (most_arcs_of g) b.scratch e.scratch
    promise_kept = go p.follows
      where
        go : Follows (table g s b) e number → Kept g.bound b.dist e.dist × KeptScratch g.bound (most_arcs_of g) b.scratch e.scratch
        go (here l x) = rw x.1 (kept_none, scratch_same)
        go (past l (here i x)) = rw x.1 (kept_none, scratch_same)
        go (past l (past i (here h x))) = rw x.1 (kept_none, scratch_same)
        go (past l (past i (past h (here w x)))) =
            let k = enough_passed g s b l i h in
            (kept_filled none_i64 k.memory.dist (ap (λ (y : Buffers). y.dist) x.1), scratch_wiped k.rows k.memory (ap (λ (y : Buffers). y.scratch) x.1))
        go (past l (past i (past h (past w (here t x))))) =
            let k = enough_passed g s b l i h in
            (kept_settled x.1.0, scratch_wiped k.rows k.memory x.1.1)
        go (past l (past i (past h (past w (past t x))))) = absurd x

-- ---- the promise goes by the arcs: maps that no question can tell apart get the same answers
module _ {g g' : Net ℤ} (same : SameNet g g') where
  -- row by row
  same_table : (s : ℕ) (b : Buffers) → Over (table g s b) (table g' s b)
  same_table s b =
      (refl, rw (same.whole, same_size same, same.bound), λ e q. q)
      then (refl, same_inside same, λ e q. q)
      then (refl, same.has s, λ e q. q)
      then (refl, (bad_over (arc_over same), bad_over (arc_back same)), λ e q. q ∙ rw (same_size same, same.bound))
      then (refl, itself, λ e q. (entries_over same q.0, q.1 ∙ rw (same_size same, same.bound)))
      then tt

  pub promise_arcs : {s : ℕ} {b e : Buffers} {number : ℕ} → Promise g s b e number → Promise g' s b e number
  promise_arcs {s} {b} {e} {number} p = record { follows = follows_over (table g s b) (table g' s b) e number (same_table s b) p.follows }

-- ---- undirected: a link below zero with either end in reach refuses
pub undirected_bad : (g : Net ℤ) (s u v : ℕ) (t c : ℤ) → g.directed ≡ false → ArcOf g u v c → c <ℤ pos 0 → Walk (ArcOf g) s u t ⊎ Walk (ArcOf g) s v t → BadInReach (ArcOf g) s
undirected_bad g s u v t c e a h (inl w) = record { u = u; t = t; v = v; c = c; reach = w; arc_is = a; below = h }
undirected_bad g s u v t c e a h (inr w) = record { u = v; t = t; v = u; c = c; reach = w; arc_is = arc_turned g e u v c a; below = h }
