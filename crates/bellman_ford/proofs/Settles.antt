-- The promise of `bellman_ford` settles the answer and each buffer, goes by the arcs alone, and gives each number exactly when its condition holds.
-- What holds of every table of numbers (crate numbers) gives this, row by row: after 0 the buffers are equal, since least totals are. Maps with the same arcs pass
-- the same tests and have the same walks. An undirected link below zero is a closed walk below zero, there and back.
-- Assumes nothing.
use mathlib.Core.Path.{◌≡◌, refl, sym, ap, ◌∙◌}
use mathlib.Core.Bool.{Bool, true, false}
use mathlib.Core.Logic.{◌↔◌}
use Prim.Native.Nat.{ℕ}
use native.Mathlib.Omega.{arith}
use lib.IntN.{ℤ, pos}
use lib.Signed.{lt_z, ◌≤ℤ◌, ◌<ℤ◌}
use Rattle.whole.specs.Zed.{◌⊕◌, zed, sum, lt_yes, lt_no}
use Rattle.numbers.specs.Numbers.{here, past, Follows, At, Given}
use Rattle.numbers.specs.Over.{Over}
use Rattle.numbers.proofs.Numbers.{◌then◌, is_one, follows_one, exactly, given, follows_over, itself}
use Rattle.clean.specs.Fill.{Settled}
use Rattle.clean.specs.None.{none_i64}
use Rattle.clean.proofs.Filled.{settled_one}
use Rattle.walks.specs.Walk.{Walk, NoNeg, NegativeFrom, Entry}
use Rattle.walks.proofs.Walk.{arc, join}
use Rattle.walks.proofs.Over.{entry_one, negative_from_over}
use Rattle.net.specs.Net.{Net, ArcOf, inside_net, has, most_arcs_of, SameNet}
use Rattle.net.proofs.Same.{arc_turned, same_inside, same_size}
use Rattle.net.proofs.Totals.{arc_over, arc_back, entries_over}
use Rattle.rows.specs.Kept.{Kept}
use Rattle.rows.proofs.Kept.{kept_none, kept_filled, kept_settled}
use Rattle.bellman_ford.specs.Promise.{Buffers, enough, clear, blank, table, Promise}
use Rattle.bellman_ford.proofs.Refusals.{enough_passed}
use Rattle.bellman_ford.proofs.Answers.{KeptScratch, scratch_same, scratch_wiped}

module _ {g : Net ℤ} {s : ℕ} {b : Buffers} where
  -- ---- two answers that the promise allows are equal: after 0 the distances are settled index by index, else the row names the buffers
  pub promise_one : {e e' : Buffers} {number number' : ℕ} → Promise g s b e number → Promise g s b e' number' → (number ≡ number') × (e ≡ e')
  promise_one {e} {e'} {number} {number'} p q = follows_one (table g s b) e e' number number' (is_one then is_one then is_one then is_one then all then tt) p.follows q.follows
    where
      all : (x y : Buffers) → Settled g.bound (Entry (ArcOf g) s) b.dist x.dist × (x.scratch ≡ clear g b)
          → Settled g.bound (Entry (ArcOf g) s) b.dist y.dist × (y.scratch ≡ clear g b) → x ≡ y
      all x y p q = λ j. record { dist = settled_one (pos 0) (λ v k c d. entry_one) p.0 q.0 j; scratch = (p.1 ∙ sym q.1) j }

  module _ {e : Buffers} {number : ℕ} (p : Promise g s b e number) where
    -- ---- each number exactly when its row is reached, and what is then left
    pub promise_exactly : (k : ℕ) → (number ≡ k) ↔ At k (table g s b)
    promise_exactly = exactly (table g s b) e number p.follows

    pub promise_given : (k : ℕ) → number ≡ k → Given k (table g s b) e
    promise_given = given (table g s b) e number p.follows

    -- ---- only the part used of each buffer changes
    pub promise_kept : Kept g.bound b.dist e.dist × KeptScratch g.bound (most_arcs_of g) b.scratch e.scratch
    promise_kept = go p.follows
      where
        blanked : enough g b ≡ true → inside_net g ≡ true → e ≡ blank g b → Kept g.bound b.dist e.dist × KeptScratch g.bound (most_arcs_of g) b.scratch e.scratch
        blanked l i q =
            let k = enough_passed g b l i in
            (kept_filled none_i64 k.dist (ap (λ (y : Buffers). y.dist) q), scratch_wiped k.room (ap (λ (y : Buffers). y.scratch) q))

        go : Follows (table g s b) e number → Kept g.bound b.dist e.dist × KeptScratch g.bound (most_arcs_of g) b.scratch e.scratch
        go (here l x) = rw x.1 (kept_none, scratch_same)
        go (past l (here i x)) = rw x.1 (kept_none, scratch_same)
        go (past l (past i (here h x))) = blanked l i x.1
        go (past l (past i (past h (here w x)))) = blanked l i x.1
        go (past l (past i (past h (past w (here t x))))) = (kept_settled x.1.0, scratch_wiped (enough_passed g b l i).room x.1.1)
        go (past l (past i (past h (past w (past t x))))) = absurd x

-- ---- the promise goes by the arcs: maps that no question can tell apart get the same answers
module _ {g g' : Net ℤ} (same : SameNet g g') where
  -- row by row
  same_table : (s : ℕ) (b : Buffers) → Over (table g s b) (table g' s b)
  same_table s b =
      (refl, rw (same.whole, same_size same, same.bound), λ e q. q)
      then (refl, same_inside same, λ e q. q)
      then (refl, same.has s, λ e q. q ∙ rw (same_size same, same.bound))
      then (refl, (negative_from_over (arc_over same), negative_from_over (arc_back same)), λ e q. q ∙ rw (same_size same, same.bound))
      then (refl, itself, λ e q. (entries_over same q.0, q.1 ∙ rw (same_size same, same.bound)))
      then tt

  pub promise_arcs : {s : ℕ} {b e : Buffers} {number : ℕ} → Promise g s b e number → Promise g' s b e number
  promise_arcs {s} {b} {e} {number} p = record { follows = follows_over (table g s b) (table g' s b) e number (same_table s b) p.follows }

-- ---- where no closed walk is below zero, each is not
pub no_negative : {Arc : ℕ → ℕ → ℤ → Type 0} {s : ℕ} → (NegativeFrom Arc s → ⊥) → NoNeg Arc s
no_negative f x a t r w = go (lt_z t (pos 0)) refl
  where
    go : (b : Bool) → lt_z t (pos 0) ≡ b → pos 0 ≤ℤ t
    go true e = absurd (f (record { x = x; a = a; t = t; reach = r; loop = w; below = omega (arith, zed, lt_yes t (pos 0) e) }))
    go false e = omega (arith, zed, lt_no t (pos 0) e)

-- ---- undirected: a link below zero in reach is a closed walk below zero, there and back
pub undirected_negative : (g : Net ℤ) (s u v : ℕ) (t c : ℤ) → g.directed ≡ false → Walk (ArcOf g) s u t → ArcOf g u v c → c <ℤ pos 0 → NegativeFrom (ArcOf g) s
undirected_negative g s u v t c e w a h = record { x = u; a = t; t = c ⊕ c; reach = w; loop = join (arc a) (arc (arc_turned g e u v c a)) refl; below = omega (arith, zed, sum c c) }

-- so the answer is 7
pub undirected_seven : {g : Net ℤ} {s u number : ℕ} {t : ℤ} {b e : Buffers} (v : ℕ) (c : ℤ) → Promise g s b e number → enough g b ≡ true → inside_net g ≡ true → has g s ≡ true → g.directed ≡ false
    → Walk (ArcOf g) s u t → ArcOf g u v c → c <ℤ pos 0 → number ≡ 7
undirected_seven {g} {s} {u} {number} {t} v c p e i h f w a l = (promise_exactly p 7).1 (e, (i, (h, undirected_negative g s u v t c f w a l)))
