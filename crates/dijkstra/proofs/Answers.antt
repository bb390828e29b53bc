-- From what the parts gave to the promise: the answer of `dijkstra`, over plain lists.
-- Assumes nothing.
use mathlib.Core.Path.{◌≡◌, refl, sym, ap, ◌∙◌, subst}
use mathlib.Core.List.{List}
use Prim.Native.Nat.{ℕ, ◌≤◌, ◌<◌}
use native.Mathlib.Omega.{arith}
use lib.IntN.{ℤ, pos}
use lib.ListN.{length}
use Rattle.numbers.specs.Numbers.{here, past}
use Rattle.clean.specs.Fill.{filled, Settled}
use Rattle.clean.specs.None.{none_i64}
use Rattle.clean.proofs.Filled.{settled_over}
use Rattle.table.proofs.Laws as table
use Rattle.walks.specs.Walk.{Entry, Total}
use Rattle.walks.proofs.Over.{entry_of}
use Rattle.net.specs.Net.{Net, ArcOf, most_arcs_of}
use Rattle.net.proofs.Nodes.{has_below, width_most}
use Rattle.net.proofs.Totals.{total_within}
use Rattle.rows.specs.Rows.{Lists}
use Rattle.rows.specs.Scratch.{wiped}
use Rattle.rows.specs.Kept.{Kept, KeptLists, EnoughLists}
use Rattle.rows.proofs.Kept.{kept_none, kept_filled, kept_same, lists_kept, lists_wiped, wiped_rows}
use Rattle.pending.specs.Reach.{BadInReach}
use Rattle.turns.specs.Memory.{Memory}
use Rattle.turns.specs.Firsts.{EnoughMemory}
use Rattle.turns.proofs.Firsts.{memory_enough}
use Rattle.search.specs.Lists.{bag_wiped}
use Rattle.search.specs.Runs.{ToAll, done as all, bad as refuse}
use Rattle.dijkstra.specs.Promise.{Scratch, Buffers, memory, wiped_all, clear, Promise}
use Rattle.dijkstra.proofs.Refusals.{Passed}
use Rattle.dijkstra.proofs.Up.{no_negative}
use Rattle.dijkstra.proofs.Solves.{Solved}

-- scratch of which only the part used changed
pub record KeptScratch (m a : ℕ) (s t : Scratch) : Type 0 where
  pub rows : KeptLists m a s.rows t.rows
  pub preds : Kept m s.preds t.preds
  pub peaks : Kept m s.peaks t.peaks
  pub words : Kept m s.words t.words
  pub keys : Kept m s.keys t.keys

-- none changed
pub scratch_same : {m a : ℕ} {s : Scratch} → KeptScratch m a s s
scratch_same = record { rows = record { offsets = kept_none; heads = kept_none; weights = kept_none }; preds = kept_none; peaks = kept_none; words = kept_none; keys = kept_none }

-- wiped scratch is such
pub scratch_wiped : {m a : ℕ} {b : Buffers} {t : Scratch} → EnoughLists m a b.scratch.rows → EnoughMemory m (memory b) → t ≡ wiped_all m a b.scratch → KeptScratch m a b.scratch t
scratch_wiped l r e = record {
  rows = lists_wiped (pos 0) l (ap (λ (x : Scratch). x.rows) e);
  preds = kept_filled 0 r.preds (ap (λ (x : Scratch). x.preds) e);
  peaks = kept_filled 0 r.peaks (ap (λ (x : Scratch). x.peaks) e);
  words = kept_filled 0 r.words (ap (λ (x : Scratch). x.words) e);
  keys = kept_filled (pos 0) r.keys (ap (λ (x : Scratch). x.keys) e);
}

module _ {g : Net ℤ} {s : ℕ} {b : Buffers} (ok : Passed g s b) where
  abbrev m : ℕ
  m = g.bound

  -- the source is an index
  pub source_below : s < m
  source_below = has_below g s ok.source

  -- the map solved, and the number a that the code computed
  module _ {nb : Lists ℤ} {M : Memory ℤ} {number : ℕ} (v : Solved g s b nb M number) {a : ℕ} (is : a ≡ most_arcs_of g) where
    -- the lists can be wiped, and the distances blanked
    pub wipes : EnoughLists m a nb × EnoughMemory m M
    wipes = (subst (λ (j : ℕ). EnoughLists m j nb) (sym is) (lists_kept ok.rows v.rows), memory_enough ok.memory v.rest)

    -- a least total lies in its range
    in_range_lem : (BadInReach (ArcOf g) s → ⊥) → (i : ℕ) (x : ℤ) → Total (ArcOf g) s i x → Entry (ArcOf g) s i x
    in_range_lem n i x = entry_of (total_within g s i x ok.inside ok.source (omega (arith, width_most g, (table.whole m g.count g.room g.marks ok.whole).indices)) v.costs (no_negative n))

    -- the bag is wiped: the distances and the predecessors stay
    module _ {M' : Memory ℤ} (me : M' ≡ bag_wiped (pos 0) m M) where
      dist_kept : M'.dist ≡ M.dist
      dist_kept = ap (λ (x : Memory ℤ). x.dist) me

      preds_kept : M'.preds ≡ M.preds
      preds_kept = ap (λ (x : Memory ℤ). x.preds) me

      pub preds_room : m ≤ length M'.preds
      preds_room = rw preds_kept wipes.1.preds

      pub dist_room : m ≤ length M'.dist
      dist_room = rw dist_kept wipes.1.dist

    -- the lists are wiped, the bag and the predecessors
    module _ {l : Lists ℤ} (le : l ≡ wiped m a (pos 0) nb) {M' : Memory ℤ} (me : M' ≡ bag_wiped (pos 0) m M) {p : List ℕ} (pe : p ≡ filled m 0 M'.preds) where
      abbrev left : Scratch
      left = record { rows = l; preds = p; peaks = M'.peaks; words = M'.words; keys = M'.keys }

      -- the scratch is zero where it was used
      cleared : left ≡ clear g b
      cleared =
          let rows = le ∙ ap (λ (j : ℕ). wiped m j (pos 0) nb) is ∙ wiped_rows (pos 0) v.rows in
          let preds = pe ∙ ap (filled m 0) (preds_kept me) ∙ kept_same 0 v.rest.preds in
          let peaks = ap (λ (x : Memory ℤ). x.peaks) me ∙ kept_same 0 v.rest.peaks in
          let words = ap (λ (x : Memory ℤ). x.words) me ∙ kept_same 0 v.rest.words in
          let keys = ap (λ (x : Memory ℤ). x.keys) me ∙ kept_same (pos 0) v.rest.keys in
          λ i. record { rows = rows i; preds = preds i; peaks = peaks i; words = words i; keys = keys i }

      -- done
      pub answer_done : number ≡ 0 → Promise g s b (record { dist = M'.dist; scratch = left }) 0
      answer_done z = go v.answer
        where
          go : ToAll (ArcOf g) m s b.dist M.dist number → Promise g s b (record { dist = M'.dist; scratch = left }) 0
          go (all e n x) =
              let f = subst (Settled m (Entry (ArcOf g) s) b.dist) (sym (dist_kept me)) (settled_over (λ i h y t. in_range_lem n i y t) x) in
              record { follows = past ok.long (past ok.inside (past ok.source (past n (here tt (refl, (f, cleared)))))) }
          go (refuse e n) = absurd (omega (arith, e, z))

      -- a cost below zero: the distances are blank
      pub answer_bad : number ≡ 6 → {d : List ℤ} → d ≡ filled m none_i64 M'.dist → {r : ℕ} → r ≡ 6 → Promise g s b (record { dist = d; scratch = left }) r
      answer_bad z {d} de {r} q = go v.answer
        where
          go : ToAll (ArcOf g) m s b.dist M.dist number → Promise g s b (record { dist = d; scratch = left }) r
          go (all e n x) = absurd (omega (arith, e, z))
          go (refuse e n) =
              let f : d ≡ filled m none_i64 b.dist = de ∙ ap (filled m none_i64) (dist_kept me) ∙ kept_same none_i64 v.rest.dist in
              record { follows = past ok.long (past ok.inside (past ok.source (here n (q, λ i. record { dist = f i; scratch = cleared i })))) }
