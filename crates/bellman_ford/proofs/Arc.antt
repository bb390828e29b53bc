-- One arc looked at within a turn: what holds goes on to the next place of the row, or the path is as long as there are indices, which shows a closed walk below zero.
-- Where the arc does not help, its head has a label that is low enough already. Where it does, the trail to the index taken and the arc are a trail to the new
-- label. If that has p arcs it passes an index twice, and there is a closed walk below zero (`too_long`). Else the label is stored and its index waits: labels only
-- fall, so whatever was low enough is so still, every other trail stays one, and the labels as a whole weigh less, by more than the one index that waits now.
-- Assumes nothing.
use mathlib.Core.Path.{◌≡◌, refl, sym, ◌∙◌, subst}
use mathlib.Core.Bool.{true, false}
use mathlib.Core.List.{List}
use mathlib.Core.Logic.{◌⊎◌, inl, inr}
use Prim.Native.Nat.{ℕ, ◌+◌, ◌≤◌, ◌<◌, ◌^◌}
use native.Mathlib.Omega.{arith}
use native.Mathlib.Decide.{ℕ_discrete}
use lib.IntN.{ℤ, pos}
use lib.Signed.{◌<ℤ◌}
use lib.ListN.{length, get_or, set, length-set}
use lib.Seq.{get_or-set_same, get_or-set_other}
use Rattle.whole.specs.Zed.{◌⊕◌, zed, sum, Within, within_of, Cost32}
use Rattle.clean.specs.None.{none_i64}
use Rattle.clean.specs.Better.{better_than}
use Rattle.walks.specs.Walk.{NegativeFrom}
use Rattle.walks.specs.Hist.{Low, Hist, Falls}
use Rattle.walks.proofs.Fall.{too_long}
use Rattle.walks.proofs.Hist.{low_falls, hist_stays, hist_new}
use Rattle.rows.specs.Rows.{Lists}
use Rattle.rows.specs.RowArc.{RowArc}
use Rattle.rows.specs.Kept.{Kept}
use Rattle.rows.proofs.Graph as graph
use Rattle.rows.proofs.Kept.{kept_none, kept_set}
use Rattle.bellman_ford.specs.Search.{Memory, memory_of, Wide, KeptMemory, Fit, Label, slot_of, Good, Held, Open, Safe, Pushed, full, waiting, pushed, Ring, to_do}
use Rattle.bellman_ford.proofs.Waits.{slot_below, full_waits, push_done}
use Rattle.bellman_ford.proofs.Labels.{worse_is, within, label_new, label_other, label_back, label_is, label_kinds, label_falls, better_label, lighter}

-- what a push does to the marks and to the ring's slices
pub push_marks : {m h n v n' : ℕ} {q qd q' qd' : List ℕ} → Ring m h n q qd → v < m → v < length qd → Pushed m h n v q qd q' qd' n'
    → (get_or qd' v 0 ≡ 0 → ⊥) × ((x : ℕ) → (x ≡ v → ⊥) → get_or qd' x 0 ≡ get_or qd x 0) × (n' ≤ n + 1)
push_marks {v} {qd} r l k (full f e a b) = (rw b (full_waits r v l f), λ x g. rw b, omega arith)
push_marks {v} {qd} r l k (waiting s f e a b) = (rw (b, get_or-set_same qd v 1 0 k) (λ y. omega arith), λ x g. rw b (get_or-set_other qd v x 1 0 g), omega arith)
push_marks {v} {qd} r l k (pushed z e a b) = (rw (b, get_or-set_same qd v 1 0 k) (λ y. omega arith), λ x g. rw b (get_or-set_other qd v x 1 0 g), omega arith)

pub push_kept : {m h n v n' : ℕ} {q qd q' qd' : List ℕ} → h < m → n ≤ m → v < m → Pushed m h n v q qd q' qd' n' → Kept m q q' × Kept m qd qd'
push_kept a b c (full f e x y) = (rw x kept_none, rw y kept_none)
push_kept {m} {h} {n} {v} {q} {qd} a b c (waiting l f e x y) = (rw x (kept_set q (slot_of m h n) v (slot_below m h n a b)), rw y (kept_set qd v 1 c))
push_kept {m} {h} {n} {v} {q} {qd} a b c (pushed z e x y) = (rw x (kept_set q (slot_of m h n) v (slot_below m h n a b)), rw y (kept_set qd v 1 c))

-- the lists are long enough at every moment
pub held_wide : {m p s : ℕ} {nb : Lists ℤ} {h n : ℕ} {M : Memory} → Held m p s nb h n M → Wide m M
held_wide t = record { dist = t.good.room_l; queue = t.ring.room_q; queued = t.ring.room_d; lengths = t.good.room_k }

module _ {m p s : ℕ} {nb : Lists ℤ} (fit : Fit m p s nb) {u k i h n : ℕ} {d : ℤ} {M : Memory} (o : Open m p s nb u d k i h n M) (here : i < get_or nb.offsets (u + 1) 0) where
  -- the arc at place i: its head and its cost
  abbrev v : ℕ
  v = get_or nb.heads i 0

  abbrev c : ℤ
  c = get_or nb.weights i (pos 0)

  arc_here : RowArc m nb u v c
  arc_here = graph.here m nb u i (pos 0) o.index o.from here (omega (arith, fit.sound.weights u o.index))

  below : v < m
  below = fit.sound.inside u v c arc_here

  room : m ≤ length M.dist
  room = o.held.good.room_l

  label_small : Within (2 ^ 41) d
  label_small = within fit o.came o.short

  cost_small : Cost32 c
  cost_small = fit.small u v c arc_here

  -- what the code asks of the arc
  pub safe : Safe m d k v c h n M
  safe = record {
    bounded = fit.sound.bounded;
    index = below;
    first = o.held.ring.first;
    few = o.held.ring.few;
    length_few = omega (arith, o.short, fit.few);
    label = omega (arith, label_small);
    cost = omega (arith, cost_small);
    wide = held_wide o.held;
  }

  sum_small : Within (2 ^ 42) (d ⊕ c)
  sum_small = within_of (2 ^ 42) (d ⊕ c) (omega (arith, label_small, cost_small, sum d c)) (omega (arith, label_small, cost_small, sum d c))

  sum_some : none_i64 <ℤ d ⊕ c
  sum_some = let w = sum_small in omega (arith, zed)

  -- the arcs before the next place, by those before this one and this one
  next : (l : List ℤ) → ((j : ℕ) → get_or nb.offsets u 0 ≤ j → j < i → Low (Label m l) (get_or nb.heads j 0) (d ⊕ get_or nb.weights j (pos 0))) → Low (Label m l) v (d ⊕ c)
      → (j : ℕ) → get_or nb.offsets u 0 ≤ j → j < i + 1 → Low (Label m l) (get_or nb.heads j 0) (d ⊕ get_or nb.weights j (pos 0))
  next l f last j a e = go (ℕ_discrete j i)
    where
      go : Dec (j ≡ i) → Low (Label m l) (get_or nb.heads j 0) (d ⊕ get_or nb.weights j (pos 0))
      go (yes q) = subst (λ (x : ℕ). Low (Label m l) (get_or nb.heads x 0) (d ⊕ get_or nb.weights x (pos 0))) (sym q) last
      go (no g) = f j a (omega (arith, g))

  -- the arc does not help
  pub kept_open : better_than (d ⊕ c) (get_or M.dist v (pos 0)) ≡ false → Open m p s nb u d k (i + 1) h n M
  kept_open b =
      let w = worse_is (d ⊕ c) (get_or M.dist v (pos 0)) b in
      record {
        held = o.held;
        index = o.index;
        came = o.came;
        short = o.short;
        others = o.others;
        mine = o.mine;
        from = omega (arith, o.from);
        done = next M.dist o.done (get_or M.dist v (pos 0), (below, refl, w.0), w.1);
      }

  -- the arc helps
  module _ (b : better_than (d ⊕ c) (get_or M.dist v (pos 0)) ≡ true) where
    abbrev l' : List ℤ
    l' = set M.dist v (d ⊕ c)

    abbrev ks' : List ℕ
    ks' = set M.lengths v (k + 1)

    falls : Falls (Label m M.dist) (Label m l')
    falls = label_falls M.dist below room sum_some b

    new : Label m l' v (d ⊕ c)
    new = label_new M.dist below room sum_some

    back : (x : ℕ) (y : ℤ) → (x ≡ v → ⊥) → Label m l' x y → Label m M.dist x y
    back = label_back M.dist below room sum_some

    came_new : Hist (RowArc m nb) s (Label m l') v (d ⊕ c) (k + 1)
    came_new = hist_new falls u v k d c (d ⊕ c) arc_here refl (better_label M.dist below room sum_some b) new o.came

    -- a path as long as there are indices
    pub long_negative : p ≤ k + 1 → NegativeFrom (RowArc m nb) s
    long_negative e = too_long fit.indices fit.ends fit.source came_new.trail (omega (arith, fit.many, came_new.arcs))

    -- stored, and the index queued
    module _ (e : k + 1 < p) {n' : ℕ} {q' qd' : List ℕ} (w : Pushed m h n v M.queue M.queued q' qd' n') where
      marks : (get_or qd' v 0 ≡ 0 → ⊥) × ((x : ℕ) → (x ≡ v → ⊥) → get_or qd' x 0 ≡ get_or M.queued x 0) × (n' ≤ n + 1)
      marks = push_marks o.held.ring below (omega (arith, below, o.held.ring.room_d)) w

      old_mark : (x : ℕ) → get_or qd' x 0 ≡ 0 → (x ≡ v → ⊥) × (get_or M.queued x 0 ≡ 0)
      old_mark x z = let f : x ≡ v → ⊥ = λ q. marks.0 (subst (λ (y : ℕ). get_or qd' y 0 ≡ 0) q z) in (f, sym (marks.1 x f) ∙ z)

      -- the new label came by the taken index's walk and this arc, the others as before
      came_all : (x : ℕ) (y : ℤ) → Label m l' x y → Hist (RowArc m nb) s (Label m l') x y (get_or ks' x 0) × (get_or ks' x 0 < p)
      came_all x y a = go (ℕ_discrete x v)
        where
          go : Dec (x ≡ v) → Hist (RowArc m nb) s (Label m l') x y (get_or ks' x 0) × (get_or ks' x 0 < p)
          go (yes q) =
              let g : y ≡ d ⊕ c = label_is M.dist below room sum_some y (subst (λ (z : ℕ). Label m l' z y) q a) in
              rw (q, g, get_or-set_same M.lengths v (k + 1) 0 (omega (arith, below, o.held.good.room_k))) (came_new, e)
          go (no f) = rw (get_or-set_other M.lengths v x (k + 1) 0 f) (hist_stays falls (o.held.good.came x y (back x y f a)), o.held.good.short x y (back x y f a))

      new_good : Good m p s nb l' ks'
      new_good = record {
        room_l = omega (arith, room, length-set M.dist v (d ⊕ c));
        room_k = omega (arith, o.held.good.room_k, length-set M.lengths v (k + 1));
        kinds = λ x a. label_kinds M.dist below room sum_some x (o.held.good.kinds x a);
        first = low_falls falls s (pos 0) o.held.good.first;
        came = λ x y a. (came_all x y a).0;
        short = λ x y a. (came_all x y a).1;
      }

      wait : (x : ℕ) → x < m → (get_or qd' x 0 ≡ 0 → ⊥) → (g : ℤ) × Label m l' x g
      wait x a f = go (ℕ_discrete x v)
        where
          go : Dec (x ≡ v) → (g : ℤ) × Label m l' x g
          go (yes q) = (d ⊕ c, subst (λ (z : ℕ). Label m l' z (d ⊕ c)) (sym q) new)
          go (no g) = let t = o.held.pending x a (λ z. f (marks.1 x g ∙ z)) in (t.0, label_other M.dist below room sum_some x t.0 g t.1)

      pub stored_open : Open m p s nb u d k (i + 1) h n' (memory_of l' q' qd' ks')
      stored_open = record {
        held = record { good = new_good; ring = push_done o.held.ring below w; pending = wait };
        index = o.index;
        came = hist_stays falls o.came;
        short = o.short;
        others = λ x y g z f q a r. let t = old_mark x q in low_falls falls y (g ⊕ z) (o.others x y g z f t.1 (back x g t.0 a) r);
        mine = λ q. let t = old_mark u q in label_other M.dist below room sum_some u d t.0 (o.mine t.1);
        from = omega (arith, o.from);
        done = next l' (λ j a f. low_falls falls (get_or nb.heads j 0) (d ⊕ get_or nb.weights j (pos 0)) (o.done j a f)) (d ⊕ c, new, omega (arith, zed));
      }

      pub stored_lighter : to_do (memory_of l' q' qd' ks') n' ≤ to_do M n
      stored_lighter = omega (arith, marks.2, lighter M.dist v (d ⊕ c) (omega (arith, below, room)) sum_some sum_small b (old_kind (o.held.good.kinds v below)))
        where
          old_kind : (get_or M.dist v (pos 0) ≡ none_i64) ⊎ (none_i64 <ℤ get_or M.dist v (pos 0))
              → (get_or M.dist v (pos 0) ≡ none_i64) ⊎ ((none_i64 <ℤ get_or M.dist v (pos 0)) × Within (2 ^ 41) (get_or M.dist v (pos 0)))
          old_kind (inl q) = inl q
          old_kind (inr q) = inr (q, within fit (o.held.good.came v (get_or M.dist v (pos 0)) (below, refl, q)) (o.held.good.short v (get_or M.dist v (pos 0)) (below, refl, q)))

      pub stored_kept : KeptMemory m M (memory_of l' q' qd' ks')
      stored_kept =
          let r = push_kept o.held.ring.first o.held.ring.few below w in
          record { dist = kept_set M.dist v (d ⊕ c) below; queue = r.0; queued = r.1; lengths = kept_set M.lengths v (k + 1) below }
