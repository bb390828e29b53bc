-- The loop over the ring: the source alone, an index taken, a turn done, and the end, where labels that no arc can lower are least totals.
-- The argument of the search. Each label came to its index by a trail: a walk from the source, with what each index that it passes had then, in which an index that
-- comes again has less than before. A store keeps that. Labels only fall, so the trail of the index taken, with the arc, is a trail to the new label, which is below
-- every label that its index had (walks, Hist). The path length counts the arcs of the trail. Where it reaches p, the trail passes one of the p present indices
-- twice, and since that has less the second time, the part between is a closed walk below zero: 7 is right (walks, Fall). With fewer arcs a label lies within 2^41,
-- so no sum leaves 64 bits (Labels). Each store makes the labels together lighter, and each turn takes one index from the ring: twice the weight and the number that
-- waits, added, fall with each turn, so the search ends (Arc). At the end nothing waits, and an arc of an index that does not wait lowers no label. So each label is
-- a least total, an index without one has no walk to it, and no closed walk in reach is below zero (walks, Labels).
-- Assumes nothing.
use mathlib.Core.Path.{◌≡◌, refl, sym, ◌∙◌, subst, transport}
use Rattle.std.specs.Prelude.{Result}
use Rattle.std.specs.Result.{is_err, result_unwrap_or}
use mathlib.Core.Bool.{Bool, true, false, true≢false}
use mathlib.Core.List.{List, [], ◌∷◌}
use mathlib.Core.Logic.{◌⊎◌, inl, inr}
use Prim.Native.Nat.{ℕ, ◌+◌, ◌-◌, ◌≤◌, ◌<◌}
use native.Mathlib.Omega.{arith}
use native.Mathlib.Decide.{ℕ_discrete}
use lib.IntN.{ℤ, pos}
use lib.Signed.{◌≤ℤ◌, ◌<ℤ◌}
use lib.ListN.{length, get_or, set, length-set}
use lib.Seq.{get_or-set_other}
use Rattle.whole.specs.Zed.{◌⊕◌, zed}
use Rattle.whole.proofs.Cases.{clash}
use Rattle.clean.specs.None.{none_i64}
use Rattle.walks.specs.Pigeon.{In}
use Rattle.walks.specs.Walk.{NoNeg, Total}
use Rattle.walks.specs.Hist.{At, at_here, at_there, begin, Low, Hist}
use Rattle.walks.proofs.Labels.{no_neg, labels_least, no_label}
use Rattle.walks.proofs.Fall.{walked}
use Rattle.rows.specs.Rows.{Lists}
use Rattle.rows.specs.RowArc.{RowArc}
use Rattle.rows.proofs.Kept.{kept_none, kept_set}
use Rattle.bellman_ford.specs.Search.{Memory, memory_of, KeptMemory, Fit, Label, slot_of, Ring, Good, Calm, Open, Pushed, to_do, RowDone, Fresh, Searched}
use Rattle.bellman_ford.specs.declared.NegativeLoop.{NegativeLoop}
use Rattle.bellman_ford.proofs.Waits.{push_done, take_below, take_marked, take_ring}
use Rattle.bellman_ford.proofs.Labels.{label_new, label_back, label_is, label_kinds}
use Rattle.bellman_ford.proofs.Arc.{push_marks, push_kept}
use Rattle.bellman_ford.proofs.Row.{memory_none, memory_more}

-- ---- an index is taken
module _ {m p s : ℕ} {nb : Lists ℤ} {h n : ℕ} {M : Memory} (t : Calm m p s nb h n M) (some : 0 < n) where
  abbrev u : ℕ
  u = get_or M.queue h 0

  abbrev du : ℤ
  du = get_or M.dist u (pos 0)

  taken_below : u < m
  taken_below = take_below t.held.ring some

  label_u : Label m M.dist u du
  label_u =
      let w = t.held.pending u taken_below (λ z. let y = take_marked t.held.ring some in omega arith) in
      subst (λ (x : ℤ). Label m M.dist u x) (sym w.1.1) w.1

  apart_mark : (x : ℕ) → (x ≡ u → ⊥) → get_or (set M.queued u 0) x 0 ≡ get_or M.queued x 0
  apart_mark x f = get_or-set_other M.queued u x 0 0 f

  wait : (v : ℕ) → v < m → (get_or (set M.queued u 0) v 0 ≡ 0 → ⊥) → (d : ℤ) × Label m M.dist v d
  wait v a f = go (ℕ_discrete v u)
    where
      go : Dec (v ≡ u) → (d : ℤ) × Label m M.dist v d
      go (yes q) = (du, subst (λ (y : ℕ). Label m M.dist y du) (sym q) label_u)
      go (no g) = t.held.pending v a (λ z. f (apart_mark v g ∙ z))

  open_start : Open m p s nb u du (get_or M.lengths u 0) (get_or nb.offsets u 0) (slot_of m h 1) (n - 1) (memory_of M.dist M.queue (set M.queued u 0) M.lengths)
  open_start = record {
    held = record { good = t.held.good; ring = take_ring t.held.ring some; pending = wait };
    index = taken_below;
    came = t.held.good.came u du label_u;
    short = t.held.good.short u du label_u;
    others = λ x v e c f q a r. t.relaxed x v e c (sym (apart_mark x f) ∙ q) a r;
    mine = λ q. label_u;
    from = omega arith;
    done = λ j a b. absurd (omega arith);
  }

-- ---- nothing waits
calm_end : {m p s : ℕ} {nb : Lists ℤ} {h n : ℕ} {M : Memory} → Calm m p s nb h n M → n ≤ 0 → NoNeg (RowArc m nb) s × ((v : ℕ) → v < m → Total (RowArc m nb) s v (get_or M.dist v (pos 0)))
calm_end {m} {p} {s} {nb} {h} {n} {M} t none = (no_neg one all first.1, λ v b. pick v b (t.held.good.kinds v b))
  where
    first : Low (Label m M.dist) s (pos 0)
    first = t.held.good.first

    idle : (v : ℕ) → v < m → get_or M.queued v 0 ≡ 0
    idle v b = go (ℕ_discrete (get_or M.queued v 0) 0)
      where
        go : Dec (get_or M.queued v 0 ≡ 0) → get_or M.queued v 0 ≡ 0
        go (yes e) = e
        go (no f) = absurd (let w = t.held.ring.found v b f in omega (arith, w.1))

    one : (v : ℕ) (d e : ℤ) → Label m M.dist v d → Label m M.dist v e → d ≡ e
    one v d e a b = sym a.1 ∙ b.1

    all : (u v : ℕ) (d c : ℤ) → Label m M.dist u d → RowArc m nb u v c → (e : ℤ) × Label m M.dist v e × e ≤ℤ d ⊕ c
    all u v d c a r = t.relaxed u v d c (idle u a.0) a r

    pick : (v : ℕ) → v < m → (get_or M.dist v (pos 0) ≡ none_i64) ⊎ (none_i64 <ℤ get_or M.dist v (pos 0)) → Total (RowArc m nb) s v (get_or M.dist v (pos 0))
    pick v b (inl e) = inr (e, no_label one all first.1 (λ d a. let f : none_i64 ≡ d = sym e ∙ a.1 in let g : none_i64 <ℤ d = a.2 in omega (arith, zed)))
    pick v b (inr q) = inl (labels_least one all first.1 first.2 (b, refl, q) (walked (t.held.good.came v (get_or M.dist v (pos 0)) (b, refl, q)).trail))

-- ---- the source alone
module _ {m p s : ℕ} {nb : Lists ℤ} {M : Memory} (fit : Fit m p s nb) (f : Fresh m M) where
  empty_ring : Ring m 0 0 M.queue M.queued
  empty_ring = record {
    first = omega (arith, fit.below);
    few = omega arith;
    room_q = f.wide.queue;
    room_d = f.wide.queued;
    inside = λ i k. absurd (omega arith);
    marked = λ i k. absurd (omega arith);
    apart = λ i j a b. absurd (omega arith);
    found = λ v a g. absurd (g (f.queued v a));
  }

  abbrev l₁ : List ℤ
  l₁ = set M.dist s (pos 0)

  zero_some : none_i64 <ℤ pos 0
  zero_some = omega (arith, zed)

  source_label : Label m l₁ s (pos 0)
  source_label = label_new M.dist fit.below f.wide.dist zero_some

  -- whoever has a label is the source
  only : (x : ℕ) (d : ℤ) → Label m l₁ x d → (x ≡ s) × (d ≡ pos 0)
  only x d a = go (ℕ_discrete x s)
    where
      go : Dec (x ≡ s) → (x ≡ s) × (d ≡ pos 0)
      go (yes q) = (q, label_is M.dist fit.below f.wide.dist zero_some d (subst (λ (y : ℕ). Label m l₁ y d) q a))
      go (no g) =
          absurd
          (let b = label_back M.dist fit.below f.wide.dist zero_some x d g a in let e : none_i64 ≡ d = sym (f.dist x b.0) ∙ b.1 in let k : none_i64 <ℤ d = b.2 in omega (arith, zed))

  some_indices : 0 < p
  some_indices = subst (λ (x : ℕ). 0 < x) fit.many (go fit.indices fit.source)
    where
      go : (l : List ℕ) → In s l → 0 < length l
      go (x ∷ l) i = omega arith
      go [] i = elim i [ ]

  start : Hist (RowArc m nb) s (Label m l₁) s (pos 0) 0
  start = record { h = []; trail = begin refl; arcs = refl; low = now }
    where
      now : (x : ℕ) (a : ℤ) → At x a (record { ix = s; had = pos 0 } ∷ []) → Low (Label m l₁) x a
      now x a (at_here q e) = (pos 0, subst (λ (y : ℕ). Label m l₁ y (pos 0)) (sym q) source_label, omega (arith, zed))
      now x a (at_there i) = elim i [ ]

  source_good : Good m p s nb l₁ M.lengths
  source_good = record {
    room_l = omega (arith, f.wide.dist, length-set M.dist s (pos 0));
    room_k = f.wide.lengths;
    kinds = λ v a. label_kinds M.dist fit.below f.wide.dist zero_some v (inl (f.dist v a));
    first = (pos 0, source_label, omega (arith, zed));
    came = λ v d a. let w = only v d a in rw (f.lengths v a.0, w.0, w.1) start;
    short = λ v d a. rw (f.lengths v a.0) some_indices;
  }

  module _ {n' : ℕ} {q' qd' : List ℕ} (w : Pushed m 0 0 s M.queue M.queued q' qd' n') where
    calm_first : Calm m p s nb 0 n' (memory_of l₁ q' qd' M.lengths)
    calm_first = record {
      held = record { good = source_good; ring = push_done empty_ring fit.below w; pending = λ v a g. queued v a g (ℕ_discrete v s) };
      relaxed = λ u v d c q a r. absurd (marks.0 (subst (λ (y : ℕ). get_or qd' y 0 ≡ 0) (only u d a).0 q));
    }
      where
        marks : (get_or qd' s 0 ≡ 0 → ⊥) × ((x : ℕ) → (x ≡ s → ⊥) → get_or qd' x 0 ≡ get_or M.queued x 0) × (n' ≤ 0 + 1)
        marks = push_marks empty_ring fit.below (omega (arith, fit.below, f.wide.queued)) w

        queued : (v : ℕ) → v < m → (get_or qd' v 0 ≡ 0 → ⊥) → Dec (v ≡ s) → (d : ℤ) × Label m l₁ v d
        queued v a g (yes q) = (pos 0, subst (λ (y : ℕ). Label m l₁ y (pos 0)) (sym q) source_label)
        queued v a g (no k) = absurd (g (marks.1 v k ∙ f.queued v a))

    first_kept : KeptMemory m M (memory_of l₁ q' qd' M.lengths)
    first_kept =
        let r = push_kept (omega (arith, fit.below)) (omega arith) fit.below w in
        record { dist = kept_set M.dist s (pos 0) fit.below; queue = r.0; queued = r.1; lengths = kept_none }

-- what came back from the row is x
pub done_at : {m p s h n : ℕ} {nb : Lists ℤ} {M M' : Memory} {r x : Result ℕ NegativeLoop} → r ≡ x → RowDone m p s nb h n M M' (is_err r) (result_unwrap_or r 0)
    → RowDone m p s nb h n M M' (is_err x) (result_unwrap_or x 0)
done_at {m} {p} {s} {h} {n} {nb} {M} {M'} f w = transport (λ i. RowDone m p s nb h n M M' (is_err (f i)) (result_unwrap_or (f i) 0)) w

-- ---- the loop's invariant, a turn, and its answers
pub record Turning (m p s : ℕ) (nb : Lists ℤ) (h n : ℕ) (M₀ M : Memory) : Type 0 where
  pub calm : Calm m p s nb h n M
  pub rest : KeptMemory m M₀ M

pub turn_first : {m p s n' : ℕ} {nb : Lists ℤ} {M : Memory} {l' : List ℤ} {q' qd' : List ℕ} → Fit m p s nb → Fresh m M → l' ≡ set M.dist s (pos 0) → Pushed m 0 0 s M.queue M.queued q' qd' n'
    → Turning m p s nb 0 n' (memory_of l' q' qd' M.lengths) (memory_of l' q' qd' M.lengths) × KeptMemory m M (memory_of l' q' qd' M.lengths)
turn_first fit f e w = rw e (record { calm = calm_first fit f w; rest = memory_none }, first_kept fit f w)

module _ {m p s : ℕ} {nb : Lists ℤ} {h n : ℕ} {M₀ M : Memory} (t : Turning m p s nb h n M₀ M) (some : 0 < n) where
  abbrev took : ℕ
  took = get_or M.queue h 0

  abbrev M₁ : Memory
  M₁ = memory_of M.dist M.queue (set M.queued took 0) M.lengths

  pub turn_below : took < m
  turn_below = taken_below t.calm some

  pub turn_open : {h' : ℕ} → h' ≡ slot_of m h 1 → Open m p s nb took (get_or M.dist took (pos 0)) (get_or M.lengths took 0) (get_or nb.offsets took 0) h' (n - 1) M₁
  turn_open e = rw e (open_start t.calm some)

  module _ {h' n' : ℕ} {M' : Memory} {b : Bool} (r : RowDone m p s nb h' (n - 1) M₁ M' b n') where
    turn_rest : KeptMemory m M₀ M'
    turn_rest = memory_more (memory_more t.rest (record { dist = kept_none; queue = kept_none; queued = kept_set M.queued took 0 turn_below; lengths = kept_none })) r.rest

    pub turn_next : b ≡ false → Turning m p s nb h' n' M₀ M'
    turn_next e = record { calm = r.no e; rest = turn_rest }

    pub turn_falls : b ≡ false → to_do M' n' < to_do M n
    turn_falls e = omega (arith, r.lighter e)

    pub turn_stops : {A : Memory} {b' : Bool} → KeptMemory m A M₀ → b ≡ true → b' ≡ true → Searched m s nb A M' b'
    turn_stops k e f = record { yes = λ z. r.yes e; no = λ z. absurd (clash f z); rest = memory_more k turn_rest }

pub turn_ends : {m p s : ℕ} {nb : Lists ℤ} {h n : ℕ} {A M₀ M : Memory} → Turning m p s nb h n M₀ M → n ≤ 0 → KeptMemory m A M₀ → Searched m s nb A M false
turn_ends t z k = record { yes = λ e. absurd (true≢false (sym e)); no = λ e. calm_end t.calm z; rest = memory_more k t.rest }
