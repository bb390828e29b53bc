-- One breadth-first search. The labels in the queue rise by at most one, so an index seen before has a label no higher than the one that it would get now;
-- when the queue is done, or every index is labelled, each arc from a labelled index leads to one whose label is at most one higher, and no walk can be shorter than the labels say.
-- Assumes nothing.
use mathlib.Core.Path.{◌≡◌, refl, sym, ap, ◌∙◌, subst}
use mathlib.Core.Bool.{Bool, cond}
use mathlib.Core.List.{List}
use mathlib.Core.Logic.{◌⊎◌, inl, inr}
use Prim.Native.Nat.{ℕ, zero, suc, ◌+◌, ◌-◌, ◌≤◌, ◌<◌}
use native.Mathlib.Omega.{arith}
use native.Mathlib.Decide.{ℕ_discrete, dec_lt}
use borrow.Author.Tests.{eq-eqb, ne_eqb}
use lib.ListN.{length, get_or, drop, set, length-set}
use lib.Seq.{get_or-set_same, get_or-set_other, drop-set-lt}
use Rattle.rows.specs.Rows.{end_lists}
use Rattle.rows.specs.RowArc.{Sound}
use Rattle.hops.specs.Steps.{Steps, stay, step, Entry}
use Rattle.hops.specs.Search.{RowLeads, blanks, shown_of, Low, Met, old, new, Good, Turning, Open, Kept, RowDone, Fresh, Searched}
use Rattle.hops.proofs.Steps.{snoc}

-- ---- how many labels are 0
blank_at : (l : List ℕ) (m : ℕ) → get_or l m 0 ≡ 0 → blanks l (suc m) ≡ suc (blanks l m)
blank_at l m e = ap (λ (t : Bool). cond t (suc (blanks l m)) (blanks l m)) (eq-eqb _ 0 e)

full_at : (l : List ℕ) (m : ℕ) → (get_or l m 0 ≡ 0 → ⊥) → blanks l (suc m) ≡ blanks l m
full_at l m f = ap (λ (t : Bool). cond t (suc (blanks l m)) (blanks l m)) (ne_eqb _ 0 f)

blanks_all : (l : List ℕ) (m : ℕ) → ((v : ℕ) → v < m → get_or l v 0 ≡ 0) → blanks l m ≡ m
blanks_all l zero z = refl
blanks_all l (suc m) z = omega (arith, blank_at l m (z m (omega arith)), blanks_all l m (λ v h. z v (omega arith)))

-- a store at or past the first m
blanks_past : (l : List ℕ) (m v x : ℕ) → m ≤ v → blanks (set l v x) m ≡ blanks l m
blanks_past l zero v x h = refl
blanks_past l (suc m) v x h = go (blanks_past l m v x (omega arith)) (ℕ_discrete (get_or l m 0) 0)
  where
    same : get_or (set l v x) m 0 ≡ get_or l m 0
    same = get_or-set_other l v m x 0 (omega arith)

    go : blanks (set l v x) m ≡ blanks l m → Dec (get_or l m 0 ≡ 0) → blanks (set l v x) (suc m) ≡ blanks l (suc m)
    go r (yes e) = omega (arith, blank_at l m e, blank_at (set l v x) m (same ∙ e))
    go r (no f) = omega (arith, full_at l m f, full_at (set l v x) m (λ z. f (sym same ∙ z)))

-- a label is given
blanks_set : (l : List ℕ) (m v x : ℕ) → m ≤ length l → v < m → get_or l v 0 ≡ 0 → 0 < x → blanks (set l v x) m + 1 ≡ blanks l m
blanks_set l zero v x r h e p = absurd (omega arith)
blanks_set l (suc m) v x r h e p = at (λ i. blanks_set l m v x (omega arith) i e p) (ℕ_discrete v m)
  where
    here : v ≡ m → blanks (set l v x) (suc m) + 1 ≡ blanks l (suc m)
    here q =
        let same : get_or (set l v x) m 0 ≡ x = ap (λ (j : ℕ). get_or (set l v x) j 0) (sym q) ∙ get_or-set_same l v x 0 (omega arith) in
        omega (arith, full_at (set l v x) m (λ z. omega (arith, same, z)), blank_at l m (ap (λ (j : ℕ). get_or l j 0) (sym q) ∙ e), blanks_past l m v x (omega arith))

    go : (v ≡ m → ⊥) → blanks (set l v x) m + 1 ≡ blanks l m → Dec (get_or l m 0 ≡ 0) → blanks (set l v x) (suc m) + 1 ≡ blanks l (suc m)
    go n i (yes z) = omega (arith, blank_at l m z, blank_at (set l v x) m (get_or-set_other l v m x 0 (λ y. n (sym y)) ∙ z))
    go n i (no f) = omega (arith, full_at l m f, full_at (set l v x) m (λ z. f (sym (get_or-set_other l v m x 0 (λ y. n (sym y))) ∙ z)))

    at : (v < m → blanks (set l v x) m + 1 ≡ blanks l m) → Dec (v ≡ m) → blanks (set l v x) (suc m) + 1 ≡ blanks l (suc m)
    at i (yes q) = here q
    at i (no n) = go n (i (omega (arith, n))) (ℕ_discrete (get_or l m 0) 0)

-- an index without a label: the queue has room
pub room_for : {m s n : ℕ} {E : ℕ → ℕ → Type 0} {l q : List ℕ} → Good m s E n l q → (v : ℕ) → v < m → get_or l v 0 ≡ 0 → n < m
room_for {m} {l = l} g v h e = omega (arith, g.count, blanks_set l m v 1 g.room_l h e (omega arith))

-- the queue is never longer than the labels
pub few_queued : {m s n : ℕ} {E : ℕ → ℕ → Type 0} {l q : List ℕ} → Good m s E n l q → n ≤ m
few_queued g = omega (arith, g.count)

-- ---- lengths and rests
pub kept_refl : (m : ℕ) (l q : List ℕ) → Kept m l q l q
kept_refl m l q = record { long_l = refl; long_q = refl; labels = refl; queue = refl }

pub kept_trans : {m : ℕ} {l q l' q' l'' q'' : List ℕ} → Kept m l q l' q' → Kept m l' q' l'' q'' → Kept m l q l'' q''
kept_trans a b = record { long_l = b.long_l ∙ a.long_l; long_q = b.long_q ∙ a.long_q; labels = b.labels ∙ a.labels; queue = b.queue ∙ a.queue }

pub kept_met : {m v k n n' : ℕ} {l q l' q' : List ℕ} → v < m → n ≤ m → Met v k n l q l' q' n' → Kept m l q l' q'
kept_met {m} {v} {k} {n} {q = q} h f (old z a b c) =
    record { long_l = ap length b; long_q = ap length c ∙ simp length-set; labels = ap (drop m) b; queue = ap (drop (m + 1)) c ∙ drop-set-lt (m + 1) q n v (omega arith) }
kept_met {m} {v} {k} {n} {l = l} {q = q} h f (new z a b c) = record {
  long_l = ap length b ∙ simp length-set;
  long_q = ap length c ∙ simp length-set;
  labels = ap (drop m) b ∙ drop-set-lt m l v k h;
  queue = ap (drop (m + 1)) c ∙ drop-set-lt (m + 1) q n v (omega arith);
}

-- ---- what is written behind the queue changes nothing
module _ {m s n : ℕ} {E : ℕ → ℕ → Type 0} {l q : List ℕ} (g : Good m s E n l q) (v : ℕ) where
  pub same_place : (j : ℕ) → j < n → get_or (set q n v) j 0 ≡ get_or q j 0
  same_place j i = get_or-set_other q n j v 0 (omega arith)

  pub place_label : (j : ℕ) → j < n → get_or l (get_or (set q n v) j 0) 0 ≡ get_or l (get_or q j 0) 0
  place_label j i = ap (λ (x : ℕ). get_or l x 0) (same_place j i)

  pub behind : Good m s E n l (set q n v)
  behind = record {
    room_l = g.room_l;
    room_q = simp length-set g.room_q;
    count = g.count;
    inside = λ j i. omega (arith, same_place j i, g.inside j i);
    labelled = λ j i. omega (arith, place_label j i, g.labelled j i);
    found = λ w i a. let f = g.found w i a in (f.0, f.1, same_place f.0 f.1 ∙ f.2);
    rising = λ i j a b. let h : i < n = omega arith in omega (arith, place_label i h, place_label j b, g.rising i j a b);
    small = λ j i. omega (arith, place_label j i, g.small j i);
    sound = g.sound;
  }

-- ---- an index that was not seen, and stands behind the queue, is labelled
module _ {m s n : ℕ} {E : ℕ → ℕ → Type 0} {l q : List ℕ} (g : Good m s E n l q) (v k : ℕ) (h : v < m) (z : get_or l v 0 ≡ 0) (at : get_or q n 0 ≡ v) where
  abbrev l' : List ℕ
  l' = set l v k

  pub same_label : (w : ℕ) → 0 < get_or l w 0 → get_or l' w 0 ≡ get_or l w 0
  same_label w p = get_or-set_other l v w k 0 (λ e. omega (arith, z, p, ap (λ (x : ℕ). get_or l x 0) e))

  new_label : get_or l' v 0 ≡ k
  new_label = get_or-set_same l v k 0 (omega (arith, h, g.room_l))

  pub same_at : (j : ℕ) → j < n → get_or l' (get_or q j 0) 0 ≡ get_or l (get_or q j 0) 0
  same_at j i = same_label _ (g.labelled j i)

  pub new_at : get_or l' (get_or q n 0) 0 ≡ k
  new_at = ap (λ (x : ℕ). get_or l' x 0) at ∙ new_label

  pub low_stays : (w x : ℕ) → Low l w x → Low l' w x
  low_stays w x a = record { seen = omega (arith, a.seen, same_label w a.seen); most = omega (arith, a.most, same_label w a.seen) }

  pub low_new : (x : ℕ) → 0 < k → k ≤ x → Low l' v x
  low_new x p i = record { seen = omega (arith, new_label); most = omega (arith, new_label) }

  -- a place of the longer queue: an old one or the new one
  each : (P : ℕ → Type 0) → ((j : ℕ) → j < n → P j) → P n → (j : ℕ) → j < n + 1 → P j
  each P f x j i = go (ℕ_discrete j n)
    where
      go : Dec (j ≡ n) → P j
      go (yes e) = subst P (sym e) x
      go (no e) = f j (omega (arith, e))

  module _ (p : 0 < k) (most : k ≤ n + 1) (high : (j : ℕ) → j < n → get_or l (get_or q j 0) 0 ≤ k) (walk : (d : ℕ) → k ≡ suc d → Steps E s v d) where
    found_new : (w : ℕ) → w < m → 0 < get_or l' w 0 → (j : ℕ) × (j < n + 1) × (get_or q j 0 ≡ w)
    found_new w i a = go (ℕ_discrete w v)
      where
        go : Dec (w ≡ v) → (j : ℕ) × (j < n + 1) × (get_or q j 0 ≡ w)
        go (yes e) = (n, omega arith, at ∙ sym e)
        go (no e) =
            let o : get_or l' w 0 ≡ get_or l w 0 = get_or-set_other l v w k 0 e in
            let f = g.found w i (omega (arith, a, o)) in
            (f.0, omega (arith, f.1), f.2)

    sound_new : (w d : ℕ) → w < m → get_or l' w 0 ≡ suc d → Steps E s w d
    sound_new w d i a = go (ℕ_discrete w v)
      where
        go : Dec (w ≡ v) → Steps E s w d
        go (yes e) = subst (λ (x : ℕ). Steps E s x d) (sym e) (walk d (sym new_label ∙ (ap (λ (x : ℕ). get_or l' x 0) (sym e) ∙ a)))
        go (no e) = g.sound w d i (sym (get_or-set_other l v w k 0 e) ∙ a)

    rising_new : (i j : ℕ) → i ≤ j → j < n + 1 → get_or l' (get_or q i 0) 0 ≤ get_or l' (get_or q j 0) 0
    rising_new i j a b = go (ℕ_discrete j n) (ℕ_discrete i n)
      where
        go : Dec (j ≡ n) → Dec (i ≡ n) → get_or l' (get_or q i 0) 0 ≤ get_or l' (get_or q j 0) 0
        go (no e) d = let jn : j < n = omega (arith, e) in omega (arith, same_at i (omega arith), same_at j jn, g.rising i j a jn)
        go (yes e) (yes f) = subst (λ (x : ℕ). get_or l' (get_or q i 0) 0 ≤ get_or l' (get_or q x 0) 0) (f ∙ sym e) (omega arith)
        go (yes e) (no f) = let i' : i < n = omega (arith, f) in subst (λ (x : ℕ). get_or l' (get_or q i 0) 0 ≤ get_or l' (get_or q x 0) 0) (sym e) (omega (arith, same_at i i', new_at, high i i'))

    pub grown : Good m s E (n + 1) l' q
    grown = record {
      room_l = simp length-set g.room_l;
      room_q = g.room_q;
      count = omega (arith, g.count, blanks_set l m v k g.room_l h z p);
      inside = each (λ (j : ℕ). get_or q j 0 < m) (λ j i. g.inside j i) (omega (arith, at));
      labelled = each (λ (j : ℕ). 0 < get_or l' (get_or q j 0) 0) (λ j i. omega (arith, same_at j i, g.labelled j i)) (omega (arith, new_at));
      found = found_new;
      rising = rising_new;
      small = each (λ (j : ℕ). get_or l' (get_or q j 0) 0 ≤ j + 1) (λ j i. omega (arith, same_at j i, g.small j i)) (omega (arith, new_at));
      sound = sound_new;
    }

-- ---- within a turn
module _ {m s : ℕ} {os hs : List ℕ} (fit : Sound m (end_lists os hs)) {u k h : ℕ} where
  -- an arc of the row
  pub row_arc : {i n : ℕ} {l q : List ℕ} → Open m s os hs u k i h n l q → i < get_or os (u + 1) 0 → RowLeads m os hs u (get_or hs i 0)
  row_arc {i} o t = record { at = i; index = subst (λ (x : ℕ). x < m) o.is (o.good.inside h o.here); from = o.from; to = t; head = refl; cost = λ x. refl }

  pub row_below : {i n : ℕ} {l q : List ℕ} → Open m s os hs u k i h n l q → i < get_or os (u + 1) 0 → get_or hs i 0 < m
  row_below {i} o t = fit.inside u (get_or hs i 0) tt (row_arc o t)

  -- what is written behind the queue changes nothing
  open_behind : {i n : ℕ} {l q : List ℕ} (v : ℕ) → Open m s os hs u k i h n l q → Open m s os hs u k i h n l (set q n v)
  open_behind {i} {n} {l} {q} v o = record {
    good = behind o.good v;
    source = o.source;
    here = o.here;
    is = same_place o.good v h o.here ∙ o.is;
    label = o.label;
    top = λ j x. omega (arith, place_label o.good v j x, o.top j x);
    closed = λ j w x y. closed_at j w x (omega (arith, o.here)) y;
    from = o.from;
    done = o.done;
  }
    where
      closed_at : (j w : ℕ) → j < h → j < n → RowLeads m os hs (get_or (set q n v) j 0) w → Low l w (get_or l (get_or (set q n v) j 0) 0 + 1)
      closed_at j w x y a = subst (λ (e : ℕ). Low l w (e + 1)) (sym (place_label o.good v j y)) (o.closed j w x (subst (λ (e : ℕ). RowLeads m os hs e w) (same_place o.good v j y) a))

  -- an arc to an index that was seen: its label is not above the next one, since it stands in the queue
  open_seen : {i n : ℕ} {l q : List ℕ} → Open m s os hs u k i h n l q → i < get_or os (u + 1) 0 → 0 < get_or l (get_or hs i 0) 0 → Open m s os hs u k (i + 1) h n l q
  open_seen {i} {n} {l} {q} o t z = record {
    good = o.good;
    source = o.source;
    here = o.here;
    is = o.is;
    label = o.label;
    top = o.top;
    closed = o.closed;
    from = omega (arith, o.from);
    done = λ j x y. more j x y (ℕ_discrete j i);
  }
    where
      more : (j : ℕ) → get_or os u 0 ≤ j → j < i + 1 → Dec (j ≡ i) → Low l (get_or hs j 0) (k + 1)
      more j x y (no e) = o.done j x (omega (arith, e))
      more j x y (yes e) =
          let f = o.good.found (get_or hs i 0) (row_below o t) z in
          subst (λ (w : ℕ). Low l (get_or hs w 0) (k + 1)) (sym e) (record { seen = z; most = subst (λ (w : ℕ). get_or l w 0 ≤ k + 1) f.2 (o.top f.0 f.1) })

  -- an arc to an index that was not seen, and stands behind the queue
  open_new : {i n : ℕ} {l q : List ℕ} → Open m s os hs u k i h n l q → i < get_or os (u + 1) 0 → get_or l (get_or hs i 0) 0 ≡ 0 → get_or q n 0 ≡ get_or hs i 0
      → Open m s os hs u k (i + 1) h (n + 1) (set l (get_or hs i 0) (k + 1)) q
  open_new {i} {n} {l} {q} o t z at = record {
    good = grown g v (k + 1) below z at (omega arith) (omega (arith, g.small h o.here, label_at, o.here)) o.top walk;
    source = same_label g v (k + 1) below z at s (omega (arith, o.source)) ∙ o.source;
    here = omega (arith, o.here);
    is = o.is;
    label = same_label g v (k + 1) below z at u seen ∙ o.label;
    top = λ j x. top_new j x (ℕ_discrete j n);
    closed = λ j w x y. closed_new j w x y;
    from = omega (arith, o.from);
    done = λ j x y. more j x y (ℕ_discrete j i);
  }
    where
      v : ℕ
      v = get_or hs i 0

      g : Good m s (RowLeads m os hs) n l q
      g = o.good

      below : get_or hs i 0 < m
      below = row_below o t

      label_at : get_or l (get_or q h 0) 0 ≡ k
      label_at = ap (λ (x : ℕ). get_or l x 0) o.is ∙ o.label

      seen : 0 < get_or l u 0
      seen = subst (λ (x : ℕ). 0 < get_or l x 0) o.is (g.labelled h o.here)

      walk : (d : ℕ) → k + 1 ≡ suc d → Steps (RowLeads m os hs) s (get_or hs i 0) d
      walk d e =
          let p : 0 < k = omega (arith, seen, o.label) in
          let w = snoc (g.sound u (k - 1) (row_arc o t).index (o.label ∙ omega arith)) (row_arc o t) in
          subst (λ (x : ℕ). Steps (RowLeads m os hs) s (get_or hs i 0) x) (omega (arith, e)) w

      top_new : (j : ℕ) → j < n + 1 → Dec (j ≡ n) → get_or (set l (get_or hs i 0) (k + 1)) (get_or q j 0) 0 ≤ k + 1
      top_new j x (yes e) = subst (λ (y : ℕ). get_or (set l (get_or hs i 0) (k + 1)) (get_or q y 0) 0 ≤ k + 1) (sym e) (omega (arith, new_at g (get_or hs i 0) (k + 1) below z at))
      top_new j x (no e) = let jn : j < n = omega (arith, e) in omega (arith, same_at g (get_or hs i 0) (k + 1) below z at j jn, o.top j jn)

      closed_new : (j w : ℕ) → j < h → RowLeads m os hs (get_or q j 0) w → Low (set l (get_or hs i 0) (k + 1)) w (get_or (set l (get_or hs i 0) (k + 1)) (get_or q j 0) 0 + 1)
      closed_new j w x y =
          let jn : j < n = omega (arith, o.here) in
          subst (λ (e : ℕ). Low (set l (get_or hs i 0) (k + 1)) w (e + 1)) (sym (same_at g (get_or hs i 0) (k + 1) below z at j jn))
          (low_stays g (get_or hs i 0) (k + 1) below z at w _ (o.closed j w x y))

      more : (j : ℕ) → get_or os u 0 ≤ j → j < i + 1 → Dec (j ≡ i) → Low (set l (get_or hs i 0) (k + 1)) (get_or hs j 0) (k + 1)
      more j x y (no e) = low_stays g (get_or hs i 0) (k + 1) below z at _ _ (o.done j x (omega (arith, e)))
      more j x y (yes e) = subst (λ (w : ℕ). Low (set l (get_or hs i 0) (k + 1)) (get_or hs w 0) (k + 1)) (sym e) (low_new g (get_or hs i 0) (k + 1) below z at (k + 1) (omega arith) (omega arith))

  -- one arc looked at
  pub open_next : {i n n' : ℕ} {l q l' q' : List ℕ} → Open m s os hs u k i h n l q → i < get_or os (u + 1) 0 → Met (get_or hs i 0) (k + 1) n l q l' q' n' → Open m s os hs u k (i + 1) h n' l' q'
  open_next {i} o t (old z a b c) = rw (a, b, c) (open_seen (open_behind (get_or hs i 0) o) t z)
  open_next {i} {n} {q = q} o t (new z a b c) = rw (a, b, c) (open_new (open_behind (get_or hs i 0) o) t z (get_or-set_same q n (get_or hs i 0) 0 (omega (arith, few_queued o.good, o.good.room_q))))

  -- the row is done
  pub row_ends : {i n : ℕ} {l q : List ℕ} → Open m s os hs u k i h n l q → get_or os (u + 1) 0 ≤ i → Turning m s (RowLeads m os hs) (h + 1) n l q
  row_ends {i} {n} {l} {q} o t = record {
    good = o.good;
    source = o.source;
    within = omega (arith, o.here);
    top = λ j x y. omega (arith, o.top j y, o.good.rising h (h + 1) (omega arith) x, label_at);
    closed = λ j v x a. go j v x a (ℕ_discrete j h);
  }
    where
      label_at : get_or l (get_or q h 0) 0 ≡ k
      label_at = ap (λ (x : ℕ). get_or l x 0) o.is ∙ o.label

      here : (v : ℕ) → RowLeads m os hs u v → Low l v (k + 1)
      here v a = subst (λ (x : ℕ). Low l x (k + 1)) a.head (o.done a.at a.from (omega (arith, a.to)))

      go : (j v : ℕ) → j < h + 1 → RowLeads m os hs (get_or q j 0) v → Dec (j ≡ h) → Low l v (get_or l (get_or q j 0) 0 + 1)
      go j v x a (no e) = o.closed j v (omega (arith, e)) a
      go j v x a (yes e) =
          subst (λ (y : ℕ). Low l v (get_or l (get_or q y 0) 0 + 1)) (sym e)
          (subst (λ (y : ℕ). Low l v (y + 1)) (sym label_at) (here v (subst (λ (y : ℕ). RowLeads m os hs y v) (ap (λ (y : ℕ). get_or q y 0) e ∙ o.is) a)))

-- a row from its start
pub record Rowing (m s : ℕ) (os hs : List ℕ) (u k i h n : ℕ) (l₀ q₀ l q : List ℕ) : Type 0 where
  pub state : Open m s os hs u k i h n l q
  pub rest : Kept m l₀ q₀ l q

module _ {m s : ℕ} {os hs : List ℕ} (fit : Sound m (end_lists os hs)) {u k h : ℕ} {l₀ q₀ : List ℕ} where
  pub rowing_next : {i n n' : ℕ} {l q l' q' : List ℕ} → Rowing m s os hs u k i h n l₀ q₀ l q → i < get_or os (u + 1) 0 → Met (get_or hs i 0) (k + 1) n l q l' q' n'
      → Rowing m s os hs u k (i + 1) h n' l₀ q₀ l' q'
  rowing_next {i} r t a = record { state = open_next fit r.state t a; rest = kept_trans r.rest (kept_met (row_below fit r.state t) (few_queued r.state.good) a) }

  pub rowing_ends : {i n : ℕ} {l q : List ℕ} → Rowing m s os hs u k i h n l₀ q₀ l q → get_or os (u + 1) 0 ≤ i → RowDone m s os hs h l₀ q₀ l q n
  rowing_ends r t = record { turning = row_ends fit r.state t; rest = r.rest }

-- ---- the turns of one search
pub record Searching (m s : ℕ) (os hs : List ℕ) (h n : ℕ) (l₀ q₀ l q : List ℕ) : Type 0 where
  pub turning : Turning m s (RowLeads m os hs) h n l q
  pub rest : Kept m l₀ q₀ l q

module _ {m s : ℕ} {os hs : List ℕ} where
  -- the source alone
  pub turn_first : {n : ℕ} {l q l' q' : List ℕ} → Fresh m s l q → Met s 1 0 l q l' q' n → Turning m s (RowLeads m os hs) 0 n l' q'
  turn_first {l = l} f (old z a b c) = absurd (omega (arith, z, f.zeros s f.source))
  turn_first {l = l} {q = q} f (new z a b c) = rw (a, b, c) (record {
    good = first;
    source = get_or-set_same l s 1 0 (omega (arith, f.source, f.room_l));
    within = omega arith;
    top = λ j x y. omega (arith, first.small j y);
    closed = λ j v x e. absurd (omega arith);
  })
    where
      none : Good m s (RowLeads m os hs) 0 l q
      none = record {
        room_l = f.room_l;
        room_q = f.room_q;
        count = omega (arith, blanks_all l m f.zeros);
        inside = λ j x. absurd (omega arith);
        labelled = λ j x. absurd (omega arith);
        found = λ v x y. absurd (omega (arith, f.zeros v x));
        rising = λ i j x y. absurd (omega arith);
        small = λ j x. absurd (omega arith);
        sound = λ v d x y. absurd (omega (arith, f.zeros v x));
      }

      walk : (d : ℕ) → 1 ≡ suc d → Steps (RowLeads m os hs) s s d
      walk d e = subst (λ (x : ℕ). Steps (RowLeads m os hs) s s x) (omega (arith, e)) stay

      first : Good m s (RowLeads m os hs) (0 + 1) (set l s 1) (set q 0 s)
      first = grown (behind none s) s 1 f.source z (get_or-set_same q 0 s 0 (omega (arith, f.room_q))) (omega arith) (omega arith) (λ j x. absurd (omega arith)) walk

-- ---- the queue is done, or every index is labelled: the labels are the least numbers of arcs
module _ {m s : ℕ} {os hs : List ℕ} (fit : Sound m (end_lists os hs)) {h n : ℕ} {l q : List ℕ} (t : Turning m s (RowLeads m os hs) h n l q) (end : (n ≤ h) ⊎ (m ≤ n)) where
  -- with m indices in the queue, each has a label
  full : m ≤ n → (v : ℕ) → v < m → 0 < get_or l v 0
  full e v b = go (ℕ_discrete (get_or l v 0) 0)
    where
      go : Dec (get_or l v 0 ≡ 0) → 0 < get_or l v 0
      go (yes z) = absurd (omega (arith, room_for t.good v b z, e))
      go (no f) = omega (arith, f)

  -- an arc from a place at or past h: its end stands in the queue too, where no label is more than one higher
  late_low : (j v : ℕ) → h ≤ j → j < n → v < m → Low l v (get_or l (get_or q j 0) 0 + 1)
  late_low j v x y b = go end
    where
      go : (n ≤ h) ⊎ (m ≤ n) → Low l v (get_or l (get_or q j 0) 0 + 1)
      go (inl e) = absurd (omega arith)
      go (inr e) =
          let f = t.good.found v b (full e v b) in
          let top : get_or l v 0 ≤ get_or l (get_or q h 0) 0 + 1 = subst (λ (w : ℕ). get_or l w 0 ≤ get_or l (get_or q h 0) 0 + 1) f.2 (t.top f.0 (omega arith) f.1) in
          record { seen = full e v b; most = omega (arith, top, t.good.rising h j x y) }

  arc_low : (u v : ℕ) → u < m → 0 < get_or l u 0 → RowLeads m os hs u v → Low l v (get_or l u 0 + 1)
  arc_low u v b p a =
      let f = t.good.found u b p in
      subst (λ (x : ℕ). Low l v (get_or l x 0 + 1)) f.2 (go f.0 f.1 f.2 (dec_lt f.0 h))
    where
      go : (j : ℕ) → j < n → get_or q j 0 ≡ u → Dec (j < h) → Low l v (get_or l (get_or q j 0) 0 + 1)
      go j x e (yes y) = t.closed j v y (subst (λ (w : ℕ). RowLeads m os hs w v) (sym e) a)
      go j x e (no y) = late_low j v (omega (arith, y)) x (fit.inside u v tt a)

  steps_low : {u v d : ℕ} → u < m → 0 < get_or l u 0 → Steps (RowLeads m os hs) u v d → Low l v (get_or l u 0 + d)
  steps_low b p stay = record { seen = p; most = omega arith }
  steps_low b p (step {u} {v} {w} {n = d} a x) =
      let k = arc_low u v b p a in
      let r = steps_low (fit.inside u v tt a) k.seen x in
      record { seen = r.seen; most = omega (arith, r.most, k.most) }

  module _ (source : s < m) where
    walk_low : (v d : ℕ) → Steps (RowLeads m os hs) s v d → Low l v (1 + d)
    walk_low v d x = subst (λ (y : ℕ). Low l v (y + d)) t.source (steps_low source (omega (arith, t.source)) x)

    pub label_entry : (v : ℕ) → v < m → Entry (RowLeads m os hs) s v (shown_of (get_or l v 0))
    label_entry v b = go (get_or l v 0) refl
      where
        go : (x : ℕ) → get_or l v 0 ≡ x → Entry (RowLeads m os hs) s v (shown_of x)
        go zero e = inr (refl, λ d w. omega (arith, e, (walk_low v d w).seen))
        go (suc x) e = inl (record { walk = t.good.sound v x b e; least = λ d w. omega (arith, e, (walk_low v d w).most) })

  pub label_small : (v : ℕ) → v < m → get_or l v 0 ≤ m
  label_small v b = go (ℕ_discrete (get_or l v 0) 0)
    where
      go : Dec (get_or l v 0 ≡ 0) → get_or l v 0 ≤ m
      go (yes e) = omega (arith, e)
      go (no e) =
          let f = t.good.found v b (omega (arith, e)) in
          subst (λ (x : ℕ). get_or l x 0 ≤ m) f.2 (omega (arith, t.good.small f.0 f.1, f.1, few_queued t.good))

pub searched : {m s : ℕ} {os hs : List ℕ} {h n n₁ : ℕ} {l₀ q₀ l₁ q₁ l q : List ℕ} → Sound m (end_lists os hs) → Fresh m s l₀ q₀ → Met s 1 0 l₀ q₀ l₁ q₁ n₁ → Searching m s os hs h n l₁ q₁ l q
    → (n ≤ h) ⊎ (m ≤ n) → Searched m s (RowLeads m os hs) l₀ q₀ l q
searched fit f a t e = record { each = label_entry fit t.turning e f.source; small = label_small fit t.turning e; rest = kept_trans (kept_met f.source (omega arith) a) t.rest }
