-- The two bags are one: 01's list of pairs and one place per index end in the same distances, predecessors, number and kept takes.
-- Beside each other, the list holds the pending pair of each pending index, and besides only pairs whose distance lies above their index's present one. Such a pair
-- comes out later and is dropped, which changes nothing but the length of the list. A pair that is not dropped is the pending one, and it is the least on both sides:
-- the same turn follows on both.
use mathlib.Core.Path.{◌≡◌, refl, sym, ap, ◌∙◌, subst}
use mathlib.Core.Bool.{Bool, true, false, true≢false}
use mathlib.Core.Logic.{◌⊎◌, inl, inr, ◌↔◌}
use mathlib.Core.List.Memᴰ
use mathlib.Core.List.{List, [], ◌∷◌, Memᴰ}
use mathlib.Core.Option.{Option, none, some}
use Prim.Native.Nat.{ℕ, zero, suc, ◌<◌}
use native.Mathlib.Omega.{arith}
use lib.Dec.{eqb}
use lib.ListN.{length}
use borrow.Author.Tests.{eqb-true, eqb-false, eq-eqb}
use Rattle.whole.proofs.Cases.{clash}
use Rattle.bag.specs.Order.{pick}
use Rattle.bag.proofs.Order.{self, below_below}
use Rattle.pending.specs.Setting.{upd, Setting, is_target, End, refused, ArcOf}
use Rattle.pending.specs.Literal as Lit
use Rattle.pending.specs.Literal.{Pair, State, After, goes, ends, done, least, others, above, better, store, look, each_arc}
use Rattle.pending.specs.OnePlace.{Cell, out, has, dist_of, pred_of, done_at, begin, Takes, Next, Ends, empty, found, wrong, more}
use Rattle.pending.specs.Laws.{Laws, OkCell}
use Rattle.pending.proofs.Cells.{upd_id, upd_all}
use Rattle.pending.proofs.Row.{look_at, row_cells, row_turned}
use Rattle.pending.proofs.One.{cell_ok, begin_ok, next_one, stuck, bad_good, ends_one, ends_map}
use Rattle.pending.proofs.Least.{Distinct, least_in, others_in, split_in, others_length, others_distinct, least_low}

-- a pair
abbrev pub pair : {K : Type 0} → K → ℕ → Pair K
pair d v = record { at = d; ix = v }

module _ {K C : Type 0} (S : Setting K C) {ok : K → Type 0} (L : Laws S ok) where
  -- a pair of the list, beside its index's cell: it is the pending one, or above the index's distance
  pub data LiveOrStale (x : K) : Cell K → Type 0 where
    live : {d : K} {p : Option ℕ} → x ≡ d → LiveOrStale x (has d p true)
    stale : {d : K} {p : Option ℕ} {b : Bool} → ok x → S.lt d x ≡ true → LiveOrStale x (has d p b)

  -- the two states tell the same
  pub record Sim (M : State K) (s : ℕ → Cell K) (n : ℕ) : Type 0 where
    pub dist : (v : ℕ) → M.dist v ≡ dist_of (s v)
    pub pred : (v : ℕ) → M.pred v ≡ pred_of (s v)
    pub takes : M.takes ≡ n
    pub held : (v : ℕ) (d : K) (p : Option ℕ) → s v ≡ has d p true → Memᴰ (pair d v) M.bag
    pub known : (q : Pair K) → Memᴰ q M.bag → LiveOrStale q.at (s q.ix)
    pub distinct : Distinct M.bag
    pub oks : (v : ℕ) → OkCell ok (s v)

  -- the key of a known pair is good
  known_ok : {x : K} {c : Cell K} → OkCell ok c → LiveOrStale x c → ok x
  known_ok o (live e) = subst ok (sym e) o
  known_ok o (stale x e) = x

  -- a pair of an index that gets a smaller distance lies above it
  older : {x n : K} {c : Cell K} → ok n → OkCell ok c → LiveOrStale x c → better S n (dist_of c) ≡ true → ok x × (S.lt n x ≡ true)
  older {x} {n} a o (live {d} e) b = (subst ok (sym e) o, ap (S.lt n) e ∙ b)
  older {x} {n} a o (stale {d} i e) b = (i, below_below L.order n d x a o i b e)

  -- ---- a store
  module _ (u v : ℕ) (n : K) (n_ok : ok n) (M : State K) (s : ℕ → Cell K) (k : ℕ) (h : Sim M s k) (b : better S n (dist_of (s v)) ≡ true) where
    -- the new pair was not in the bag
    fresh : Memᴰ (pair n v) M.bag → ⊥
    fresh m = clash (older n_ok (h.oks v) (h.known (pair n v) m) b).1 (self L.order n n_ok)

    -- pairs stay known
    store_known : (q : Pair K) → (q ≡ pair n v) ⊎ Memᴰ q M.bag → LiveOrStale q.at (upd s v (has n (some u) true) q.ix)
    store_known q i = go (eqb q.ix v) (eqb-true q.ix v) (eqb-false q.ix v) i
      where
        late : q.ix ≡ v → Memᴰ q M.bag → LiveOrStale q.at (has n (some u) true)
        late e m = let w = older n_ok (h.oks v) (subst (λ (z : ℕ). LiveOrStale q.at (s z)) e (h.known q m)) b in stale w.0 w.1

        go : (t : Bool) → (t ≡ true → q.ix ≡ v) → (t ≡ false → q.ix ≡ v → ⊥) → (q ≡ pair n v) ⊎ Memᴰ q M.bag → LiveOrStale q.at (pick t (has n (some u) true) (s q.ix))
        go true f g (inl e) = live (ap (λ (z : Pair K). z.at) e)
        go true f g (inr m) = late (f refl) m
        go false f g (inl e) = absurd (g refl (ap (λ (z : Pair K). z.ix) e))
        go false f g (inr m) = h.known q m

    -- pending indices stay held
    store_held : (w : ℕ) (d : K) (p : Option ℕ) → upd s v (has n (some u) true) w ≡ has d p true → Memᴰ (pair d w) (pair n v ∷ M.bag)
    store_held w d p e = go (eqb w v) (eqb-true w v) e
      where
        go : (t : Bool) → (t ≡ true → w ≡ v) → pick t (has n (some u) true) (s w) ≡ has d p true → Memᴰ (pair d w) (pair n v ∷ M.bag)
        go true f e = let q : d ≡ n = cc in Memᴰ.head (λ i. pair (q i) (f refl i))
        go false f e = Memᴰ.tail (h.held w d p e)

    -- a store on both sides
    store_sim : Sim (store S u v n M) (upd s v (has n (some u) true)) k
    store_sim = record {
      dist = λ w. d_go w (eqb w v);
      pred = λ w. p_go w (eqb w v);
      takes = h.takes;
      held = store_held;
      known = λ q m. store_known q (Memᴰ.cases_cons m);
      distinct = (fresh, h.distinct);
      oks = upd_all (OkCell ok) s v (has n (some u) true) h.oks n_ok;
    }
      where
        d_go : (w : ℕ) (t : Bool) → pick t (some n) (M.dist w) ≡ dist_of (pick t (has n (some u) true) (s w))
        d_go w true = refl
        d_go w false = h.dist w

        p_go : (w : ℕ) (t : Bool) → pick t (some u) (M.pred w) ≡ pred_of (pick t (has n (some u) true) (s w))
        p_go w true = refl
        p_go w false = h.pred w

  -- ---- an arc
  look_sim : (u : ℕ) (d : K) (v : ℕ) (c : C) (M : State K) (s : ℕ → Cell K) (k : ℕ) → ok d → S.bad c ≡ false → Sim M s k → Sim (look S u d v c M) (look_at S u d v c s) k
  unfolding look
  look_sim u d v c M s k o f h = cutting (S.cut (S.plus d c))
    where
      n_ok : ok (S.plus d c)
      n_ok = L.plus_ok d c o f

      same : Sim M (upd s v (s v)) k
      same = subst (λ (z : ℕ → Cell K). Sim M z k) (sym (upd_id s v)) h

      test : (t : Bool) → better S (S.plus d c) (dist_of (s v)) ≡ t → Sim (pick t (store S u v (S.plus d c) M) M) (upd s v (pick t (has (S.plus d c) (some u) true) (s v))) k
      test true e = store_sim u v (S.plus d c) n_ok M s k h e
      test false e = same

      cutting : (t : Bool)
          → Sim (pick t M (pick (better S (S.plus d c) (M.dist v)) (store S u v (S.plus d c) M) M))
          (upd s v (pick t (s v) (pick (better S (S.plus d c) (dist_of (s v))) (has (S.plus d c) (some u) true) (s v)))) k
      cutting true = same
      cutting false =
          subst
          (λ (z : Option K). Sim (pick (better S (S.plus d c) z) (store S u v (S.plus d c) M) M) (upd s v (pick (better S (S.plus d c) (dist_of (s v))) (has (S.plus d c) (some u) true) (s v))) k)
          (sym (h.dist v))
          (test (better S (S.plus d c) (dist_of (s v))) refl)

  -- ---- a row
  abbrev pub RowOut : ℕ → K → List (ℕ × C) → (ℕ → Cell K) → ℕ → After K → Type 0
  RowOut u d l s k (goes M) = ((v : ℕ) (c : C) → Memᴰ (v, c) l → S.bad c ≡ false) × Sim M (row_cells S u d l s) k
  RowOut u d l s k (ends e) = (v : ℕ) × (c : C) × Memᴰ (v, c) l × (S.bad c ≡ true) × (e ≡ refused k)

  -- 01's row goes on as the cells do, or stops at a bad cost; and it stops exactly where there is one
  pub row_sim : (u : ℕ) (d : K) (l : List (ℕ × C)) (M : State K) (s : ℕ → Cell K) (k : ℕ) → ok d → Sim M s k → RowOut u d l s k (each_arc S u d l M)
  unfolding each_arc row_cells
  row_sim u d [] M s k o h = (λ v c m. absurd (Memᴰ.not-nil m), h)
  row_sim u d (a ∷ l) M s k o h = go (S.bad a.1) refl (λ f. row_sim u d l (look S u d a.0 a.1 M) (look_at S u d a.0 a.1 s) k o (look_sim u d a.0 a.1 M s k o f h))
    where
      all : ((v : ℕ) (c : C) → Memᴰ (v, c) l → S.bad c ≡ false) → S.bad a.1 ≡ false → (v : ℕ) (c : C) → ((v, c) ≡ a) ⊎ Memᴰ (v, c) l → S.bad c ≡ false
      all f e v c (inl q) = ap (λ (z : ℕ × C). S.bad z.1) q ∙ e
      all f e v c (inr m) = f v c m

      lift : (r : After K) → S.bad a.1 ≡ false → RowOut u d l (look_at S u d a.0 a.1 s) k r → RowOut u d (a ∷ l) s k r
      lift (goes N) e w = (λ v c m. all w.0 e v c (Memᴰ.cases_cons m), w.1)
      lift (ends f) e w = (w.0, w.1, Memᴰ.tail w.2, w.3, w.4)

      go : (t : Bool) → S.bad a.1 ≡ t → (S.bad a.1 ≡ false → RowOut u d l (look_at S u d a.0 a.1 s) k (each_arc S u d l (look S u d a.0 a.1 M)))
          → RowOut u d (a ∷ l) s k (elim t as (λ x. After K) [ true ↦ ends (refused M.takes) | false ↦ each_arc S u d l (look S u d a.0 a.1 M) ])
      go true e f = (a.0, a.1, Memᴰ.head refl, e, ap refused h.takes)
      go false e f = lift (each_arc S u d l (look S u d a.0 a.1 M)) e (f e)

  -- ---- a take: q is the least pair, r the others, and q is the pending one of its index
  module _ (M : State K) (s : ℕ → Cell K) (k : ℕ) (h : Sim M s k) (b : Pair K) (l : List (Pair K)) (is : M.bag ≡ b ∷ l) where
    -- a member of the list is in the bag
    in_bag : {r : Pair K} → Memᴰ r (b ∷ l) → Memᴰ r M.bag
    in_bag {r} m = subst (λ (z : List (Pair K)). Memᴰ r z) (sym is) m

    -- no pair twice
    all_distinct : Distinct (least S b l ∷ others S b l)
    all_distinct = others_distinct S b l (subst Distinct is h.distinct)

    -- every key is good
    all_ok : (r : Pair K) → Memᴰ r (b ∷ l) → ok r.at
    all_ok r m = known_ok (h.oks r.ix) (h.known r (in_bag m))

    -- the state without the pair
    abbrev pub dropped : State K
    dropped = record { dist = M.dist; pred = M.pred; bag = others S b l; takes = M.takes }

    -- the same, with the take counted
    abbrev pub popped : State K
    popped = record { dist = M.dist; pred = M.pred; bag = others S b l; takes = suc M.takes }

    -- a pending pair is the least or among the others
    held_or : (v : ℕ) (d : K) (p : Option ℕ) → s v ≡ has d p true → (pair d v ≡ least S b l) ⊎ Memᴰ (pair d v) (others S b l)
    held_or v d p e = split_in S b l (subst (λ (z : List (Pair K)). Memᴰ (pair d v) z) is (h.held v d p e))

    -- a pair that is dropped changes nothing
    drop_sim : {d : K} {p : Option ℕ} {t : Bool} → s (least S b l).ix ≡ has d p t → S.lt d (least S b l).at ≡ true → Sim dropped s k
    drop_sim {d} {p} {t} c e = record {
      dist = h.dist;
      pred = h.pred;
      takes = h.takes;
      held = λ v x z i. still v x z i (held_or v x z i);
      known = λ r m. h.known r (in_bag (others_in S b l m));
      distinct = all_distinct.1;
      oks = h.oks;
    }
      where
        still : (v : ℕ) (x : K) (z : Option ℕ) → s v ≡ has x z true → (pair x v ≡ least S b l) ⊎ Memᴰ (pair x v) (others S b l) → Memᴰ (pair x v) (others S b l)
        still v x z i (inr m) = m
        still v x z i (inl g) =
            let f : has x z true ≡ has d p t = sym i ∙ ap s (ap (λ (y : Pair K). y.ix) g) ∙ c in
            let j : x ≡ d = cc in
            absurd (clash (ap (S.lt d) (sym j ∙ ap (λ (y : Pair K). y.at) g) ∙ e) (self L.order d (cell_ok ok c (h.oks (least S b l).ix))))

    module _ (p : Option ℕ) (here : s (least S b l).ix ≡ has (least S b l).at p true) where
      -- its key is good
      q_ok : ok (least S b l).at
      q_ok = cell_ok ok here (h.oks (least S b l).ix)

      -- the other bag takes the same index
      takes_it : Takes S s (least S b l).ix (least S b l).at p
      takes_it = record { held = here; least = λ v e z i. least_low S L b l all_ok (pair e v) (subst (λ (y : List (Pair K)). Memᴰ (pair e v) y) is (h.held v e z i)) }

      -- the other pending indices stay held
      pop_held : (v : ℕ) (d : K) (z : Option ℕ) → upd s (least S b l).ix (has (least S b l).at p false) v ≡ has d z true → Memᴰ (pair d v) (others S b l)
      pop_held v d z e = go (eqb v (least S b l).ix) (eqb-false v (least S b l).ix) e
        where
          other : (v ≡ (least S b l).ix → ⊥) → (pair d v ≡ least S b l) ⊎ Memᴰ (pair d v) (others S b l) → Memᴰ (pair d v) (others S b l)
          other f (inl g) = absurd (f (ap (λ (y : Pair K). y.ix) g))
          other f (inr m) = m

          go : (t : Bool) → (t ≡ false → v ≡ (least S b l).ix → ⊥) → pick t (has (least S b l).at p false) (s v) ≡ has d z true → Memᴰ (pair d v) (others S b l)
          go true f e = let x : false ≡ true = cc in absurd (true≢false (sym x))
          go false f e = other (f refl) (held_or v d z e)

      -- the other pairs stay known
      pop_known : (r : Pair K) → Memᴰ r (others S b l) → LiveOrStale r.at (upd s (least S b l).ix (has (least S b l).at p false) r.ix)
      pop_known r m = go (eqb r.ix (least S b l).ix) (eqb-true r.ix (least S b l).ix)
        where
          not_live : {x : K} {c : Cell K} → LiveOrStale x c → c ≡ has (least S b l).at p true → (x ≡ (least S b l).at → ⊥) → LiveOrStale x (has (least S b l).at p false)
          not_live (live {d} {p = z} e) f g = absurd (g (let y : d ≡ (least S b l).at = cc in e ∙ y))
          not_live {x} (stale {d} {p = z} i e) f g = let y : d ≡ (least S b l).at = cc in stale i (ap (λ (w : K). S.lt w x) (sym y) ∙ e)

          own : r.ix ≡ (least S b l).ix → LiveOrStale r.at (has (least S b l).at p false)
          own e = not_live (h.known r (in_bag (others_in S b l m))) (ap s e ∙ here) (λ g. all_distinct.0 (Memᴰ.cast (λ i. pair (sym g i) (sym e i)) m))

          go : (t : Bool) → (t ≡ true → r.ix ≡ (least S b l).ix) → LiveOrStale r.at (pick t (has (least S b l).at p false) (s r.ix))
          go true f = own (f refl)
          go false f = h.known r (in_bag (others_in S b l m))

      -- a take on both sides
      pop_sim : Sim popped (upd s (least S b l).ix (has (least S b l).at p false)) (suc k)
      pop_sim = record {
        dist = λ w. d_go w (eqb w (least S b l).ix) (eqb-true w (least S b l).ix);
        pred = λ w. p_go w (eqb w (least S b l).ix) (eqb-true w (least S b l).ix);
        takes = ap suc h.takes;
        held = pop_held;
        known = pop_known;
        distinct = all_distinct.1;
        oks = upd_all (OkCell ok) s (least S b l).ix (has (least S b l).at p false) h.oks q_ok;
      }
        where
          d_go : (w : ℕ) (t : Bool) → (t ≡ true → w ≡ (least S b l).ix) → M.dist w ≡ dist_of (pick t (has (least S b l).at p false) (s w))
          d_go w true f = h.dist w ∙ ap (λ (z : ℕ). dist_of (s z)) (f refl) ∙ ap dist_of here
          d_go w false f = h.dist w

          p_go : (w : ℕ) (t : Bool) → (t ≡ true → w ≡ (least S b l).ix) → M.pred w ≡ pred_of (pick t (has (least S b l).at p false) (s w))
          p_go w true f = h.pred w ∙ ap (λ (z : ℕ). pred_of (s z)) (f refl) ∙ ap pred_of here
          p_go w false f = h.pred w

  -- the answers are the same
  done_is : {M : State K} {s : ℕ → Cell K} {k : ℕ} → Sim M s k → (n : ℕ) → ◌≡◌ {A = End K} (record { number = 0; dist = M.dist; pred = M.pred; takes = n }) (done_at s n)
  done_is h n = λ i. record { number = 0; dist = λ v. h.dist v i; pred = λ v. h.pred v i; takes = n }

  -- ---- a turn
  module _ (arcs : ℕ → List (ℕ × C)) where
    -- 01's turn ends as the other bag does, or drops a pair, or goes as the other bag does
    abbrev pub Outcome : (ℕ → Cell K) → ℕ → ℕ → After K → Type 0
    Outcome s k m (ends e) = Ends S (ArcOf arcs) s k e
    Outcome s k m (goes N) = (Sim N s k × (length N.bag < m)) ⊎ ((t : ℕ → Cell K) × Next S (ArcOf arcs) s t × Sim N t (suc k))

    module _ (M : State K) (s : ℕ → Cell K) (k : ℕ) (h : Sim M s k) (b : Pair K) (l : List (Pair K)) (is : M.bag ≡ b ∷ l) where
      -- a pair taken and not dropped
      keeps : (p : Option ℕ) → s (least S b l).ix ≡ has (least S b l).at p true → Outcome s k (suc (length l)) (Lit.keep S arcs (least S b l) (popped M s k h b l is))
      unfolding Lit.keep
      keeps p here = aim (is_target S.target (least S b l).ix) refl
        where
          tk : Takes S s (least S b l).ix (least S b l).at p
          tk = takes_it M s k h b l is p here

          rowed : (r : After K) → is_target S.target (least S b l).ix ≡ false
              → RowOut (least S b l).ix (least S b l).at (arcs (least S b l).ix) (upd s (least S b l).ix (has (least S b l).at p false)) (suc k) r → Outcome s k (suc (length l)) r
          rowed (goes N) f w =
              inr (
                row_cells S (least S b l).ix (least S b l).at (arcs (least S b l).ix) (upd s (least S b l).ix (has (least S b l).at p false)),
                record {
                  u = (least S b l).ix;
                  d = (least S b l).at;
                  p = p;
                  taken = tk;
                  passed = f;
                  good = w.0;
                  turned =
                      row_turned S L (least S b l).ix (least S b l).at (q_ok M s k h b l is p here) (ArcOf arcs (least S b l).ix) (arcs (least S b l).ix)
                      (upd s (least S b l).ix (has (least S b l).at p false)) (λ v c m. m) (λ v c m. m) w.0 (pop_sim M s k h b l is p here).oks;
                },
                w.1,
              )
          rowed (ends e) f w = subst (λ (z : End K). Ends S (ArcOf arcs) s k z) (sym w.4) (wrong (least S b l).ix (least S b l).at p tk f w.0 w.1 w.2 w.3)

          aim : (t : Bool) → is_target S.target (least S b l).ix ≡ t
              → Outcome s k (suc (length l))
              (elim t as (λ x. After K) [ true ↦ ends (done (popped M s k h b l is)) | false ↦ each_arc S (least S b l).ix (least S b l).at (arcs (least S b l).ix) (popped M s k h b l is) ])
          aim true f =
              subst (λ (z : End K). Ends S (ArcOf arcs) s k z) (sym (done_is h (suc M.takes) ∙ ap (λ (z : ℕ). done_at s (suc z)) h.takes)) (found (least S b l).ix (least S b l).at p tk f)
          aim false f =
              rowed (each_arc S (least S b l).ix (least S b l).at (arcs (least S b l).ix) (popped M s k h b l is)) f
              (row_sim (least S b l).ix (least S b l).at (arcs (least S b l).ix) (popped M s k h b l is) (upd s (least S b l).ix (has (least S b l).at p false)) (suc k)
              (q_ok M s k h b l is p here) (pop_sim M s k h b l is p here))

      -- the test for a drop, at what the cell has
      sorts : (c : Cell K) → s (least S b l).ix ≡ c → LiveOrStale (least S b l).at c
          → Outcome s k (suc (length l))
          (elim (above S (least S b l).at (dist_of c)) as (λ x. After K) [ true ↦ goes (dropped M s k h b l is) | false ↦ Lit.keep S arcs (least S b l) (popped M s k h b l is) ])
      sorts c e (live {d} {p} f) =
          let o : ok d = cell_ok ok e (h.oks (least S b l).ix) in
          subst (λ (t : Bool). Outcome s k (suc (length l)) (elim t as (λ x. After K) [ true ↦ goes (dropped M s k h b l is) | false ↦ Lit.keep S arcs (least S b l) (popped M s k h b l is) ]))
          (sym (ap (S.lt d) f ∙ self L.order d o))
          (keeps p (e ∙ ap (λ (z : K). has z p true) (sym f)))
      sorts c e (stale {d} {p} {b = t} o f) =
          subst (λ (y : Bool). Outcome s k (suc (length l)) (elim y as (λ x. After K) [ true ↦ goes (dropped M s k h b l is) | false ↦ Lit.keep S arcs (least S b l) (popped M s k h b l is) ])) (sym f)
          (inl (drop_sim M s k h b l is e f, omega (arith, others_length S b l)))

      -- a pair taken
      taking : Outcome s k (suc (length l)) (Lit.take_from S arcs (b ∷ l) M)
      unfolding Lit.take_from Lit.visit
      taking =
          subst (λ (z : Option K).
          Outcome s k (suc (length l)) (elim (above S (least S b l).at z) as (λ x. After K) [ true ↦ goes (dropped M s k h b l is) | false ↦ Lit.keep S arcs (least S b l) (popped M s k h b l is) ]))
          (sym (h.dist (least S b l).ix))
          (sorts (s (least S b l).ix) refl (h.known (least S b l) (in_bag M s k h b l is (least_in S b l))))

    -- any turn
    pub turn_sim : (M : State K) (s : ℕ → Cell K) (k : ℕ) → Sim M s k → Outcome s k (length M.bag) (Lit.turn S arcs M)
    unfolding Lit.turn Lit.take_from
    turn_sim M s k h = go M.bag refl
      where
        nothing : M.bag ≡ [] → (v : ℕ) (d : K) (p : Option ℕ) → s v ≡ has d p true → ⊥
        nothing e v d p i = Memᴰ.not-nil (subst (λ (z : List (Pair K)). Memᴰ (pair d v) z) e (h.held v d p i))

        go : (z : List (Pair K)) → M.bag ≡ z → Outcome s k (length z) (Lit.take_from S arcs z M)
        go [] e = subst (λ (z : End K). Ends S (ArcOf arcs) s k z) (sym (done_is h M.takes ∙ ap (λ (z : ℕ). done_at s z) h.takes)) (empty (nothing e))
        go (b ∷ l) e = taking M s k h b l e

    -- ---- 01's bag ends so: then the other does
    pub to_one_place : {M : State K} {s : ℕ → Cell K} {k : ℕ} {e : End K} → Sim M s k → Lit.Ends S arcs M e → Ends S (ArcOf arcs) s k e
    to_one_place {M} {s} {k} h (Lit.last p) = subst (Outcome s k (length M.bag)) p (turn_sim M s k h)
    to_one_place {M} {s} {k} {e} h (Lit.more {t = N} p r) = go (subst (Outcome s k (length M.bag)) p (turn_sim M s k h)) (λ x j i. to_one_place {s = x} {k = j} i r)
      where
        go : Outcome s k (length M.bag) (goes N) → ((x : ℕ → Cell K) (j : ℕ) → Sim N x j → Ends S (ArcOf arcs) x j e) → Ends S (ArcOf arcs) s k e
        go (inl w) f = f s k w.0
        go (inr w) f = more w.1 (f w.0 (suc k) w.2)

    -- ---- and the other way round: the pairs that are dropped in between are finitely many
    through : (m : ℕ) (M : State K) (s : ℕ → Cell K) (k : ℕ) (e : End K) → length M.bag < m → Sim M s k → ((f : End K) → Ends S (ArcOf arcs) s k f → f ≡ e)
        → ((t : ℕ → Cell K) (N : State K) → Next S (ArcOf arcs) s t → Sim N t (suc k) → Lit.Ends S arcs N e) → Lit.Ends S arcs M e
    through zero M s k e o h one on = absurd (omega arith)
    through (suc m) M s k e o h one on = go (Lit.turn S arcs M) refl (turn_sim M s k h) (λ N i j. through m N s k e i j one on)
      where
        go : (r : After K) → Lit.turn S arcs M ≡ r → Outcome s k (length M.bag) r → ((N : State K) → length N.bag < m → Sim N s k → Lit.Ends S arcs N e) → Lit.Ends S arcs M e
        go (ends f) p w rec = Lit.last (p ∙ ap ends (one f w))
        go (goes N) p (inl w) rec = Lit.more p (rec N (let x : length N.bag < length M.bag = w.1 in omega arith) w.0)
        go (goes N) p (inr w) rec = Lit.more p (on w.0 N w.1 w.2)

    -- the other bag ends so: then 01's does
    pub to_literal : {s : ℕ → Cell K} {k : ℕ} {e : End K} (M : State K) → Sim M s k → Ends S (ArcOf arcs) s k e → Lit.Ends S arcs M e
    to_literal {s} {k} M h (empty n) =
        through (suc (length M.bag)) M s k (done_at s k) (omega arith) h (λ f w. ends_one S L (ArcOf arcs) h.oks w (empty n)) (λ t N w i. absurd (n w.u w.d w.p w.taken.held))
    to_literal {s} {k} M h (found u d p t g) =
        through (suc (length M.bag)) M s k (done_at s (suc k)) (omega arith) h (λ f w. ends_one S L (ArcOf arcs) h.oks w (found u d p t g))
        (λ t' N w i. absurd (stuck S L (ArcOf arcs) h.oks t w.taken g w.passed))
    to_literal {s} {k} M h (wrong u d p t g v c a b) =
        through (suc (length M.bag)) M s k (refused (suc k)) (omega arith) h (λ f w. ends_one S L (ArcOf arcs) h.oks w (wrong u d p t g v c a b))
        (λ t' N w i. absurd (bad_good S L (ArcOf arcs) h.oks t w.taken a b w.good))
    to_literal {s} {k} {e} M h (more {t} w r) =
        through (suc (length M.bag)) M s k e (omega arith) h (λ f w'. ends_one S L (ArcOf arcs) h.oks w' (more w r))
        (λ t' N w' i. to_literal N (subst (λ (z : ℕ → Cell K). Sim N z (suc k)) (next_one S L (ArcOf arcs) h.oks w' w) i) r)

  -- ---- from the start
  pub start_sim : Sim (Lit.start S) (begin S) 0
  unfolding Lit.start begin
  start_sim = record {
    dist = λ v. d_go (eqb v S.source);
    pred = λ v. p_go (eqb v S.source);
    takes = refl;
    held = λ v d p e. h_go v d p (eqb v S.source) (eqb-true v S.source) e;
    known = λ q m. k_go q (Memᴰ.cases_cons m);
    distinct = (λ m. Memᴰ.not-nil m, tt);
    oks = begin_ok S L;
  }
    where
      d_go : (t : Bool) → pick t (some S.zero) none ≡ dist_of (pick t (has S.zero none true) out)
      d_go true = refl
      d_go false = refl

      p_go : (t : Bool) → none ≡ pred_of {K = K} (pick t (has S.zero none true) out)
      p_go true = refl
      p_go false = refl

      h_go : (v : ℕ) (d : K) (p : Option ℕ) (t : Bool) → (t ≡ true → v ≡ S.source) → pick t (has S.zero none true) out ≡ has d p true → Memᴰ (pair d v) (pair S.zero S.source ∷ [])
      h_go v d p true f e = let q : d ≡ S.zero = cc in Memᴰ.head (λ i. pair (q i) (f refl i))
      h_go v d p false f e = absurd (let z : ◌≡◌ {A = ℕ} 0 1 = cc in omega arith)

      k_go : (q : Pair K) → (q ≡ pair S.zero S.source) ⊎ Memᴰ q [] → LiveOrStale q.at (upd (λ v. out) S.source (has S.zero none true) q.ix)
      k_go q (inr m) = absurd (Memᴰ.not-nil m)
      k_go q (inl e) =
          subst (λ (t : Bool). LiveOrStale q.at (pick t (has S.zero none true) out)) (sym (eq-eqb q.ix S.source (ap (λ (z : Pair K). z.ix) e))) (live (ap (λ (z : Pair K). z.at) e))

  -- the two bags end alike
  pub same_ends : (arcs : ℕ → List (ℕ × C)) (e : End K) → (Lit.Ends S arcs (Lit.start S) e → Ends S (ArcOf arcs) (begin S) 0 e) × (Ends S (ArcOf arcs) (begin S) 0 e → Lit.Ends S arcs (Lit.start S) e)
  same_ends arcs e = (λ r. to_one_place arcs start_sim r, λ r. to_literal arcs (Lit.start S) start_sim r)

  -- a search over any arcs ends as 01's bag over rows whose members are these arcs
  pub literal_ends : (A : ℕ → ℕ → C → Type 0) (rows : ℕ → List (ℕ × C)) → ((u v : ℕ) (c : C) → A u v c ↔ ArcOf rows u v c) → (e : End K) → Ends S A (begin S) 0 e ↔ Lit.Ends S rows (Lit.start S) e
  literal_ends A rows same e = (
    λ r. (same_ends rows e).1 (ends_map S A (ArcOf rows) (λ u v c. (same u v c).0) (λ u v c. (same u v c).1) r),
    λ r. ends_map S (ArcOf rows) A (λ u v c. (same u v c).1) (λ u v c. (same u v c).0) ((same_ends rows e).0 r),
  )

  -- 01's bag: neither the order of a row's arcs nor how often one stands there matters
  pub order_free : (arcs arcs' : ℕ → List (ℕ × C)) → ((u v : ℕ) (c : C) → ArcOf arcs u v c → ArcOf arcs' u v c) → ((u v : ℕ) (c : C) → ArcOf arcs' u v c → ArcOf arcs u v c)
      → (e : End K) → Lit.Ends S arcs (Lit.start S) e → Lit.Ends S arcs' (Lit.start S) e
  order_free arcs arcs' to from e r = (same_ends arcs' e).1 (ends_map S (ArcOf arcs) (ArcOf arcs') to from ((same_ends arcs e).0 r))
