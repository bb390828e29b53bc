-- The search with one place per index has one end, and only which arcs there are matters to it.
-- The order of pairs is total, so two pairs that are both least are one: each turn takes one index. What it does to an index is settled too: of two totals that are
-- both the least, neither is below the other. A relation with the same arcs gives the same turns.
use mathlib.Core.Path.{◌≡◌, refl, sym, ap, ◌∙◌, subst, fun_ext}
use mathlib.Core.Bool.{Bool, true, false}
use mathlib.Core.Logic.{◌⊎◌, inl, inr}
use mathlib.Core.Option.{Option, none, some}
use Prim.Native.Nat.{ℕ, suc, ◌≤◌}
use native.Mathlib.Omega.{arith}
use Rattle.whole.proofs.Cases.{clash}
use Rattle.bag.proofs.Order.{before_same}
use Rattle.pending.specs.Setting.{upd, Setting, is_target, End}
use Rattle.pending.specs.OnePlace.{Cell, out, has, begin, Takes, NewCell, stays, stores, Turned, Next, Ends, empty, found, wrong, more}
use Rattle.pending.specs.Laws.{Laws, OkCell}
use Rattle.pending.proofs.Cells.{upd_all}
use Rattle.pending.proofs.Row.{new_map}

-- what a cell has, taken out of it
pub cell_ok : {K : Type 0} (ok : K → Type 0) {c : Cell K} {d : K} {p : Option ℕ} {b : Bool} → c ≡ has d p b → OkCell ok c → ok d
cell_ok ok e o = subst (OkCell ok) e o

module _ {K C : Type 0} (S : Setting K C) {ok : K → Type 0} (L : Laws S ok) where
  -- ---- keys stay good
  pub new_ok : {A : C → Type 0} {u : ℕ} {d : K} {old new : Cell K} → ok d → ((c : C) → A c → S.bad c ≡ false) → OkCell ok old → NewCell S A u d old new → OkCell ok new
  new_ok {d} x good o (stays f e) = subst (OkCell ok) (sym e) o
  new_ok {d} x good o (stores c a k b m e) = subst (OkCell ok) (sym e) (L.plus_ok d c x (good c a))

  -- at the start
  pub begin_ok : (v : ℕ) → OkCell ok (begin S v)
  unfolding begin
  begin_ok = upd_all (OkCell ok) (λ v. out) S.source (has S.zero none true) (λ v. tt) L.zero_ok

  -- ---- one index is taken
  pub takes_one : {s : ℕ → Cell K} {u u' : ℕ} {d d' : K} {p p' : Option ℕ} → ((v : ℕ) → OkCell ok (s v)) → Takes S s u d p → Takes S s u' d' p' → (u ≡ u') × (d ≡ d') × (p ≡ p')
  takes_one {s} {u} {u'} {d} {d'} {p} {p'} oks t t' =
      let a = before_same L.order (S.key d u) u (S.key d' u') u' (L.key_ok d u (cell_ok ok t.held (oks u))) (L.key_ok d' u' (cell_ok ok t'.held (oks u'))) (t'.least u d p t.held)
      (t.least u' d' p' t'.held) in
      let e : has d p true ≡ has d' p' true = sym t.held ∙ ap s a.1 ∙ t'.held in
      (a.1, (cc), (cc))

  -- one outcome for an index
  new_one : {A : C → Type 0} {u : ℕ} {d : K} {old new new' : Cell K} → ok d → ((c : C) → A c → S.bad c ≡ false) → NewCell S A u d old new → NewCell S A u d old new' → new ≡ new'
  new_one x good (stays f e) (stays f' e') = e ∙ sym e'
  new_one x good (stays f e) (stores c a k b m e') = absurd (clash b (f c a k))
  new_one x good (stores c a k b m e) (stays f e') = absurd (clash b (f c a k))
  new_one {u} {d} x good (stores c a k b m e) (stores c' a' k' b' m' e') =
      let q : S.plus d c ≡ S.plus d c' = L.order.same (S.plus d c) (S.plus d c') (L.plus_ok d c x (good c a)) (L.plus_ok d c' x (good c' a')) (m' c a k) (m c' a' k') in
      e ∙ ap (λ (n : K). has n (some u) true) q ∙ sym e'

  -- the turn of one index has one outcome
  pub turned_one : {A : ℕ → C → Type 0} {u : ℕ} {d : K} {s t t' : ℕ → Cell K} → ok d → ((v : ℕ) (c : C) → A v c → S.bad c ≡ false) → Turned S A u d s t → Turned S A u d s t' → t ≡ t'
  turned_one x good w w' = fun_ext (λ v. new_one x (good v) (w v) (w' v))

  module _ (Arc : ℕ → ℕ → C → Type 0) where
    -- a turn keeps keys good
    pub next_ok : {s t : ℕ → Cell K} → ((v : ℕ) → OkCell ok (s v)) → Next S Arc s t → (v : ℕ) → OkCell ok (t v)
    next_ok {s} oks w v =
        let x : ok w.d = cell_ok ok w.taken.held (oks w.u) in
        new_ok x (w.good v) (upd_all (OkCell ok) s w.u (has w.d w.p false) oks x v) (w.turned v)

    -- one next state
    pub next_one : {s t t' : ℕ → Cell K} → ((v : ℕ) → OkCell ok (s v)) → Next S Arc s t → Next S Arc s t' → t ≡ t'
    next_one {s} {t} {t'} oks w w' =
        let x : ok w.d = cell_ok ok w.taken.held (oks w.u) in
        let q = takes_one oks w'.taken w.taken in
        turned_one x w.good w.turned (moved w'.u w.u w'.d w.d w'.p w.p q.0 q.1 q.2 w'.turned)
      where
        moved : (u' u : ℕ) (d' d : K) (p' p : Option ℕ) → u' ≡ u → d' ≡ d → p' ≡ p → Turned S (Arc u') u' d' (upd s u' (has d' p' false)) t' → Turned S (Arc u) u d (upd s u (has d p false)) t'
        moved u' u d' d p' p a b c h =
            subst (λ (z : ℕ). Turned S (Arc z) z d (upd s z (has d p false)) t') a
            (subst (λ (z : K). Turned S (Arc u') u' z (upd s u' (has z p false)) t') b (subst (λ (z : Option ℕ). Turned S (Arc u') u' d' (upd s u' (has d' z false)) t') c h))

    -- a search that takes the target, or an index with a bad arc, does not go on
    pub stuck : {s : ℕ → Cell K} {u u' : ℕ} {d d' : K} {p p' : Option ℕ} → ((v : ℕ) → OkCell ok (s v)) → Takes S s u d p → Takes S s u' d' p' → is_target S.target u ≡ true
        → is_target S.target u' ≡ false → ⊥
    stuck oks t t' e f = clash (ap (is_target S.target) (sym (takes_one oks t t').0) ∙ e) f

    -- a bad arc and none
    pub bad_good : {s : ℕ → Cell K} {u u' : ℕ} {d d' : K} {p p' : Option ℕ} {v : ℕ} {c : C} → ((v : ℕ) → OkCell ok (s v)) → Takes S s u d p → Takes S s u' d' p' → Arc u v c → S.bad c ≡ true
        → ((v : ℕ) (c : C) → Arc u' v c → S.bad c ≡ false) → ⊥
    bad_good {v} {c} oks t t' a b g = clash b (g v c (subst (λ (z : ℕ). Arc z v c) (takes_one oks t t').0 a))

    -- ---- one end
    pub ends_one : {s : ℕ → Cell K} {n : ℕ} {e f : End K} → ((v : ℕ) → OkCell ok (s v)) → Ends S Arc s n e → Ends S Arc s n f → e ≡ f
    ends_one oks (empty h) (empty h') = refl
    ends_one oks (empty h) (found u d p t g) = absurd (h u d p t.held)
    ends_one oks (empty h) (wrong u d p t g v c a b) = absurd (h u d p t.held)
    ends_one oks (empty h) (more w r) = absurd (h w.u w.d w.p w.taken.held)
    ends_one oks (found u d p t g) (empty h) = absurd (h u d p t.held)
    ends_one oks (found u d p t g) (found u' d' p' t' g') = refl
    ends_one oks (found u d p t g) (wrong u' d' p' t' g' v c a b) = absurd (stuck oks t t' g g')
    ends_one oks (found u d p t g) (more w r) = absurd (stuck oks t w.taken g w.passed)
    ends_one oks (wrong u d p t g v c a b) (empty h) = absurd (h u d p t.held)
    ends_one oks (wrong u d p t g v c a b) (found u' d' p' t' g') = absurd (stuck oks t' t g' g)
    ends_one oks (wrong u d p t g v c a b) (wrong u' d' p' t' g' v' c' a' b') = refl
    ends_one oks (wrong u d p t g v c a b) (more w r) = absurd (bad_good oks t w.taken a b w.good)
    ends_one oks (more w r) (empty h) = absurd (h w.u w.d w.p w.taken.held)
    ends_one oks (more w r) (found u d p t g) = absurd (stuck oks t w.taken g w.passed)
    ends_one oks (more w r) (wrong u d p t g v c a b) = absurd (bad_good oks t w.taken a b w.good)
    ends_one {n} {f} oks (more {t} w r) (more {t = t'} w' r') = ends_one (next_ok oks w) r (subst (λ (z : ℕ → Cell K). Ends S Arc z (suc n) f) (sym (next_one oks w w')) r')

-- a search ends with 0 or 6
pub number_is : {K C : Type 0} {S : Setting K C} {Arc : ℕ → ℕ → C → Type 0} {s : ℕ → Cell K} {n : ℕ} {e : End K} → Ends S Arc s n e → (e.number ≡ 0) ⊎ (e.number ≡ 6)
number_is (empty f) = inl refl
number_is (found u d p t g) = inl refl
number_is (wrong u d p t g v c a b) = inr refl
number_is (more w r) = number_is r

-- and with 0 where no arc is bad
pub all_good : {K C : Type 0} {S : Setting K C} {Arc : ℕ → ℕ → C → Type 0} → ((u v : ℕ) (c : C) → Arc u v c → S.bad c ≡ false) → {s : ℕ → Cell K} {n : ℕ} {e : End K} → Ends S Arc s n e
    → e.number ≡ 0
all_good h (empty f) = refl
all_good h (found u d p t g) = refl
all_good h (wrong u d p t g v c a b) = absurd (clash b (h u v c a))
all_good h (more w r) = all_good h r

-- takes are counted up
pub takes_up : {K C : Type 0} (S : Setting K C) (Arc : ℕ → ℕ → C → Type 0) {s : ℕ → Cell K} {n : ℕ} {e : End K} → Ends S Arc s n e → n ≤ e.takes
takes_up S Arc (empty f) = omega arith
takes_up S Arc (found u d p t g) = omega arith
takes_up S Arc (wrong u d p t g v c a b) = omega arith
takes_up S Arc (more w r) = let k = takes_up S Arc r in omega arith

-- ---- only which arcs there are matters: not their order, not how often one stands in a row
module _ {K C : Type 0} (S : Setting K C) (Arc Arc' : ℕ → ℕ → C → Type 0) (to : (u v : ℕ) (c : C) → Arc u v c → Arc' u v c) (from : (u v : ℕ) (c : C) → Arc' u v c → Arc u v c) where
  -- the same turn over the same arcs
  pub next_map : {s t : ℕ → Cell K} → Next S Arc s t → Next S Arc' s t
  next_map w = record {
    u = w.u;
    d = w.d;
    p = w.p;
    taken = w.taken;
    passed = w.passed;
    good = λ v c a. w.good v c (from w.u v c a);
    turned = λ v. new_map S (to w.u v) (from w.u v) (w.turned v);
  }

  -- the same end over the same arcs
  pub ends_map : {s : ℕ → Cell K} {n : ℕ} {e : End K} → Ends S Arc s n e → Ends S Arc' s n e
  ends_map (empty h) = empty h
  ends_map (found u d p t g) = found u d p t g
  ends_map (wrong u d p t g v c a b) = wrong u d p t g v c (to u v c a) b
  ends_map (more w r) = more (next_map w) (ends_map r)
