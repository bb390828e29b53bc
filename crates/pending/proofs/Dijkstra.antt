-- What `dijkstra`'s bag ends in: least totals, or 6 exactly where an arc below zero leaves an index in reach; and it ends on every map.
-- When nothing is pending the arcs of every index with a distance were looked at (Whole): so no arc leads to more than the total, the distances are least totals, an
-- index without one has no walk to it (Labels), and none of the arcs in reach is below zero. Each index is taken once (Once).
use mathlib.Core.Path.{◌≡◌, refl, sym}
use mathlib.Core.Bool.{Bool, true, false, true≢false}
use mathlib.Core.Logic.{◌⊎◌, inl, inr}
use mathlib.Core.List.{List}
use mathlib.Core.Option.{Option, none, some}
use Prim.Native.Nat.{ℕ, ◌≤◌}
use native.Mathlib.Omega.{arith}
use lib.ListN.{length}
use lib.IntN.{ℤ, pos}
use lib.Signed.{◌≤ℤ◌, ◌<ℤ◌}
use Rattle.whole.specs.Zed.{◌⊕◌, zed}
use Rattle.walks.specs.Pigeon.{In}
use Rattle.walks.specs.Walk.{Walk, Least}
use Rattle.walks.proofs.Pigeon.{short}
use Rattle.walks.proofs.Labels.{along, labels_least, no_label}
use Rattle.pending.specs.Setting.{End, ArcOf}
use Rattle.pending.specs.Literal as Lit
use Rattle.pending.specs.OnePlace.{Cell, has, dist_of, begin, Ends}
use Rattle.pending.specs.Ints.{dijkstra}
use Rattle.pending.specs.Reach.{BadInReach, Reachable}
use Rattle.pending.specs.Answers.{DijkstraAnswer}
use Rattle.pending.proofs.Ints.{whole_laws, whole_grows}
use Rattle.pending.proofs.Once.{begin_once, Counted, counted, plain_ends}
use Rattle.pending.proofs.Whole.{dist_has, has_dist, Inv, Relaxed, begin_inv, Final, rested, arrived, stopped, final}

-- ---- a state in which nothing is pending
module _ (key : ℤ → ℕ → ℤ) (target : Option ℕ) (o : ℕ) (Arc : ℕ → ℕ → ℤ → Type 0) (s : ℕ → Cell ℤ) (h : Inv key target o Arc s)
    (rest : (v : ℕ) (d : ℤ) (p : Option ℕ) → s v ≡ has d p true → ⊥) where
  -- v has the distance d
  abbrev pub At : ℕ → ℤ → Type 0
  At v d = dist_of (s v) ≡ some d

  -- one distance each
  one : (v : ℕ) (d e : ℤ) → At v d → At v e → d ≡ e
  one v d e p q = cc

  -- an index with a distance was taken
  pub was_taken : (u : ℕ) (d : ℤ) → At u d → (p : Option ℕ) × (s u ≡ has d p false)
  was_taken u d i = let k = dist_has (s u) d i in go k.0 k.1.flag k.1.is
    where
      go : (p : Option ℕ) (b : Bool) → s u ≡ has d p b → (p : Option ℕ) × (s u ≡ has d p false)
      go p true e = absurd (rest u d p e)
      go p false e = (p, e)

  -- its arcs were looked at
  looked_at : (u v : ℕ) (d c : ℤ) → At u d → Arc u v c → Relaxed key target o Arc s d v c
  looked_at u v d c i a = let k = was_taken u d i in h.looked u d k.0 k.1 v c a

  -- no arc leads to more than the total
  relaxed : (u v : ℕ) (d c : ℤ) → At u d → Arc u v c → (e : ℤ) × At v e × e ≤ℤ d ⊕ c
  relaxed u v d c i a = let r = looked_at u v d c i a in (r.e, has_dist r.has_it, r.low)

  -- every distance is the least total
  pub rest_least : (v : ℕ) (d : ℤ) → At v d → Least Arc o v d
  rest_least v d i = let k = dist_has (s v) d i in labels_least one relaxed (has_dist h.first) (omega (arith, zed)) i (h.walk v d k.0 k.1)

  -- without a distance there is no walk
  pub rest_none : (v : ℕ) → dist_of (s v) ≡ none → (t : ℤ) → Walk Arc o v t → ⊥
  rest_none v e = no_label one relaxed (has_dist h.first) (λ d i. let z : ◌≡◌ {A = ℕ} 0 1 = cc in omega arith)

  -- no arc below zero is in reach
  pub rest_clean : BadInReach Arc o → ⊥
  rest_clean b =
      let k = along one relaxed (has_dist h.first) b.reach in
      let r = looked_at b.u b.v k.0 b.c k.1 b.arc_is in
      let x : pos 0 ≤ℤ b.c = r.up in
      let y : b.c <ℤ pos 0 = b.below in
      omega (arith, zed)

-- ---- the answer
module _ (Arc : ℕ → ℕ → ℤ → Type 0) (o : ℕ) where
  -- the indices with a distance, which were counted, are those in reach
  in_reach : {e : End ℤ} → Counted (dijkstra o) (whole_laws (λ d v. d) none o) (λ d v. refl) (λ d c x. whole_grows d c) Arc e
      → ((v : ℕ) (d : ℤ) → e.dist v ≡ some d → Walk Arc o v d) → ((v : ℕ) → e.dist v ≡ none → (t : ℤ) → Walk Arc o v t → ⊥)
      → (l : List ℕ) × Reachable Arc o l × (e.takes ≡ length l)
  in_reach {e} k walk gone = (k.those, record { distinct = k.distinct; reached = reached; all = λ v t w. listed v t w (e.dist v) refl }, k.many)
    where
      reached : (v : ℕ) → In v k.those → (t : ℤ) × Walk Arc o v t
      reached v i = let x = k.have v i in (x.0, walk v x.0 x.1)

      listed : (v : ℕ) (t : ℤ) → Walk Arc o v t → (x : Option ℤ) → e.dist v ≡ x → In v k.those
      listed v t w none q = absurd (gone v q t w)
      listed v t w (some d) q = k.all v d q

  -- the answer, from how the search ended
  from_final : {e : End ℤ} → Final (λ d v. d) none o Arc e → (e.number ≡ 0 → Counted (dijkstra o) (whole_laws (λ d v. d) none o) (λ d v. refl) (λ d c x. whole_grows d c) Arc e)
      → DijkstraAnswer Arc o e
  from_final (rested s n h f) k = record {
    number = inl refl;
    least = λ q. rest_least (λ d v. d) none o Arc s h f;
    unreached = λ q. rest_none (λ d v. d) none o Arc s h f;
    clean = λ q. rest_clean (λ d v. d) none o Arc s h f;
    chain = λ q v d i. let x = dist_has (s v) d i in h.chain v d x.0 x.1;
    takes = λ q. in_reach (k q) (λ v d i. let x = dist_has (s v) d i in h.walk v d x.0 x.1) (rest_none (λ d v. d) none o Arc s h f);
    refused_why = λ q. absurd (omega arith);
    blank = λ q. absurd (omega arith);
  }
  from_final (arrived s n u d p h t g) k = absurd (let z : false ≡ true = g in let y : ◌≡◌ {A = ℕ} 0 1 = cc in omega arith)
  from_final (stopped n u d v c w a b) k = record {
    number = inr refl;
    least = λ q. absurd (omega arith);
    unreached = λ q. absurd (omega arith);
    clean = λ q. absurd (omega arith);
    chain = λ q. absurd (omega arith);
    takes = λ q. absurd (omega arith);
    refused_why = λ q. record { u = u; t = d; v = v; c = c; reach = w; arc_is = a; below = b };
    blank = λ q x. (refl, refl);
  }

  -- whatever the search ends in is the answer
  pub dijkstra_answer : {e : End ℤ} → Ends (dijkstra o) Arc (begin (dijkstra o)) 0 e → DijkstraAnswer Arc o e
  dijkstra_answer r =
      from_final (final (λ d v. d) none o Arc (begin_inv (λ d v. d) none o Arc) r)
      (λ q. counted (dijkstra o) (whole_laws (λ d v. d) none o) (λ d v. refl) (λ d c x. whole_grows d c) Arc (λ u g. absurd (true≢false (sym g)))
      (begin_once (dijkstra o) (whole_laws (λ d v. d) none o) (λ d v. refl) (λ d c x. whole_grows d c) Arc) r q)

-- every list of the indices in reach is as long as the takes are many
pub takes_all : {Arc : ℕ → ℕ → ℤ → Type 0} {o : ℕ} {e : End ℤ} → DijkstraAnswer Arc o e → e.number ≡ 0 → (l : List ℕ) → Reachable Arc o l → e.takes ≡ length l
takes_all {Arc} {o} a q l r = let k = a.takes q in omega (arith, k.2, longest k.1 r, longest r k.1)
  where
    longest : {l k : List ℕ} → Reachable Arc o l → Reachable Arc o k → length l ≤ length k
    longest {l} {k} x y = short l k x.distinct (λ v i. let w = x.reached v i in y.all v w.0 w.1)

-- it ends, on every map
pub dijkstra_ends : (arcs : ℕ → List (ℕ × ℤ)) (o : ℕ) (ps : List ℕ) → In o ps → ((u v : ℕ) (c : ℤ) → ArcOf arcs u v c → In v ps)
    → (e : End ℤ) × Lit.Ends (dijkstra o) arcs (Lit.start (dijkstra o)) e × DijkstraAnswer (ArcOf arcs) o e
dijkstra_ends arcs o ps i f = let r = plain_ends (dijkstra o) (whole_laws (λ d v. d) none o) (λ d v. refl) (λ d c x. whole_grows d c) arcs ps i f in (r.0, r.1, dijkstra_answer (ArcOf arcs) o r.2)

-- 6 exactly when an arc below zero leaves an index in reach
pub six_exactly : {Arc : ℕ → ℕ → ℤ → Type 0} {o : ℕ} {e : End ℤ} → DijkstraAnswer Arc o e → (e.number ≡ 6 → BadInReach Arc o) × (BadInReach Arc o → e.number ≡ 6)
six_exactly {Arc} {o} {e} a = (a.refused_why, λ b. go b a.number)
  where
    go : BadInReach Arc o → (e.number ≡ 0) ⊎ (e.number ≡ 6) → e.number ≡ 6
    go b (inl z) = absurd (a.clean z b)
    go b (inr z) = z
