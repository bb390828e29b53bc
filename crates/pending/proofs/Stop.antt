-- Stopping at a target changes nothing before: where each index is taken at most once, the target's distance and predecessor are those of the whole search.
-- The two searches take the same turns until the target is taken, and what it has then it has at the end (Settle). Over any kind of key.
use mathlib.Core.Path.{◌≡◌, refl, sym, ap, ◌∙◌, subst}
use mathlib.Core.Bool.{Bool, true, false, true≢false}
use mathlib.Core.Logic.{◌⊎◌, inl, inr}
use mathlib.Core.Option.{Option, none, some}
use Prim.Native.Nat.{ℕ, suc, ◌≤◌}
use native.Mathlib.Omega.{arith}
use lib.Dec.{eqb}
use borrow.Author.Tests.{eqb-true, eq-eqb}
use Rattle.bag.specs.Order.{before}
use Rattle.bag.proofs.Order.{self, is_not_before}
use Rattle.pending.specs.Setting.{Setting, is_target, End}
use Rattle.pending.specs.OnePlace.{Cell, has, dist_of, pred_of, done_at, begin, Takes, NewCell, stays, stores, Next, Ends, empty, found, wrong, more, out}
use Rattle.pending.specs.Laws.{Laws}
use Rattle.pending.proofs.Cells.{upd_here, upd_there, not_pending, upd_cases, not_out}
use Rattle.pending.proofs.One.{begin_ok, ends_one, takes_up}
use Rattle.pending.proofs.Settle.{stays_settled}
use Rattle.pending.proofs.Once.{Once, begin_once, next_once}

-- the same search with another target, or none
abbrev pub aim : {K C : Type 0} → Setting K C → Option ℕ → Setting K C
aim S g = record { lt = S.lt; zero = S.zero; plus = S.plus; key = S.key; bad = S.bad; cut = S.cut; target = g; source = S.source }

module _ {K C : Type 0} (S : Setting K C) (Arc : ℕ → ℕ → C → Type 0) where
  -- what is least, and what a turn does, does not look at the target
  pub takes_aim : {g h : Option ℕ} {s : ℕ → Cell K} {u : ℕ} {d : K} {p : Option ℕ} → Takes (aim S g) s u d p → Takes (aim S h) s u d p
  takes_aim t = record { held = t.held; least = t.least }

  -- nor what is stored
  pub new_aim : {g h : Option ℕ} {A : C → Type 0} {u : ℕ} {d : K} {old new : Cell K} → NewCell (aim S g) A u d old new → NewCell (aim S h) A u d old new
  new_aim (stays f e) = stays f e
  new_aim (stores c a k b m e) = stores c a k b m e

  -- nor a turn, but for the index taken
  pub next_aim : {g h : Option ℕ} {s t : ℕ → Cell K} (w : Next (aim S g) Arc s t) → is_target h w.u ≡ false → Next (aim S h) Arc s t
  next_aim w f = record { u = w.u; d = w.d; p = w.p; taken = takes_aim w.taken; passed = f; good = w.good; turned = λ v. new_aim (w.turned v) }

module _ {K C : Type 0} (S : Setting K C) {ok : K → Type 0} (L : Laws (aim S none) ok) (plain : (d : K) (v : ℕ) → S.key d v ≡ d)
    (grows : (d : K) (c : C) → ok d → S.bad c ≡ false → S.lt (S.plus d c) d ≡ false) (Arc : ℕ → ℕ → C → Type 0) where
  -- what an index that was taken has, it has at the end
  pub stays_to_end : {s : ℕ → Cell K} {n : ℕ} {e : End K} {v : ℕ} {x : K} {q : Option ℕ} → Once (aim S none) L plain grows Arc s n → Ends (aim S none) Arc s n e → e.number ≡ 0
      → s v ≡ has x q false → (e.dist v ≡ some x) × (e.pred v ≡ q)
  stays_to_end i (empty f) z h = (ap dist_of h, ap pred_of h)
  stays_to_end i (found u d p t g) z h = (ap dist_of h, ap pred_of h)
  stays_to_end i (wrong u d p t g v c a b) z h = absurd (omega arith)
  stays_to_end {s} {v} {x} {q} i (more w r) z h =
      stays_to_end (next_once (aim S none) L plain grows Arc i w) r z
      (stays_settled (aim S none) L plain grows Arc i.settled w v x q (upd_there s w.u (has w.d w.p false) v (λ e. not_pending (sym w.taken.held ∙ ap s (sym e) ∙ h)) ∙ h))

  -- the whole search is done: so is the one that stops at g, and g has the same
  pub record Agrees (g : ℕ) (e f : End K) : Type 0 where
    pub number : f.number ≡ 0
    pub dist : f.dist g ≡ e.dist g
    pub pred : f.pred g ≡ e.pred g
    pub takes : f.takes ≤ e.takes

  -- from any moment
  pub stop_agrees : (g : ℕ) {s : ℕ → Cell K} {n : ℕ} {e : End K} → Once (aim S none) L plain grows Arc s n → Ends (aim S none) Arc s n e → e.number ≡ 0
      → (f : End K) × Ends (aim S (some g)) Arc s n f × Agrees g e f
  stop_agrees g {s} {n} i (empty h) z = (done_at s n, empty h, record { number = refl; dist = refl; pred = refl; takes = omega arith })
  stop_agrees g i (found u d p t h) z = absurd (true≢false (sym h))
  stop_agrees g i (wrong u d p t h v c a b) z = absurd (omega arith)
  stop_agrees g {s} {n} {e} i (more {t} w r) z = go (eqb w.u g) refl (stop_agrees g (next_once (aim S none) L plain grows Arc i w) r z)
    where
      j : Once (aim S none) L plain grows Arc t (suc n)
      j = next_once (aim S none) L plain grows Arc i w

      kept : (e.dist w.u ≡ some w.d) × (e.pred w.u ≡ w.p)
      kept = stays_to_end j r z (stays_settled (aim S none) L plain grows Arc i.settled w w.u w.d w.p (upd_here s w.u (has w.d w.p false)))

      go : (b : Bool) → eqb w.u g ≡ b → (f : End K) × Ends (aim S (some g)) Arc t (suc n) f × Agrees g e f → (f : End K) × Ends (aim S (some g)) Arc s n f × Agrees g e f
      go false q rec = (rec.0, more (next_aim S Arc w q) rec.1, rec.2)
      go true q rec =
          let u_is : w.u ≡ g = eqb-true w.u g q in (
            done_at s (suc n),
            found w.u w.d w.p (takes_aim S Arc w.taken) q,
            record {
              number = refl;
              dist = ap (λ (x : ℕ). dist_of (s x)) (sym u_is) ∙ ap dist_of w.taken.held ∙ sym kept.0 ∙ ap e.dist u_is;
              pred = ap (λ (x : ℕ). pred_of (s x)) (sym u_is) ∙ ap pred_of w.taken.held ∙ sym kept.1 ∙ ap e.pred u_is;
              takes = takes_up (aim S none) Arc r;
            },
          )

  -- from the start
  pub stop_at : (g : ℕ) (e : End K) → Ends (aim S none) Arc (begin (aim S none)) 0 e → e.number ≡ 0 → (f : End K) × Ends (aim S (some g)) Arc (begin (aim S none)) 0 f × Agrees g e f
  stop_at g e r z = stop_agrees g (begin_once (aim S none) L plain grows Arc) r z

  -- the laws say nothing of the target
  pub aim_laws : (g : Option ℕ) → Laws (aim S g) ok
  aim_laws g = record { order = L.order; zero_ok = L.zero_ok; plus_ok = L.plus_ok; key_ok = L.key_ok }

  -- at the start the source is taken
  pub first_taken : (g : Option ℕ) → Takes (aim S g) (begin (aim S g)) S.source S.zero none
  unfolding begin
  first_taken g =
      record { held = upd_here (λ w. out) S.source (has S.zero none true); least = λ v e q i. go v e q (upd_cases (λ w. out) S.source (has S.zero none true) v (has e q true) i) }
    where
      own : before S.lt (S.key S.zero S.source) S.source (S.key S.zero S.source) S.source ≡ false
      own =
          is_not_before L.order (S.key S.zero S.source) S.source (S.key S.zero S.source) S.source (self L.order _ (L.key_ok S.zero S.source L.zero_ok))
          (λ e. omega arith)

      go : (v : ℕ) (e : K) (q : Option ℕ) → ((v ≡ S.source) × (has S.zero none true ≡ has e q true)) ⊎ ((v ≡ S.source → ⊥) × (out ≡ has e q true))
          → before S.lt (S.key e v) v (S.key S.zero S.source) S.source ≡ false
      go v e q (inr i) = absurd (not_out i.1)
      go v e q (inl i) =
          let j = i.1 in
          let z : e ≡ S.zero = cc in
          subst (λ (x : ℕ). before S.lt (S.key e x) x (S.key S.zero S.source) S.source ≡ false) (sym i.0)
          (subst (λ (x : K). before S.lt (S.key x S.source) S.source (S.key S.zero S.source) S.source ≡ false) (sym z) own)

  -- the source as the target: one take, at its own distance
  pub stop_at_source : (e : End K) → Ends (aim S (some S.source)) Arc (begin (aim S (some S.source))) 0 e
      → (e.number ≡ 0) × (e.takes ≡ 1) × (e.dist S.source ≡ some S.zero) × (e.pred S.source ≡ none)
  stop_at_source e r =
      let t = first_taken (some S.source) in
      let q : e ≡ done_at (begin (aim S (some S.source))) 1 = ends_one (aim S (some S.source)) (aim_laws (some S.source)) Arc
      (begin_ok (aim S (some S.source)) (aim_laws (some S.source))) r (found S.source S.zero none t (eq-eqb S.source S.source refl)) in (
        ap (λ (x : End K). x.number) q,
        ap (λ (x : End K). x.takes) q,
        ap (λ (x : End K). x.dist S.source) q ∙ ap dist_of t.held,
        ap (λ (x : End K). x.pred S.source) q ∙ ap pred_of t.held,
      )
