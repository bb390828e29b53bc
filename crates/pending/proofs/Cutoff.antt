-- Only which good totals are past the cutoff matters: two tests that agree on good keys give the same search, since a search asks the test of good totals alone.
-- And where every good total is past the cutoff nothing is ever stored, so the source alone has a distance. Over any kind of key.
use mathlib.Core.Path.{◌≡◌, refl, sym, ap, ◌∙◌}
use mathlib.Core.Bool.{Bool, true, false, true≢false}
use mathlib.Core.Logic.{◌⊎◌, inl, inr}
use mathlib.Core.Option.{none}
use Prim.Native.Nat.{ℕ}
use Rattle.whole.proofs.Cases.{clash}
use Rattle.pending.specs.Setting.{upd, Setting, End}
use Rattle.pending.specs.OnePlace.{Cell, out, has, dist_of, begin, NewCell, stays, stores, Next, Ends, empty, found, wrong, more}
use Rattle.pending.specs.Laws.{Laws, OkCell}
use Rattle.pending.proofs.Cells.{upd_cases, upd_there, not_out}
use Rattle.pending.proofs.One.{cell_ok, begin_ok, next_ok}
use Rattle.pending.proofs.Widen.{cut_by, cut_laws}

module _ {K C : Type 0} (S : Setting K C) {ok : K → Type 0} (L : Laws S ok) (f g : K → Bool) (same : (x : K) → ok x → f x ≡ g x) (Arc : ℕ → ℕ → C → Type 0) where
  -- what a turn does to an index
  new_cut : {A : C → Type 0} {u : ℕ} {d : K} {old new : Cell K} → ok d → ((c : C) → A c → S.bad c ≡ false) → NewCell (cut_by S f) A u d old new → NewCell (cut_by S g) A u d old new
  new_cut {d} o good (stays h e) = stays (λ c a k. h c a (same (S.plus d c) (L.plus_ok d c o (good c a)) ∙ k)) e
  new_cut {d} o good (stores c a k b m e) =
      stores c a (sym (same (S.plus d c) (L.plus_ok d c o (good c a))) ∙ k) b (λ z i j. m z i (same (S.plus d z) (L.plus_ok d z o (good z i)) ∙ j)) e

  -- the same end
  pub ends_cut : {s : ℕ → Cell K} {n : ℕ} {e : End K} → ((v : ℕ) → OkCell ok (s v)) → Ends (cut_by S f) Arc s n e → Ends (cut_by S g) Arc s n e
  ends_cut oks (empty h) = empty h
  ends_cut oks (found u d p t h) = absurd (true≢false (sym h))
  ends_cut oks (wrong u d p t h v c a b) = wrong u d p (record { held = t.held; least = t.least }) h v c a b
  ends_cut {s} {n} {e} oks (more {t} w r) = more next (ends_cut (next_ok (cut_by S f) (cut_laws f L) Arc oks w) r)
    where
      next : Next (cut_by S g) Arc s t
      next = record {
        u = w.u;
        d = w.d;
        p = w.p;
        taken = record { held = w.taken.held; least = w.taken.least };
        passed = w.passed;
        good = w.good;
        turned = λ v. new_cut (cell_ok ok w.taken.held (oks w.u)) (w.good v) (w.turned v);
      }

module _ {K C : Type 0} (S : Setting K C) {ok : K → Type 0} (L : Laws S ok) (past : (x : K) → ok x → S.cut x ≡ true) (Arc : ℕ → ℕ → C → Type 0) where
  -- no other index has anything
  abbrev pub Alone : (ℕ → Cell K) → Type 0
  Alone s = (v : ℕ) → (v ≡ S.source → ⊥) → s v ≡ out

  -- at the start
  begin_alone : Alone (begin S)
  unfolding begin
  begin_alone v n = upd_there (λ w. out) S.source (has S.zero none true) v n

  -- a turn keeps it
  next_alone : {s t : ℕ → Cell K} → ((v : ℕ) → OkCell ok (s v)) → Alone s → Next S Arc s t → Alone t
  next_alone {s} {t} oks h w v n = go (w.turned v)
    where
      old : ((v ≡ w.u) × (has w.d w.p false ≡ t v)) ⊎ ((v ≡ w.u → ⊥) × (s v ≡ t v)) → t v ≡ out
      old (inl i) = absurd (not_out (sym (h v n) ∙ ap s i.0 ∙ w.taken.held))
      old (inr i) = sym i.1 ∙ h v n

      go : NewCell S (Arc w.u v) w.u w.d (upd s w.u (has w.d w.p false) v) (t v) → t v ≡ out
      go (stays f e) = old (upd_cases s w.u (has w.d w.p false) v (t v) (sym e))
      go (stores c a k b m e) = absurd (clash (past (S.plus w.d c) (L.plus_ok w.d c (cell_ok ok w.taken.held (oks w.u)) (w.good v c a))) k)

  -- from any moment
  ends_alone : {s : ℕ → Cell K} {n : ℕ} {e : End K} → ((v : ℕ) → OkCell ok (s v)) → Alone s → Ends S Arc s n e → (v : ℕ) → (v ≡ S.source → ⊥) → e.dist v ≡ none
  ends_alone oks h (empty f) v n = ap dist_of (h v n)
  ends_alone oks h (found u d p t g) v n = ap dist_of (h v n)
  ends_alone oks h (wrong u d p t g x c a b) v n = refl
  ends_alone oks h (more w r) v n = ends_alone (next_ok S L Arc oks w) (next_alone oks h w) r v n

  -- the source alone has a distance
  pub source_alone : (e : End K) → Ends S Arc (begin S) 0 e → (v : ℕ) → (v ≡ S.source → ⊥) → e.dist v ≡ none
  source_alone e r = ends_alone (begin_ok S L) begin_alone r
