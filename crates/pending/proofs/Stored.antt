-- What an answer holds: every distance is a good key, and every predecessor is the tail of an arc to its index. For nothing else is ever stored. Over any kind of key.
use mathlib.Core.Path.{◌≡◌, refl, sym, ap, ◌∙◌, subst}
use mathlib.Core.Bool.{true, false}
use mathlib.Core.Logic.{◌⊎◌, inl, inr}
use mathlib.Core.Option.{none, some}
use Prim.Native.Nat.{ℕ}
use native.Mathlib.Omega.{arith}
use Rattle.pending.specs.Setting.{upd, Setting, End}
use Rattle.pending.specs.OnePlace.{Cell, out, has, dist_of, pred_of, begin, NewCell, stays, stores, Next, Ends, empty, found, wrong, more}
use Rattle.pending.specs.Laws.{Laws, OkCell}
use Rattle.pending.proofs.Cells.{upd_cases}
use Rattle.pending.proofs.One.{begin_ok, next_ok}

-- none is not some
none_some : {X : Type 0} {x : X} → none ≡ some x → ⊥
none_some e = let z : ◌≡◌ {A = ℕ} 0 1 = cc in omega arith

-- a good cell has a good distance
ok_dist : {K : Type 0} (ok : K → Type 0) (c : Cell K) {d : K} → OkCell ok c → dist_of c ≡ some d → ok d
ok_dist ok out o e = absurd (none_some e)
ok_dist ok (has x p b) {d} o e = let q : x ≡ d = cc in subst ok q o

module _ {K C : Type 0} (S : Setting K C) {ok : K → Type 0} (L : Laws S ok) (Arc : ℕ → ℕ → C → Type 0) where
  -- from any moment
  ends_good : {s : ℕ → Cell K} {n : ℕ} {e : End K} → ((v : ℕ) → OkCell ok (s v)) → Ends S Arc s n e → (v : ℕ) {d : K} → e.dist v ≡ some d → ok d
  ends_good {s} oks (empty f) v q = ok_dist ok (s v) (oks v) q
  ends_good {s} oks (found u d p t g) v q = ok_dist ok (s v) (oks v) q
  ends_good oks (wrong u d p t g x c a b) v q = absurd (none_some q)
  ends_good oks (more w r) v q = ends_good (next_ok S L Arc oks w) r v q

  -- every distance is a good key
  pub good_dist : {e : End K} → Ends S Arc (begin S) 0 e → (v : ℕ) {d : K} → e.dist v ≡ some d → ok d
  good_dist r v q = ends_good (begin_ok S L) r v q

module _ {K C : Type 0} (S : Setting K C) (Arc : ℕ → ℕ → C → Type 0) where
  -- every predecessor is the tail of an arc
  abbrev Tails : (ℕ → Cell K) → Type 0
  Tails s = (v u : ℕ) → pred_of (s v) ≡ some u → (c : C) × Arc u v c

  -- at the start there is none
  begin_tails : Tails (begin S)
  unfolding begin
  begin_tails v u e = go (upd_cases (λ w. out) S.source (has S.zero none true) v _ refl)
    where
      at : Cell K
      at = upd (λ w. out) S.source (has S.zero none true) v

      go : ((v ≡ S.source) × (has S.zero none true ≡ at)) ⊎ ((v ≡ S.source → ⊥) × (out ≡ at)) → (c : C) × Arc u v c
      go (inl i) = absurd (none_some (ap pred_of i.1 ∙ e))
      go (inr i) = absurd (none_some (ap pred_of i.1 ∙ e))

  -- a turn keeps it
  next_tails : {s t : ℕ → Cell K} → Tails s → Next S Arc s t → Tails t
  next_tails {s} {t} h w v u e = go (w.turned v)
    where
      old : ((v ≡ w.u) × (has w.d w.p false ≡ t v)) ⊎ ((v ≡ w.u → ⊥) × (s v ≡ t v)) → (c : C) × Arc u v c
      old (inl i) = h v u (ap (λ (z : ℕ). pred_of (s z)) i.0 ∙ ap pred_of w.taken.held ∙ ap pred_of i.1 ∙ e)
      old (inr i) = h v u (ap pred_of i.1 ∙ e)

      go : NewCell S (Arc w.u v) w.u w.d (upd s w.u (has w.d w.p false) v) (t v) → (c : C) × Arc u v c
      go (stays f i) = old (upd_cases s w.u (has w.d w.p false) v (t v) (sym i))
      go (stores c a k b m i) = let j : some w.u ≡ some u = sym (ap pred_of i) ∙ e in let q : w.u ≡ u = cc in (c, subst (λ (z : ℕ). Arc z v c) q a)

  -- from any moment
  ends_tails : {s : ℕ → Cell K} {n : ℕ} {e : End K} → Tails s → Ends S Arc s n e → (v u : ℕ) → e.pred v ≡ some u → (c : C) × Arc u v c
  ends_tails h (empty f) v u q = h v u q
  ends_tails h (found x d p t g) v u q = h v u q
  ends_tails h (wrong x d p t g y c a b) v u q = absurd (none_some q)
  ends_tails h (more w r) v u q = ends_tails (next_tails h w) r v u q

  -- every predecessor is the tail of an arc to its index
  pub pred_arc : {e : End K} → Ends S Arc (begin S) 0 e → (v u : ℕ) → e.pred v ≡ some u → (c : C) × Arc u v c
  pred_arc r v u q = ends_tails begin_tails r v u q
