-- Where the key is the distance and no total is below the distance it came from, what is taken is settled: no index is taken twice, what it has never changes again,
-- and keys come out in rising order. For what is taken is the least that is pending, and every total stored from it is no smaller: so no pending distance is ever below
-- one that was taken, and none can be bettered. Over any kind of key, with or without a cutoff and a target.
use mathlib.Core.Path.{◌≡◌, sym, ap, ◌∙◌, subst}
use mathlib.Core.Bool.{true, false}
use mathlib.Core.Logic.{◌⊎◌, inl, inr}
use mathlib.Core.List.{List, [], ◌∷◌}
use mathlib.Core.Option.{Option, none, some}
use Prim.Native.Nat.{ℕ}
use Rattle.whole.proofs.Cases.{clash}
use Rattle.bag.proofs.Order.{self, not_before}
use Rattle.walks.specs.Pigeon.{In, here, there, NoDup}
use Rattle.pending.specs.Setting.{upd, Setting}
use Rattle.pending.specs.Literal.{better}
use Rattle.pending.specs.OnePlace.{Cell, out, has, dist_of, begin, Takes, NewCell, stays, stores, Next}
use Rattle.pending.specs.Laws.{Laws, OkCell}
use Rattle.pending.proofs.Cells.{upd_cases, upd_here, upd_there, not_out, not_pending}
use Rattle.pending.proofs.One.{cell_ok, begin_ok, next_ok}

module _ {K C : Type 0} (S : Setting K C) {ok : K → Type 0} (L : Laws S ok) (plain : (d : K) (v : ℕ) → S.key d v ≡ d)
    (grows : (d : K) (c : C) → ok d → S.bad c ≡ false → S.lt (S.plus d c) d ≡ false) (Arc : ℕ → ℕ → C → Type 0) where
  -- l lists the indices that were taken, the last one first; no pending distance is below one of theirs
  pub record Settled (s : ℕ → Cell K) (l : List ℕ) : Type 0 where
    pub oks : (v : ℕ) → OkCell ok (s v)
    pub order : (v : ℕ) (x : K) (p : Option ℕ) → s v ≡ has x p false → (w : ℕ) (y : K) (q : Option ℕ) → s w ≡ has y q true → S.lt y x ≡ false
    pub listed : (v : ℕ) (x : K) (p : Option ℕ) → s v ≡ has x p false → In v l
    pub only : (v : ℕ) → In v l → (x : K) × (p : Option ℕ) × (s v ≡ has x p false)
    pub distinct : NoDup l

  -- at the start none is taken
  pub begin_settled : Settled (begin S) []
  unfolding begin
  begin_settled = record { oks = begin_ok S L; order = λ v x p e. absurd (none_taken v x p e); listed = λ v x p e. absurd (none_taken v x p e); only = λ v. elim [ ]; distinct = tt }
    where
      none_taken : (v : ℕ) (x : K) (p : Option ℕ) → upd (λ w. out) S.source (has S.zero none true) v ≡ has x p false → ⊥
      none_taken v x p e = elim (upd_cases (λ w. out) S.source (has S.zero none true) v (has x p false) e) [ inl h ↦ not_pending h.1 | inr h ↦ not_out h.1 ]

  module _ {s t : ℕ → Cell K} {l : List ℕ} (h : Settled s l) (w : Next S Arc s t) where
    -- the key taken is good
    d_ok : ok w.d
    d_ok = cell_ok ok w.taken.held (h.oks w.u)

    -- pending ones are not below d, taken ones not above
    low : (v : ℕ) (x : K) (q : Option ℕ) → s v ≡ has x q true → S.lt x w.d ≡ false
    low v x q e =
        let n = (not_before L.order (S.key x v) v (S.key w.d w.u) w.u (w.taken.least v x q e)).0 in
        ap (λ (z : K). S.lt z w.d) (sym (plain x v)) ∙ ap (S.lt (S.key x v)) (sym (plain w.d w.u)) ∙ n

    -- taken ones are not above d
    under : (v : ℕ) (x : K) (q : Option ℕ) → upd s w.u (has w.d w.p false) v ≡ has x q false → ok x × (S.lt w.d x ≡ false)
    under v x q e = go (upd_cases s w.u (has w.d w.p false) v (has x q false) e)
      where
        go : ((v ≡ w.u) × (has w.d w.p false ≡ has x q false)) ⊎ ((v ≡ w.u → ⊥) × (s v ≡ has x q false)) → ok x × (S.lt w.d x ≡ false)
        go (inl i) = let j : w.d ≡ x = (let k = i.1 in cc) in (subst ok j d_ok, ap (S.lt w.d) (sym j) ∙ self L.order w.d d_ok)
        go (inr i) = (cell_ok ok i.1 (h.oks v), h.order v x q i.1 w.u w.d w.p w.taken.held)

    -- what is settled stays
    pub stays_settled : (v : ℕ) (x : K) (q : Option ℕ) → upd s w.u (has w.d w.p false) v ≡ has x q false → t v ≡ has x q false
    stays_settled v x q e = go (w.turned v)
      where
        go : NewCell S (Arc w.u v) w.u w.d (upd s w.u (has w.d w.p false) v) (t v) → t v ≡ has x q false
        go (stays f i) = i ∙ e
        go (stores c a k b m i) =
            let o = under v x q e in
            let g = w.good v c a in
            let n : S.lt (S.plus w.d c) x ≡ false = L.order.neg (S.plus w.d c) w.d x (L.plus_ok w.d c d_ok g) d_ok o.0 (grows w.d c d_ok g) o.1 in
            absurd (clash (ap (λ (z : Cell K). better S (S.plus w.d c) (dist_of z)) (sym e) ∙ b) n)

    -- what is settled after a turn was before, or was taken
    came_settled : (v : ℕ) (x : K) (q : Option ℕ) → t v ≡ has x q false → upd s w.u (has w.d w.p false) v ≡ has x q false
    came_settled v x q e = go (w.turned v)
      where
        go : NewCell S (Arc w.u v) w.u w.d (upd s w.u (has w.d w.p false) v) (t v) → upd s w.u (has w.d w.p false) v ≡ has x q false
        go (stays f i) = sym i ∙ e
        go (stores c a k b m i) = absurd (not_pending (sym i ∙ e))

    -- what is pending after a turn is not below d
    pending_high : (v : ℕ) (x : K) (q : Option ℕ) → t v ≡ has x q true → ok x × (S.lt x w.d ≡ false)
    pending_high v x q e = go (w.turned v)
      where
        old : ((v ≡ w.u) × (has w.d w.p false ≡ has x q true)) ⊎ ((v ≡ w.u → ⊥) × (s v ≡ has x q true)) → ok x × (S.lt x w.d ≡ false)
        old (inl i) = absurd (not_pending (sym i.1))
        old (inr i) = (cell_ok ok i.1 (h.oks v), low v x q i.1)

        go : NewCell S (Arc w.u v) w.u w.d (upd s w.u (has w.d w.p false) v) (t v) → ok x × (S.lt x w.d ≡ false)
        go (stays f i) = old (upd_cases s w.u (has w.d w.p false) v (has x q true) (sym i ∙ e))
        go (stores c a k b m i) =
            let f : has (S.plus w.d c) (some w.u) true ≡ has x q true = sym i ∙ e in
            let j : S.plus w.d c ≡ x = cc in
            (subst ok j (L.plus_ok w.d c d_ok (w.good v c a)), ap (λ (z : K). S.lt z w.d) (sym j) ∙ grows w.d c d_ok (w.good v c a))

    -- keys come out in rising order: what is taken after this turn is not below what was taken in it
    pub keys_rise : (u : ℕ) (x : K) (q : Option ℕ) → Takes S t u x q → S.lt x w.d ≡ false
    keys_rise u x q k = (pending_high u x q k.held).1

    -- the index taken is settled in turn, and was not before
    pub next_settled : Settled t (w.u ∷ l)
    next_settled = record {
      oks = next_ok S L Arc h.oks w;
      order = λ v x p e y z q f. let a = under v x p (came_settled v x p e) in let b = pending_high y z q f in L.order.neg z w.d x b.0 d_ok a.0 b.1 a.1;
      listed = λ v x p e. is_in v x p (upd_cases s w.u (has w.d w.p false) v (has x p false) (came_settled v x p e));
      only = is_settled;
      distinct = (λ i. let k = h.only w.u i in not_pending (sym w.taken.held ∙ k.2), h.distinct);
    }
      where
        is_in : (v : ℕ) (x : K) (p : Option ℕ) → ((v ≡ w.u) × (has w.d w.p false ≡ has x p false)) ⊎ ((v ≡ w.u → ⊥) × (s v ≡ has x p false)) → In v (w.u ∷ l)
        is_in v x p (inl i) = here i.0
        is_in v x p (inr i) = there (h.listed v x p i.1)

        is_settled : (v : ℕ) → In v (w.u ∷ l) → (x : K) × (p : Option ℕ) × (t v ≡ has x p false)
        is_settled v (here e) = (w.d, w.p, stays_settled v w.d w.p (ap (upd s w.u (has w.d w.p false)) e ∙ upd_here s w.u (has w.d w.p false)))
        is_settled v (there i) =
            let k = h.only v i in (k.0, k.1, stays_settled v k.0 k.1 (upd_there s w.u (has w.d w.p false) v (λ e. not_pending (sym w.taken.held ∙ ap s (sym e) ∙ k.2)) ∙ k.2))
