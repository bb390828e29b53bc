-- For an engine: its bag's content beside the cells of the search. The least pair of the content is the one that the search takes; taking it out and storing a new
-- key keep the two in step; and whatever the search ends in from where a loop stands, the search from the start ends in.
use mathlib.Core.Path.{◌≡◌, sym, ap, ◌∙◌, subst}
use mathlib.Core.Bool.{true, false}
use mathlib.Core.Logic.{◌⊎◌, inl, inr}
use mathlib.Core.Option.{Option, none, some}
use Prim.Native.Nat.{ℕ, suc}
use native.Mathlib.Omega.{arith}
use Rattle.bag.specs.Order.{before}
use Rattle.pending.specs.Setting.{upd, Setting}
use Rattle.pending.specs.OnePlace.{Cell, out, has, begin, Takes, Next, more}
use Rattle.pending.specs.Content.{Holds, Leads}
use Rattle.pending.proofs.Cells.{upd_cases, upd_here, upd_there, not_out, not_pending}

-- none is not some
not_none : {X : Type 0} {x : X} → ◌≡◌ {A = Option X} none (some x) → ⊥
not_none e = let z : ◌≡◌ {A = ℕ} 0 1 = cc in omega arith

module _ {K C : Type 0} (S : Setting K C) where
  -- at the start the source's key alone
  pub begin_holds : Holds S (upd (λ v. none) S.source (some (S.key S.zero S.source))) (begin S)
  unfolding begin
  begin_holds = record {
    pending = λ v d p e. p_go v d p (upd_cases (λ w. out) S.source (has S.zero none true) v (has d p true) e);
    held = λ v k e. h_go v k (upd_cases (λ w. none) S.source (some (S.key S.zero S.source)) v (some k) e);
  }
    where
      p_go : (v : ℕ) (d : K) (p : Option ℕ) → ((v ≡ S.source) × (has S.zero none true ≡ has d p true)) ⊎ ((v ≡ S.source → ⊥) × (out ≡ has d p true))
          → upd (λ w. none) S.source (some (S.key S.zero S.source)) v ≡ some (S.key d v)
      p_go v d p (inl i) =
          let q = i.1 in
          let z : S.zero ≡ d = cc in
          ap (upd (λ w. none) S.source (some (S.key S.zero S.source))) i.0 ∙ upd_here (λ w. none) S.source (some (S.key S.zero S.source))
          ∙ (λ j. some (S.key (z j) (sym i.0 j)))
      p_go v d p (inr i) = absurd (not_out i.1)

      h_go : (v : ℕ) (k : K) → ((v ≡ S.source) × (some (S.key S.zero S.source) ≡ some k)) ⊎ ((v ≡ S.source → ⊥) × (none ≡ some k))
          → (d : K) × (p : Option ℕ) × (upd (λ w. out) S.source (has S.zero none true) v ≡ has d p true) × (k ≡ S.key d v)
      h_go v k (inl i) =
          let q = i.1 in
          let z : k ≡ S.key S.zero S.source = cc in
          (S.zero, none, ap (upd (λ w. out) S.source (has S.zero none true)) i.0 ∙ upd_here (λ w. out) S.source (has S.zero none true), z ∙ ap (S.key S.zero) (sym i.0))
      h_go v k (inr i) = absurd (not_none i.1)

  module _ {content : ℕ → Option K} {s : ℕ → Cell K} (h : Holds S content s) where
    -- the least pair of the content is the one that the search takes
    pub holds_takes : (u : ℕ) (k : K) → content u ≡ some k → ((v : ℕ) (j : K) → content v ≡ some j → before S.lt j v k u ≡ false) → (d : K) × (p : Option ℕ) × Takes S s u d p × (k ≡ S.key d u)
    holds_takes u k e low =
        let x = h.held u k e in
        (x.0, x.1, record { held = x.2; least = λ v y q i. subst (λ (z : K). before S.lt (S.key y v) v z u ≡ false) x.3 (low v (S.key y v) (h.pending v y q i)) }, x.3)

    -- an empty content: nothing is pending
    pub holds_empty : ((v : ℕ) → content v ≡ none) → (v : ℕ) (d : K) (p : Option ℕ) → s v ≡ has d p true → ⊥
    holds_empty f v d p e = not_none (sym (f v) ∙ h.pending v d p e)

    -- u taken out
    pub holds_pop : (u : ℕ) (d : K) (p : Option ℕ) → Holds S (upd content u none) (upd s u (has d p false))
    holds_pop u d p = record { pending = λ v x q e. p_go v x q (upd_cases s u (has d p false) v (has x q true) e); held = λ v k e. h_go v k (upd_cases content u none v (some k) e) }
      where
        p_go : (v : ℕ) (x : K) (q : Option ℕ) → ((v ≡ u) × (has d p false ≡ has x q true)) ⊎ ((v ≡ u → ⊥) × (s v ≡ has x q true)) → upd content u none v ≡ some (S.key x v)
        p_go v x q (inl i) = absurd (not_pending (sym i.1))
        p_go v x q (inr i) = upd_there content u none v i.0 ∙ h.pending v x q i.1

        h_go : (v : ℕ) (k : K) → ((v ≡ u) × (none ≡ some k)) ⊎ ((v ≡ u → ⊥) × (content v ≡ some k)) → (x : K) × (q : Option ℕ) × (upd s u (has d p false) v ≡ has x q true) × (k ≡ S.key x v)
        h_go v k (inl i) = absurd (not_none i.1)
        h_go v k (inr i) = let y = h.held v k i.1 in (y.0, y.1, upd_there s u (has d p false) v i.0 ∙ y.2, y.3)

    -- n stored at v, by u
    pub holds_store : (v : ℕ) (n : K) (p : Option ℕ) → Holds S (upd content v (some (S.key n v))) (upd s v (has n p true))
    holds_store v n p = record { pending = λ w x q e. p_go w x q (upd_cases s v (has n p true) w (has x q true) e); held = λ w k e. h_go w k (upd_cases content v (some (S.key n v)) w (some k) e) }
      where
        p_go : (w : ℕ) (x : K) (q : Option ℕ) → ((w ≡ v) × (has n p true ≡ has x q true)) ⊎ ((w ≡ v → ⊥) × (s w ≡ has x q true)) → upd content v (some (S.key n v)) w ≡ some (S.key x w)
        p_go w x q (inl i) = let j = i.1 in let z : n ≡ x = cc in ap (upd content v (some (S.key n v))) i.0 ∙ upd_here content v (some (S.key n v)) ∙ (λ l. some (S.key (z l) (sym i.0 l)))
        p_go w x q (inr i) = upd_there content v (some (S.key n v)) w i.0 ∙ h.pending w x q i.1

        h_go : (w : ℕ) (k : K) → ((w ≡ v) × (some (S.key n v) ≡ some k)) ⊎ ((w ≡ v → ⊥) × (content w ≡ some k))
            → (x : K) × (q : Option ℕ) × (upd s v (has n p true) w ≡ has x q true) × (k ≡ S.key x w)
        h_go w k (inl i) = let j = i.1 in let z : k ≡ S.key n v = cc in (n, p, ap (upd s v (has n p true)) i.0 ∙ upd_here s v (has n p true), z ∙ ap (S.key n) (sym i.0))
        h_go w k (inr i) = let y = h.held w k i.1 in (y.0, y.1, upd_there s v (has n p true) w i.0 ∙ y.2, y.3)

  -- ---- the invariant of a loop over the bag
  module _ (Arc : ℕ → ℕ → C → Type 0) where
    -- it holds at the start, a turn keeps it, and at a `return` an end of the state reached is the search's
    pub leads_begin : Leads S Arc (begin S) 0
    leads_begin = record { to = λ e r. r }

    -- a turn keeps it
    pub leads_next : {s t : ℕ → Cell K} {n : ℕ} → Leads S Arc s n → Next S Arc s t → Leads S Arc t (suc n)
    leads_next l w = record { to = λ e r. l.to e (more w r) }
