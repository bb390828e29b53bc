-- A row of arcs, looked at arc by arc in any order and however often each stands in it, as code does, comes to the turn that has no order.
-- One arc more to an index: what stands there is the least of what was there and the totals so far, so the new total takes its place exactly if it is strictly
-- smaller than all of them, and then it is the least of them all. A row is one arc after another.
use mathlib.Core.Path.{◌≡◌, refl, sym, ap, ◌∙◌, subst}
use mathlib.Core.Bool.{Bool, true, false, true≢false}
use mathlib.Core.Logic.{◌⊎◌, inl, inr}
use mathlib.Core.List.Memᴰ
use mathlib.Core.List.{List, [], ◌∷◌, Memᴰ}
use mathlib.Core.Option.{some}
use Prim.Native.Nat.{ℕ}
use lib.Dec.{eqb}
use borrow.Author.Tests.{eqb-true, eqb-false}
use Rattle.whole.proofs.Cases.{clash}
use Rattle.bag.specs.Order.{pick}
use Rattle.bag.proofs.Order.{self, below_below}
use Rattle.pending.specs.Setting.{upd, Setting}
use Rattle.pending.specs.Literal.{better}
use Rattle.pending.specs.OnePlace.{Cell, out, has, dist_of, NewCell, stays, stores, Turned}
use Rattle.pending.specs.Laws.{Laws, OkCell}
use Rattle.pending.proofs.Cells.{upd_id}

-- the costs of A, and c₀ to v₀
abbrev pub Also : {C : Type 0} → (ℕ → C → Type 0) → ℕ → C → ℕ → C → Type 0
Also A v₀ c₀ v c = A v c ⊎ ((v ≡ v₀) × (c ≡ c₀))

module _ {K C : Type 0} (S : Setting K C) where
  -- one index, to which an arc with the total n leads
  abbrev pub look_cell : ℕ → K → Cell K → Cell K
  look_cell u n old = pick (S.cut n) old (pick (better S n (dist_of old)) (has n (some u) true) old)

  -- one arc
  abbrev pub look_at : ℕ → K → ℕ → C → (ℕ → Cell K) → ℕ → Cell K
  look_at u d v c s = upd s v (look_cell u (S.plus d c) (s v))

  -- a row
  unfoldable pub row_cells : ℕ → K → List (ℕ × C) → (ℕ → Cell K) → ℕ → Cell K
  row_cells u d [] s = s
  row_cells u d (a ∷ l) s = row_cells u d l (look_at u d a.0 a.1 s)

  -- only which costs there are matters
  pub new_map : {A B : C → Type 0} {u : ℕ} {d : K} {old new : Cell K} → ((c : C) → A c → B c) → ((c : C) → B c → A c) → NewCell S A u d old new → NewCell S B u d old new
  new_map f g (stays h e) = stays (λ c b. h c (g c b)) e
  new_map f g (stores c a k b m e) = stores c (f c a) k b (λ b' i. m b' (g b' i)) e

  module _ {ok : K → Type 0} (L : Laws S ok) (u : ℕ) (d : K) (d_ok : ok d) where
    -- ---- one index
    module _ (A : C → Type 0) (c₀ : C) (good : (c : C) → A c → S.bad c ≡ false) (fine : S.bad c₀ ≡ false) where
      -- one arc more to it
      one_more : {old new : Cell K} → OkCell ok old → NewCell S A u d old new → NewCell S (λ c. A c ⊎ (c ≡ c₀)) u d old (look_cell u (S.plus d c₀) new)
      one_more {old} {new} o w = by (S.cut n₀) refl w
        where
          n₀ : K
          n₀ = S.plus d c₀

          n₀_ok : ok (S.plus d c₀)
          n₀_ok = L.plus_ok d c₀ d_ok fine

          sum_ok : (c : C) → A c → ok (S.plus d c)
          sum_ok c a = L.plus_ok d c d_ok (good c a)

          -- a total that does not better old is not below one that does
          worse : (x : K) (n : K) (m : K) → ok x → ok n → ok m → S.lt n x ≡ false → S.lt m x ≡ true → S.lt n m ≡ false
          worse x n m a b c e f = L.order.neg n x m b a c e (L.order.asym m x c a f)

          not_below : (c : Cell K) → OkCell ok c → (n m : K) → ok n → ok m → better S n (dist_of c) ≡ false → better S m (dist_of c) ≡ true → S.lt n m ≡ false
          not_below out i n m a b e f = absurd (true≢false e)
          not_below (has x p q) i n m a b e f = worse x n m i a b e f

          -- what is below a total that betters old betters it too
          yet_better : (c : Cell K) → OkCell ok c → (n m : K) → ok n → ok m → S.lt n m ≡ true → better S m (dist_of c) ≡ true → better S n (dist_of c) ≡ true
          yet_better out i n m a b e f = refl
          yet_better (has x p q) i n m a b e f = below_below L.order n m x a b i e f

          -- c₀ is cut, or does not better what is there: nothing changes
          skip : S.cut (S.plus d c₀) ≡ true → NewCell S A u d old new → NewCell S (λ c. A c ⊎ (c ≡ c₀)) u d old new
          skip k (stays f e) = stays (λ c i h. elim i [ inl a ↦ f c a h | inr q ↦ absurd (clash k (ap (λ (z : C). S.cut (S.plus d z)) (sym q) ∙ h)) ]) e
          skip k (stores c a h b m e) = stores c (inl a) h b (λ b' i h'. elim i [ inl a' ↦ m b' a' h' | inr q ↦ absurd (clash k (ap (λ (z : C). S.cut (S.plus d z)) (sym q) ∙ h')) ]) e

          try : S.cut (S.plus d c₀) ≡ false → NewCell S A u d old new → (t : Bool) → better S (S.plus d c₀) (dist_of new) ≡ t
              → NewCell S (λ c. A c ⊎ (c ≡ c₀)) u d old (pick t (has (S.plus d c₀) (some u) true) new)
          try k (stays f e) false b =
              stays (λ c i h. elim i [ inl a ↦ f c a h | inr q ↦ ap (λ (z : C). better S (S.plus d z) (dist_of old)) q ∙ ap (λ (z : Cell K). better S (S.plus d c₀) (dist_of z)) (sym e) ∙ b ]) e
          try k (stays f e) true b =
              let b' : better S (S.plus d c₀) (dist_of old) ≡ true = ap (λ (z : Cell K). better S (S.plus d c₀) (dist_of z)) (sym e) ∙ b in
              stores c₀ (inr refl) k b' (λ c i h.
              elim i [
                | inl a ↦ not_below old o (S.plus d c) (S.plus d c₀) (sum_ok c a) n₀_ok (f c a h) b'
                | inr q ↦ ap (λ (z : C). S.lt (S.plus d z) (S.plus d c₀)) q ∙ self L.order (S.plus d c₀) n₀_ok
              ]) refl
          try k (stores c a h g m e) false b =
              let b' : S.lt (S.plus d c₀) (S.plus d c) ≡ false = ap (λ (z : Cell K). better S (S.plus d c₀) (dist_of z)) (sym e) ∙ b in
              stores c (inl a) h g (λ c' i h'. elim i [ inl a' ↦ m c' a' h' | inr q ↦ ap (λ (z : C). S.lt (S.plus d z) (S.plus d c)) q ∙ b' ]) e
          try k (stores c a h g m e) true b =
              let b' : S.lt (S.plus d c₀) (S.plus d c) ≡ true = ap (λ (z : Cell K). better S (S.plus d c₀) (dist_of z)) (sym e) ∙ b in
              stores c₀ (inr refl) k (yet_better old o (S.plus d c₀) (S.plus d c) n₀_ok (sum_ok c a) b' g)
              (λ c' i h'. elim i [
                | inl a' ↦ worse (S.plus d c) (S.plus d c') (S.plus d c₀) (sum_ok c a) (sum_ok c' a') n₀_ok (m c' a' h') b'
                | inr q ↦ ap (λ (z : C). S.lt (S.plus d z) (S.plus d c₀)) q ∙ self L.order (S.plus d c₀) n₀_ok
              ])
              refl

          by : (t : Bool) → S.cut (S.plus d c₀) ≡ t → NewCell S A u d old new
              → NewCell S (λ c. A c ⊎ (c ≡ c₀)) u d old (pick t new (pick (better S (S.plus d c₀) (dist_of new)) (has (S.plus d c₀) (some u) true) new))
          by true k w = skip k w
          by false k w = try k w (better S (S.plus d c₀) (dist_of new)) refl

    -- ---- one more arc: the step of a loop over a row
    pub look_turned : (A : ℕ → C → Type 0) (v₀ : ℕ) (c₀ : C) {s t : ℕ → Cell K} → ((v : ℕ) (c : C) → A v c → S.bad c ≡ false) → S.bad c₀ ≡ false → ((v : ℕ) → OkCell ok (s v))
        → Turned S A u d s t → Turned S (Also A v₀ c₀) u d s (look_at u d v₀ c₀ t)
    look_turned A v₀ c₀ {s} {t} good fine oks w v = go (eqb v v₀) (eqb-true v v₀) (eqb-false v v₀)
      where
        there : v ≡ v₀ → NewCell S (Also A v₀ c₀ v) u d (s v) (look_cell u (S.plus d c₀) (t v₀))
        there e =
            subst (λ (x : ℕ). NewCell S (Also A v₀ c₀ v) u d (s v) (look_cell u (S.plus d c₀) (t x))) e
            (new_map (λ c i. elim i [ inl a ↦ inl a | inr q ↦ inr (e, q) ]) (λ c i. elim i [ inl a ↦ inl a | inr q ↦ inr q.1 ]) (one_more (A v) c₀ (good v) fine (oks v) (w v)))

        go : (b : Bool) → (b ≡ true → v ≡ v₀) → (b ≡ false → v ≡ v₀ → ⊥) → NewCell S (Also A v₀ c₀ v) u d (s v) (pick b (look_cell u (S.plus d c₀) (t v₀)) (t v))
        go true f g = there (f refl)
        go false f g = new_map (λ c a. inl a) (λ c i. elim i [ inl a ↦ a | inr q ↦ absurd (g refl q.0) ]) (w v)

    -- a row after the arcs of A
    rows : (A : ℕ → C → Type 0) (l : List (ℕ × C)) {s t : ℕ → Cell K} → ((v : ℕ) (c : C) → A v c → S.bad c ≡ false) → ((v : ℕ) (c : C) → Memᴰ (v, c) l → S.bad c ≡ false)
        → ((v : ℕ) → OkCell ok (s v))
        → Turned S A u d s t → Turned S (λ v c. A v c ⊎ Memᴰ (v, c) l) u d s (row_cells u d l t)
    unfolding row_cells
    rows A [] good fine oks w v = new_map (λ c a. inl a) (λ c i. elim i [ inl a ↦ a | inr m ↦ absurd (Memᴰ.not-nil m) ]) (w v)
    rows A (a ∷ l) {s} {t} good fine oks w v =
        new_map (λ c i. elim i [ inl j ↦ elim j [ inl b ↦ inl b | inr q ↦ inr (Memᴰ.head (λ k. (q.0 k, q.1 k))) ] | inr m ↦ inr (Memᴰ.tail m) ]) (λ c i. split c i)
        (rows (Also A a.0 a.1) l bad_free (λ x c m. fine x c (Memᴰ.tail m)) oks (look_turned A a.0 a.1 good a_fine oks w) v)
      where
        a_fine : S.bad a.1 ≡ false
        a_fine = fine a.0 a.1 (Memᴰ.head refl)

        bad_free : (x : ℕ) (c : C) → Also A a.0 a.1 x c → S.bad c ≡ false
        bad_free x c (inl b) = good x c b
        bad_free x c (inr q) = ap S.bad q.1 ∙ a_fine

        cases : (c : C) → ((v, c) ≡ a) ⊎ Memᴰ (v, c) l → Also A a.0 a.1 v c ⊎ Memᴰ (v, c) l
        cases c (inl e) = inl (inr (ap (λ z. z.0) e, ap (λ z. z.1) e))
        cases c (inr m) = inr m

        split : (c : C) → A v c ⊎ Memᴰ (v, c) (a ∷ l) → Also A a.0 a.1 v c ⊎ Memᴰ (v, c) l
        split c (inl b) = inl (inl b)
        split c (inr m) = cases c (Memᴰ.cases_cons m)

    -- ---- a row whose arcs are those of A, in any order and however often each: the turn
    pub row_turned : (A : ℕ → C → Type 0) (l : List (ℕ × C)) (s : ℕ → Cell K) → ((v : ℕ) (c : C) → A v c → Memᴰ (v, c) l) → ((v : ℕ) (c : C) → Memᴰ (v, c) l → A v c)
        → ((v : ℕ) (c : C) → A v c → S.bad c ≡ false) → ((v : ℕ) → OkCell ok (s v)) → Turned S A u d s (row_cells u d l s)
    row_turned A l s to from good oks v = new_map (into v) (λ c a. inr (to v c a)) (rows (λ x c. ⊥) l (λ x c z. absurd z) (λ x c m. good x c (from x c m)) oks (λ x. stays (λ c z. absurd z) refl) v)
      where
        into : (x : ℕ) (c : C) → ⊥ ⊎ Memᴰ (x, c) l → A x c
        into x c (inl z) = absurd z
        into x c (inr m) = from x c m

-- ---- one arc, by the branches of the code
module _ {K C : Type 0} (S : Setting K C) (u : ℕ) (d : K) (v : ℕ) (c : C) (s : ℕ → Cell K) where
  -- past the cutoff: nothing
  pub look_cut : S.cut (S.plus d c) ≡ true → look_at S u d v c s ≡ s
  look_cut e = ap (λ (t : Bool). upd s v (pick t (s v) (pick (better S (S.plus d c) (dist_of (s v))) (has (S.plus d c) (some u) true) (s v)))) e ∙ upd_id s v

  -- no smaller: nothing
  pub look_worse : S.cut (S.plus d c) ≡ false → better S (S.plus d c) (dist_of (s v)) ≡ false → look_at S u d v c s ≡ s
  look_worse e f =
      ap (λ (t : Bool). upd s v (pick t (s v) (pick (better S (S.plus d c) (dist_of (s v))) (has (S.plus d c) (some u) true) (s v)))) e
      ∙ ap (λ (t : Bool). upd s v (pick t (has (S.plus d c) (some u) true) (s v))) f ∙ upd_id s v

  -- a store
  pub look_store : S.cut (S.plus d c) ≡ false → better S (S.plus d c) (dist_of (s v)) ≡ true → look_at S u d v c s ≡ upd s v (has (S.plus d c) (some u) true)
  look_store e f =
      ap (λ (t : Bool). upd s v (pick t (s v) (pick (better S (S.plus d c) (dist_of (s v))) (has (S.plus d c) (some u) true) (s v)))) e
      ∙ ap (λ (t : Bool). upd s v (pick t (has (S.plus d c) (some u) true) (s v))) f
