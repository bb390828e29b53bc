-- The least pair of a list and the others are what their names say.
-- The list is gone through once, the smaller of two pairs carried on: so the one left at the end is a member, stands before no other,
-- and the others are the rest of the list, each as often as before.
use mathlib.Core.Path.{◌≡◌, refl, sym, ap, ◌∙◌}
use mathlib.Core.Bool.{Bool, true, false}
use mathlib.Core.Logic.{◌⊎◌, inl, inr}
use mathlib.Core.List.Memᴰ
use mathlib.Core.List.{List, [], ◌∷◌, Memᴰ}
use Prim.Native.Nat.{suc}
use native.Mathlib.Omega.{arith}
use lib.ListN.{length}
use Rattle.bag.specs.Order.{pick}
use Rattle.bag.proofs.Order.{self, is_not_before, before_or, before_neg}
use Rattle.pending.specs.Setting.{Setting}
use Rattle.pending.specs.Literal.{Pair, first, least, others}
use Rattle.pending.specs.Laws.{Laws}

-- no member twice
abbrev pub Distinct : {X : Type 0} → List X → Type 0
Distinct [] = Unit {0}
Distinct (x ∷ l) = (Memᴰ x l → ⊥) × Distinct l

module _ {K C : Type 0} (S : Setting K C) where
  -- the least is a member
  pub least_in : (p : Pair K) (l : List (Pair K)) → Memᴰ (least S p l) (p ∷ l)
  unfolding least
  least_in p [] = Memᴰ.head refl
  least_in p (q ∷ l) = go (first S q p) (least_in (pick (first S q p) q p) l)
    where
      place : (b : Bool) (r : Pair K) → (r ≡ pick b q p) ⊎ Memᴰ r l → Memᴰ r (p ∷ q ∷ l)
      place true r (inl e) = Memᴰ.tail (Memᴰ.head e)
      place false r (inl e) = Memᴰ.head e
      place true r (inr m) = Memᴰ.tail (Memᴰ.tail m)
      place false r (inr m) = Memᴰ.tail (Memᴰ.tail m)

      go : (b : Bool) → Memᴰ (least S (pick b q p) l) (pick b q p ∷ l) → Memᴰ (least S (pick b q p) l) (p ∷ q ∷ l)
      go b m = place b (least S (pick b q p) l) (Memᴰ.cases_cons m)

  -- the others are members
  pub others_in : {r : Pair K} (p : Pair K) (l : List (Pair K)) → Memᴰ r (others S p l) → Memᴰ r (p ∷ l)
  unfolding others
  others_in p [] m = absurd (Memᴰ.not-nil m)
  others_in {r} p (q ∷ l) m = go (first S q p) (λ i. others_in (pick (first S q p) q p) l i) m
    where
      deep : (b : Bool) → (r ≡ pick b q p) ⊎ Memᴰ r l → Memᴰ r (p ∷ q ∷ l)
      deep true (inl e) = Memᴰ.tail (Memᴰ.head e)
      deep false (inl e) = Memᴰ.head e
      deep true (inr i) = Memᴰ.tail (Memᴰ.tail i)
      deep false (inr i) = Memᴰ.tail (Memᴰ.tail i)

      top : (b : Bool) → (Memᴰ r (others S (pick b q p) l) → Memᴰ r (pick b q p ∷ l)) → (r ≡ pick b p q) ⊎ Memᴰ r (others S (pick b q p) l) → Memᴰ r (p ∷ q ∷ l)
      top true f (inl e) = Memᴰ.head e
      top false f (inl e) = Memᴰ.tail (Memᴰ.head e)
      top true f (inr i) = deep true (Memᴰ.cases_cons (f i))
      top false f (inr i) = deep false (Memᴰ.cases_cons (f i))

      go : (b : Bool) → (Memᴰ r (others S (pick b q p) l) → Memᴰ r (pick b q p ∷ l)) → Memᴰ r (pick b p q ∷ others S (pick b q p) l) → Memᴰ r (p ∷ q ∷ l)
      go b f m = top b f (Memᴰ.cases_cons m)

  -- a member is the least or among the others
  pub split_in : {r : Pair K} (p : Pair K) (l : List (Pair K)) → Memᴰ r (p ∷ l) → (r ≡ least S p l) ⊎ Memᴰ r (others S p l)
  unfolding least others
  split_in p [] m = inl (alone (Memᴰ.cases_cons m))
    where
      alone : {r : Pair K} → (r ≡ p) ⊎ Memᴰ r [] → r ≡ p
      alone (inl e) = e
      alone (inr i) = absurd (Memᴰ.not-nil i)
  split_in {r} p (q ∷ l) m = go (first S q p) (λ i. split_in (pick (first S q p) q p) l i) (Memᴰ.cases_cons m)
    where
      on : (b : Bool) → (r ≡ least S (pick b q p) l) ⊎ Memᴰ r (others S (pick b q p) l) → (r ≡ least S (pick b q p) l) ⊎ Memᴰ r (pick b p q ∷ others S (pick b q p) l)
      on b (inl e) = inl e
      on b (inr i) = inr (Memᴰ.tail i)

      rest : (b : Bool) → (Memᴰ r (pick b q p ∷ l) → (r ≡ least S (pick b q p) l) ⊎ Memᴰ r (others S (pick b q p) l)) → (r ≡ q) ⊎ Memᴰ r l
          → (r ≡ least S (pick b q p) l) ⊎ Memᴰ r (pick b p q ∷ others S (pick b q p) l)
      rest true f (inl e) = on true (f (Memᴰ.head e))
      rest false f (inl e) = inr (Memᴰ.head e)
      rest true f (inr i) = on true (f (Memᴰ.tail i))
      rest false f (inr i) = on false (f (Memᴰ.tail i))

      go : (b : Bool) → (Memᴰ r (pick b q p ∷ l) → (r ≡ least S (pick b q p) l) ⊎ Memᴰ r (others S (pick b q p) l)) → (r ≡ p) ⊎ Memᴰ r (q ∷ l)
          → (r ≡ least S (pick b q p) l) ⊎ Memᴰ r (pick b p q ∷ others S (pick b q p) l)
      go true f (inl e) = inr (Memᴰ.head e)
      go false f (inl e) = on false (f (Memᴰ.head e))
      go true f (inr i) = rest true f (Memᴰ.cases_cons i)
      go false f (inr i) = rest false f (Memᴰ.cases_cons i)

  -- one fewer
  pub others_length : (p : Pair K) (l : List (Pair K)) → length (others S p l) ≡ length l
  unfolding others
  others_length p [] = refl
  others_length p (q ∷ l) = ap suc (others_length (pick (first S q p) q p) l)

  -- no pair twice, before and after
  pub others_distinct : (p : Pair K) (l : List (Pair K)) → Distinct (p ∷ l) → Distinct (least S p l ∷ others S p l)
  unfolding least others
  others_distinct p [] h = h
  others_distinct p (q ∷ l) h = go (first S q p) (others_distinct (pick (first S q p) q p) l)
    where
      p≢q : p ≡ q → ⊥
      p≢q e = h.0 (Memᴰ.head e)

      p∉l : Memᴰ p l → ⊥
      p∉l i = h.0 (Memᴰ.tail i)

      -- x is not among those of y ∷ l
      away : (x y : Pair K) → (x ≡ y → ⊥) → (Memᴰ x l → ⊥) → Memᴰ x (y ∷ l) → ⊥
      away x y f g m = elim (Memᴰ.cases_cons m) [ inl e ↦ f e | inr i ↦ g i ]

      make : (x y : Pair K) → (Memᴰ x (y ∷ l) → ⊥) → Distinct (least S y l ∷ others S y l) → Distinct (least S y l ∷ x ∷ others S y l)
      make x y f d = (λ m. elim (Memᴰ.cases_cons m) [ inl e ↦ f (Memᴰ.cast (sym e) (least_in y l)) | inr i ↦ d.0 i ], (λ i. f (others_in y l i), d.1))

      go : (b : Bool) → (Distinct (pick b q p ∷ l) → Distinct (least S (pick b q p) l ∷ others S (pick b q p) l)) → Distinct (least S (pick b q p) l ∷ pick b p q ∷ others S (pick b q p) l)
      go true f = make p q (away p q p≢q p∉l) (f h.1)
      go false f = make q p (away q p (λ e. p≢q (sym e)) h.1.0) (f (p∉l, h.1.1))

  module _ {ok : K → Type 0} (L : Laws S ok) where
    -- no member stands before the least
    pub least_low : (p : Pair K) (l : List (Pair K)) → ((r : Pair K) → Memᴰ r (p ∷ l) → ok r.at) → (r : Pair K) → Memᴰ r (p ∷ l) → first S r (least S p l) ≡ false
    unfolding least
    least_low p [] oks r m = alone (Memᴰ.cases_cons m)
      where
        own : first S p p ≡ false
        own =
            is_not_before L.order (S.key p.at p.ix) p.ix (S.key p.at p.ix) p.ix (self L.order _ (L.key_ok p.at p.ix (oks p (Memᴰ.head refl)))) (λ e. omega arith)

        alone : (r ≡ p) ⊎ Memᴰ r [] → first S r p ≡ false
        alone (inl e) = ap (λ (z : Pair K). first S z p) e ∙ own
        alone (inr i) = absurd (Memᴰ.not-nil i)
    least_low p (q ∷ l) oks r m = go (first S q p) refl (least_low (pick (first S q p) q p) l) (Memᴰ.cases_cons m)
      where
        p_ok : ok p.at
        p_ok = oks p (Memᴰ.head refl)

        q_ok : ok q.at
        q_ok = oks q (Memᴰ.tail (Memᴰ.head refl))

        deep : (b : Bool) (x : Pair K) → (x ≡ pick b q p) ⊎ Memᴰ x l → Memᴰ x (p ∷ q ∷ l)
        deep true x (inl e) = Memᴰ.tail (Memᴰ.head e)
        deep false x (inl e) = Memᴰ.head e
        deep true x (inr i) = Memᴰ.tail (Memᴰ.tail i)
        deep false x (inr i) = Memᴰ.tail (Memᴰ.tail i)

        fine : (b : Bool) (x : Pair K) → Memᴰ x (pick b q p ∷ l) → ok x.at
        fine b x i = oks x (deep b x (Memᴰ.cases_cons i))

        neg : (x y z : Pair K) → ok x.at → ok y.at → ok z.at → first S x y ≡ false → first S y z ≡ false → first S x z ≡ false
        neg x y z a b c e f = before_neg L.order _ x.ix _ y.ix _ z.ix (L.key_ok x.at x.ix a) (L.key_ok y.at y.ix b) (L.key_ok z.at z.ix c) e f

        turn : (x y : Pair K) → ok x.at → ok y.at → first S x y ≡ true → first S y x ≡ false
        turn x y a b e = before_or L.order _ x.ix _ y.ix (L.key_ok x.at x.ix a) (L.key_ok y.at y.ix b) e

        least_ok : (b : Bool) → ok (least S (pick b q p) l).at
        least_ok b = fine b (least S (pick b q p) l) (least_in (pick b q p) l)

        low : (b : Bool) → ((r : Pair K) → Memᴰ r (pick b q p ∷ l) → first S r (least S (pick b q p) l) ≡ false) → first S q p ≡ b → (x : Pair K) → (x ≡ p) ⊎ ((x ≡ q) ⊎ Memᴰ x l)
            → first S x (least S (pick b q p) l) ≡ false
        low true f e x (inl i) = ap (λ (z : Pair K). first S z (least S q l)) i ∙ neg p q (least S q l) p_ok q_ok (least_ok true) (turn q p q_ok p_ok e) (f q (Memᴰ.head refl))
        low false f e x (inl i) = f x (Memᴰ.head i)
        low true f e x (inr (inl i)) = f x (Memᴰ.head i)
        low false f e x (inr (inl i)) = ap (λ (z : Pair K). first S z (least S p l)) i ∙ neg q p (least S p l) q_ok p_ok (least_ok false) e (f p (Memᴰ.head refl))
        low true f e x (inr (inr i)) = f x (Memᴰ.tail i)
        low false f e x (inr (inr i)) = f x (Memᴰ.tail i)

        spread : (r ≡ p) ⊎ Memᴰ r (q ∷ l) → (r ≡ p) ⊎ ((r ≡ q) ⊎ Memᴰ r l)
        spread (inl e) = inl e
        spread (inr i) = inr (Memᴰ.cases_cons i)

        go : (b : Bool) → first S q p ≡ b → (((r : Pair K) → Memᴰ r (pick b q p ∷ l) → ok r.at) → (r : Pair K) → Memᴰ r (pick b q p ∷ l) → first S r (least S (pick b q p) l) ≡ false)
            → (r ≡ p) ⊎ Memᴰ r (q ∷ l) → first S r (least S (pick b q p) l) ≡ false
        go b e f m = low b (f (fine b)) e r (spread m)
