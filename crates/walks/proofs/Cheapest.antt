-- Where the arcs between two indices are finitely many, one of them is cheapest: one more arc is cheaper than the cheapest of the others, or it is not. Where each arc
-- has a cheapest beside it, each path has a total with the cheapest arcs, and no other.
-- Assumes nothing.
use mathlib.Core.Path.{◌≡◌, refl, sym, ap, ◌∙◌, subst}
use mathlib.Core.Bool.{Bool, true, false}
use mathlib.Core.List.{List, [], ◌∷◌, reverse, reverse_aux-append}
use mathlib.Core.Logic.{◌⊎◌, inl, inr, ⊎_elim}
use Prim.Native.Nat.{ℕ}
use native.Mathlib.Omega.{arith}
use lib.IntN.{ℤ, pos}
use lib.Signed.{lt_z, ◌≤ℤ◌}
use Rattle.whole.specs.Zed.{◌⊕◌, zed, sum}
use Rattle.walks.specs.Chain.{Path, start, onto, CheapestArc, Cheapest}

-- of the arcs from u to v some cost is the lowest
abbrev pub HasCheapest : (ℕ → ℕ → ℤ → Type 0) → ℕ → ℕ → Type 0
HasCheapest Arc u v = (c : ℤ) × CheapestArc Arc u v c

-- there is none, or a cheapest
abbrev pub NoneOrCheapest : (ℕ → ℕ → ℤ → Type 0) → ℕ → ℕ → Type 0
NoneOrCheapest Arc u v = ((c : ℤ) → Arc u v c → ⊥) ⊎ HasCheapest Arc u v

-- B has the arcs of A from u to v and one more, of cost c
module _ (A B : ℕ → ℕ → ℤ → Type 0) (u v : ℕ) (c : ℤ) (one : B u v c) (others : (b : ℤ) → A u v b → B u v b) (all : (b : ℤ) → B u v b → (c ≡ b) ⊎ A u v b) where
  -- it is the cheapest, if none of the others costs less
  is_cheapest : ((b : ℤ) → A u v b → c ≤ℤ b) → CheapestArc B u v c
  is_cheapest f = record { arc_is = one; lowest = λ b x. ⊎_elim (λ e. omega (arith, zed, e)) (λ a. omega (arith, zed, f b a)) (all b x) }

  -- so one of them is
  pub one_more : NoneOrCheapest A u v → HasCheapest B u v
  one_more (inl f) = (c, is_cheapest (λ b a. absurd (f b a)))
  one_more (inr k) = less (lt_z k.0 c) refl
    where
      less : (t : Bool) → lt_z k.0 c ≡ t → HasCheapest B u v
      less true h = (k.0, record { arc_is = others k.0 k.1.arc_is; lowest = λ b x. ⊎_elim (λ e. omega (arith, zed, h, e)) (λ a. k.1.lowest b a) (all b x) })
      less false h = (c, is_cheapest (λ b a. omega (arith, zed, h, k.1.lowest b a)))

module _ {Arc : ℕ → ℕ → ℤ → Type 0} where
  -- a path that is read from its end back begins with its end
  from_end : {s v : ℕ} {l : List ℕ} → Path Arc s v l → (k : List ℕ) × (reverse l ≡ v ∷ k)
  from_end (start e i) = ([], ap reverse i ∙ ap (λ (x : ℕ). x ∷ []) (sym e))
  from_end {v = v} (onto u k c p a i) = (reverse k, ap reverse i ∙ reverse_aux-append k (v ∷ []) [])

  -- it has a total with the cheapest arcs
  pub path_total : ((u v : ℕ) (c : ℤ) → Arc u v c → HasCheapest Arc u v) → {s v : ℕ} {l : List ℕ} → Path Arc s v l → (t : ℤ) × Cheapest Arc (reverse l) t
  path_total f (start e i) = (pos 0, subst (λ (l : List ℕ). Cheapest Arc l (pos 0)) (sym (ap reverse i)) refl)
  path_total f {v = v} (onto u k c p a i) =
      let x = path_total f p in
      let y = from_end p in
      let z = f u v c a in
      let e = ap reverse i ∙ (reverse_aux-append k (v ∷ []) [] ∙ ap (λ (l : List ℕ). v ∷ l) y.1) in
      (x.0 ⊕ z.0, subst (λ (l : List ℕ). Cheapest Arc l (x.0 ⊕ z.0)) (sym e) (z.0, x.0, z.1, subst (λ (l : List ℕ). Cheapest Arc l x.0) y.1 x.1, refl))

-- a path has one such total
pub cheapest_one : (Arc : ℕ → ℕ → ℤ → Type 0) (l : List ℕ) (t r : ℤ) → Cheapest Arc l t → Cheapest Arc l r → t ≡ r
cheapest_one Arc [] t r x y = absurd x
cheapest_one Arc (v ∷ []) t r x y = x ∙ sym y
cheapest_one Arc (v ∷ u ∷ l) t r x y =
    let e : x.1 ≡ y.1 = cheapest_one Arc (u ∷ l) x.1 y.1 x.3 y.3 in
    omega (arith, zed, x.4, y.4, x.2.lowest y.0 y.2.arc_is, y.2.lowest x.0 x.2.arc_is, sum x.1 x.0, sum y.1 y.0)
