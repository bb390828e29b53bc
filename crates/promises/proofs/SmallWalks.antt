-- Walks of the small maps: from an index that no arc leaves, and from one whose arcs lead to such an index alone.
-- Assumes nothing.
use mathlib.Core.Path.{◌≡◌, refl, subst}
use mathlib.Core.Bool.{true}
use mathlib.Core.Logic.{◌⊎◌, inl, inr}
use Prim.Native.Nat.{ℕ}
use native.Mathlib.Omega.{arith}
use lib.IntN.{ℤ, pos}
use Rattle.whole.specs.Zed.{zed, sum}
use Rattle.whole.proofs.Cases.{clash}
use Rattle.walks.specs.Walk.{Walk, stay, step}
use Rattle.table.specs.Links.{Link, joins}
use Rattle.table.proofs.Joins.{Joined, joined}

-- a directed link joins its ends in their order
pub ordered : {C : Type 0} (u v : ℕ) (l : Link C) → joins true u v l ≡ true → (l.a ≡ u) × (l.b ≡ v)
ordered {C} u v l e = go (joined true u v l e)
  where
    go : Joined true u v l → (l.a ≡ u) × (l.b ≡ v)
    go (inl p) = p
    go (inr p) = absurd (clash refl p.0)

module _ {Arc : ℕ → ℕ → ℤ → Type 0} where
  -- no arc leaves s
  pub stays : {s v : ℕ} {t : ℤ} → ((v : ℕ) (c : ℤ) → Arc s v c → ⊥) → Walk Arc s v t → (v ≡ s) × (t ≡ pos 0)
  stays f (stay e) = (refl, e)
  stays f (step {v} {c} a w e) = absurd (f v c a)

  -- every arc that leaves s leads to m at the cost d, and no arc leaves m
  pub stays_or_goes : {s v : ℕ} {t : ℤ} (m : ℕ) (d : ℤ) → ((v : ℕ) (c : ℤ) → Arc s v c → (v ≡ m) × (c ≡ d)) → ((v : ℕ) (c : ℤ) → Arc m v c → ⊥) → Walk Arc s v t
      → ((v ≡ s) × (t ≡ pos 0)) ⊎ ((v ≡ m) × (t ≡ d))
  stays_or_goes m d f g (stay e) = inl (refl, e)
  stays_or_goes {s} {v = w} {t = r} m d f g (step {v} {c} {t} a k e) =
      let p = f v c a in
      let q = stays g (subst (λ (x : ℕ). Walk Arc x w t) p.0 k) in
      let x : c ≡ d = p.1 in
      let y : t ≡ pos 0 = q.1 in
      inr (q.0, omega (arith, zed, sum c t))
