-- Laws of walks by their number of arcs.
-- Assumes nothing.
use mathlib.Core.Path.{◌≡◌, refl, sym, ap, ◌∙◌}
use mathlib.Core.Logic.{inl, inr}
use Prim.Native.Nat.{ℕ, suc}
use native.Mathlib.Omega.{arith}
use lib.IntN.{ℤ, pos}
use Rattle.whole.specs.Zed.{◌⊕◌}
use Rattle.walks.specs.Walk as walks
use Rattle.walks.proofs.Walk.{arcs}
use Rattle.hops.specs.Steps.{Steps, stay, step, Entry}

module _ {E : ℕ → ℕ → Type 0} where
  -- one arc more at the end
  pub snoc : {s u v n : ℕ} → Steps E s u n → E u v → Steps E s v (suc n)
  snoc stay a = step a stay
  snoc (step b w) a = step b (snoc w a)

  -- two entries of one pair are equal
  pub entry_one : {s v d e : ℕ} → Entry E s v d → Entry E s v e → d ≡ e
  entry_one {d = d} {e = e} (inl a) (inl b) = omega (arith, a.least e b.walk, b.least d a.walk)
  entry_one {d = d} (inl a) (inr b) = absurd (b.1 d a.walk)
  entry_one {e = e} (inr a) (inl b) = absurd (a.1 e b.walk)
  entry_one (inr a) (inr b) = a.0 ∙ sym b.0

  -- an index is no arc away from itself
  pub diagonal_zero : {u d : ℕ} → Entry E u u d → d ≡ 0
  diagonal_zero (inl a) = omega (arith, a.least 0 stay)
  diagonal_zero (inr a) = absurd (a.1 0 stay)

-- walks go by the relation alone
module _ {E F : ℕ → ℕ → Type 0} (f : (u v : ℕ) → E u v → F u v) where
  pub steps_over : {u v n : ℕ} → Steps E u v n → Steps F u v n
  steps_over stay = stay
  steps_over (step {u} {v} a w) = step (f u v a) (steps_over w)

module _ {E F : ℕ → ℕ → Type 0} (f : (u v : ℕ) → E u v → F u v) (b : (u v : ℕ) → F u v → E u v) where
  pub entry_over : {s v d : ℕ} → Entry E s v d → Entry F s v d
  entry_over (inl l) = inl (record { walk = steps_over f l.walk; least = λ n w. l.least n (steps_over b w) })
  entry_over (inr p) = inr (p.0, λ n w. p.1 n (steps_over b w))

-- ---- they are the walks with totals, by the number of their arcs
-- a walk with a total that has n arcs
pub record Walked (Arc : ℕ → ℕ → ℤ → Type 0) (u v n : ℕ) : Type 0 where
  pub total : ℤ
  pub walk : walks.Walk Arc u v total
  pub many : arcs walk ≡ n

module _ {Arc : ℕ → ℕ → ℤ → Type 0} where
  pub steps_of : {u v : ℕ} {t : ℤ} (w : walks.Walk Arc u v t) → Steps (λ (x y : ℕ). (c : ℤ) × Arc x y c) u v (arcs w)
  steps_of (walks.stay e) = stay
  steps_of (walks.step {c} a w e) = step (c, a) (steps_of w)

  pub walk_of : {u v n : ℕ} → Steps (λ (x y : ℕ). (c : ℤ) × Arc x y c) u v n → Walked Arc u v n
  walk_of stay = record { total = pos 0; walk = walks.stay refl; many = refl }
  walk_of (step a w) = let r = walk_of w in record { total = a.0 ⊕ r.total; walk = walks.step a.1 r.walk refl; many = ap suc r.many }
