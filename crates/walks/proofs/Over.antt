-- Walks, least totals and closed walks below zero go by the arcs alone: two relations with the same arcs have the same. And an index has one total: of two least
-- ones neither is greater, and a least total has a walk. An entry is a total in its range.
use mathlib.Core.Path.{◌≡◌, sym, ◌∙◌}
use mathlib.Core.Logic.{inl, inr}
use Prim.Native.Nat.{ℕ, ◌^◌}
use lib.IntN.{ℤ}
use Rattle.whole.specs.Zed.{Within}
use Rattle.walks.specs.Walk.{Walk, stay, step, Least, NoNeg, NegativeFrom, Negative, Entry, Total}
use Rattle.walks.proofs.Walk.{least_unique}

module _ {Arc : ℕ → ℕ → ℤ → Type 0} {s v : ℕ} where
  -- an index has one total
  pub total_one : {d e : ℤ} → Total Arc s v d → Total Arc s v e → d ≡ e
  total_one (inl a) (inl b) = least_unique a b
  total_one {d} (inl a) (inr b) = absurd (b.1 d a.walk)
  total_one {e} (inr a) (inl b) = absurd (a.1 e b.walk)
  total_one (inr a) (inr b) = a.0 ∙ sym b.0

  -- an entry is one, and a total whose range is known is an entry
  pub total_of : {d : ℤ} → Entry Arc s v d → Total Arc s v d
  total_of (inl l) = inl l.0
  total_of (inr p) = inr p

  pub entry_of : {d : ℤ} → (Least Arc s v d → Within (2 ^ 41) d) → Total Arc s v d → Entry Arc s v d
  entry_of f (inl l) = inl (l, f l)
  entry_of f (inr p) = inr p

  -- so an index has one entry
  pub entry_one : {d e : ℤ} → Entry Arc s v d → Entry Arc s v e → d ≡ e
  entry_one a b = total_one (total_of a) (total_of b)

-- by more arcs
module _ {A B : ℕ → ℕ → ℤ → Type 0} (f : (u v : ℕ) (c : ℤ) → A u v c → B u v c) where
  -- a walk
  pub walk_over : {u v : ℕ} {t : ℤ} → Walk A u v t → Walk B u v t
  walk_over (stay e) = stay e
  walk_over {t = r} (step {u} {v} {c} {t} a w e) = step {r = r} (f u v c a) (walk_over w) e

  -- a closed walk below zero, in reach
  pub negative_from_over : {o : ℕ} → NegativeFrom A o → NegativeFrom B o
  negative_from_over n = record { x = n.x; a = n.a; t = n.t; reach = walk_over n.reach; loop = walk_over n.loop; below = n.below }

  -- and anywhere
  pub negative_over : Negative A → Negative B
  negative_over n = record { x = n.x; t = n.t; loop = walk_over n.loop; below = n.below }

-- by the same arcs
module _ {A B : ℕ → ℕ → ℤ → Type 0} (f : (u v : ℕ) (c : ℤ) → A u v c → B u v c) (b : (u v : ℕ) (c : ℤ) → B u v c → A u v c) where
  -- a least total
  pub least_over : {o v : ℕ} {d : ℤ} → Least A o v d → Least B o v d
  least_over l = record { walk = walk_over f l.walk; least = λ t w. l.least t (walk_over b w) }

  -- no closed walk below zero
  pub noneg_over : {o : ℕ} → NoNeg A o → NoNeg B o
  noneg_over n x a t r w = n x a t (walk_over b r) (walk_over b w)

  -- a total, and an entry
  pub total_over : {o v : ℕ} {d : ℤ} → Total A o v d → Total B o v d
  total_over (inl l) = inl (least_over l)
  total_over (inr p) = inr (p.0, λ t w. p.1 t (walk_over b w))

  pub entry_over : {o v : ℕ} {d : ℤ} → Entry A o v d → Entry B o v d
  entry_over (inl l) = inl (least_over l.0, l.1)
  entry_over (inr p) = inr (p.0, λ t w. p.1 t (walk_over b w))
