-- The frontier: where each labelled index is pending or its arcs were looked at, a walk from a labelled index either keeps to labels that are low enough up to its
-- end, or meets a pending index on the way with a low label. So when the target has the least key, and the heuristic is 0 there and never above what is left, no walk
-- to it can be cheaper than its label: the pending index on that walk would have a smaller key.
use mathlib.Core.Path.{◌≡◌}
use mathlib.Core.Logic.{◌⊎◌, inl, inr}
use Prim.Native.Nat.{ℕ}
use native.Mathlib.Omega.{arith}
use lib.IntN.{ℤ, pos}
use lib.Signed.{◌≤ℤ◌}
use Rattle.whole.specs.Zed.{◌⊕◌, zed, sum}
use Rattle.walks.specs.Walk.{Walk, stay, step, Least}

-- a pending index x with label e, and a walk from it to v, together at most b
pub record Waits (Arc : ℕ → ℕ → ℤ → Type 0) (D : ℕ → ℤ → Type 0) (Pend : ℕ → Type 0) (v : ℕ) (b : ℤ) : Type 0 where
  pub x : ℕ
  pub e : ℤ
  pub t : ℤ
  pub pend : Pend x
  pub label : D x e
  pub way : Walk Arc x v t
  pub low : e ⊕ t ≤ℤ b

module _ {Arc : ℕ → ℕ → ℤ → Type 0} {D : ℕ → ℤ → Type 0} {Pend : ℕ → Type 0}
    (settled : (u : ℕ) (d : ℤ) → D u d → Pend u ⊎ ((v : ℕ) (c : ℤ) → Arc u v c → (e : ℤ) × D v e × e ≤ℤ d ⊕ c)) where
  -- low to the end, or a pending index on the way
  pub frontier : {u v : ℕ} {d t : ℤ} (b : ℤ) → d ⊕ t ≤ℤ b → D u d → Walk Arc u v t → ((e : ℤ) × D v e × e ≤ℤ b) ⊎ Waits Arc D Pend v b
  frontier {d} {t} b h l (stay e) = inl (d, l, omega (arith, zed, sum d t))
  frontier {d} {t = r} b h l (step {u} {v} {w} {c} {t} a x e) = go (settled u d l) (λ y k m. frontier b k m x)
    where
      on : (y : ℤ) → y ≤ℤ d ⊕ c → y ⊕ t ≤ℤ b
      on y k = omega (arith, zed, sum d c, sum c t, sum d r, sum y t)

      go : Pend u ⊎ ((v : ℕ) (c : ℤ) → Arc u v c → (e : ℤ) × D v e × e ≤ℤ d ⊕ c) → ((y : ℤ) → y ⊕ t ≤ℤ b → D v y → ((e : ℤ) × D w e × e ≤ℤ b) ⊎ Waits Arc D Pend w b)
          → ((e : ℤ) × D w e × e ≤ℤ b) ⊎ Waits Arc D Pend w b
      go (inl p) rec = inr (record { x = u; e = d; t = r; pend = p; label = l; way = step a x e; low = h })
      go (inr f) rec = let k = f v c a in rec k.0 (on k.0 k.2) k.1

  -- A*: the target, taken with the least key, where the heuristic is 0 there and never above what is left: its label is the least total
  pub a_star_least : {s g : ℕ} {o d : ℤ} (h : ℕ → ℤ) → ((v : ℕ) (d e : ℤ) → D v d → D v e → d ≡ e)
      → D s o → o ≤ℤ pos 0 → D g d → Walk Arc s g d
      → h g ≡ pos 0
      → ((x : ℕ) (t : ℤ) → Walk Arc x g t → h x ≤ℤ t)
      → ((x : ℕ) (e : ℤ) → Pend x → D x e → d ⊕ h g ≤ℤ e ⊕ h x)
      → Least Arc s g d
  a_star_least {s} {g} {o} {d} h one l z k w hg adm first = record { walk = w; least = below }
    where
      below : (t : ℤ) → Walk Arc s g t → d ≤ℤ t
      below t r = go (frontier t (omega (arith, zed, sum o t)) l r)
        where
          go : ((e : ℤ) × D g e × e ≤ℤ t) ⊎ Waits Arc D Pend g t → d ≤ℤ t
          go (inl y) = let q : d ≡ y.0 = one g d _ k y.1 in let b : y.0 ≤ℤ t = y.2 in omega (arith, zed)
          go (inr y) =
              let a : h y.x ≤ℤ y.t = adm y.x y.t y.way in
              let b : d ⊕ h g ≤ℤ y.e ⊕ h y.x = first y.x y.e y.pend y.label in
              let q : y.e ⊕ y.t ≤ℤ t = y.low in
              omega (arith, zed, sum d (h g), sum y.e (h y.x), sum y.e y.t)
