-- Costs shifted by a potential h: each arc from u to v costs h u - h v more. Along a walk all but the ends cancel, so every walk from u to v is dearer by the same
-- h u - h v, and the least walk stays the least.
use mathlib.Core.Path.{◌≡◌, refl}
use Prim.Native.Nat.{ℕ}
use native.Mathlib.Omega.{arith}
use lib.IntN.{ℤ, neg_ℤ}
use lib.Signed.{◌≤ℤ◌}
use Rattle.whole.specs.Zed.{◌⊕◌, ◌⊖◌, zed, sum, neg}
use Rattle.walks.specs.Walk.{Walk, stay, step, Least}
use Rattle.walks.specs.Shift.{Shifted}

-- shifted arcs go by the arcs
pub shifted_over : {A B : ℕ → ℕ → ℤ → Type 0} (h : ℕ → ℤ) → ((u v : ℕ) (c : ℤ) → A u v c → B u v c) → (u v : ℕ) (c : ℤ) → Shifted A h u v c → Shifted B h u v c
shifted_over h f u v c w = (w.0, f u v w.0 w.1, w.2)

module _ {Arc : ℕ → ℕ → ℤ → Type 0} (h : ℕ → ℤ) where
  -- a walk over
  pub shift : {u v : ℕ} {t r : ℤ} → Walk Arc u v t → r ≡ t ⊕ h u ⊖ h v → Walk (Shifted Arc h) u v r
  shift {t} {r} (stay {u} q) e = stay {t = r} (omega (arith, zed, sum t (h u), sum (t ⊕ h u) (neg_ℤ (h u)), neg (h u)))
  shift {t = s} {r} (step {u} {v} {w} {c} {t} a x q) e =
      step {c = c ⊕ h u ⊖ h v} {t = t ⊕ h v ⊖ h w} {r = r} (c, a, refl) (shift x refl)
      (omega (
        arith,
        zed,
        sum c t,
        sum s (h u),
        sum (s ⊕ h u) (neg_ℤ (h w)),
        neg (h w),
        neg (h v),
        sum c (h u),
        sum (c ⊕ h u) (neg_ℤ (h v)),
        sum t (h v),
        sum (t ⊕ h v) (neg_ℤ (h w)),
        sum (c ⊕ h u ⊖ h v) (t ⊕ h v ⊖ h w),
      ))

  -- and back
  pub unshift : {u v : ℕ} {t r : ℤ} → Walk (Shifted Arc h) u v r → r ≡ t ⊕ h u ⊖ h v → Walk Arc u v t
  unshift {t} {r} (stay {u} q) e = stay {t = t} (omega (arith, zed, sum t (h u), sum (t ⊕ h u) (neg_ℤ (h u)), neg (h u)))
  unshift {t = s} {r} (step {u} {v} {w} {c} {t} a x q) e =
      let b = a.0 in
      let k : c ≡ b ⊕ h u ⊖ h v = a.2 in
      let y = t ⊕ h w ⊖ h v in
      step {c = b} {t = y} {r = s} a.1 (unshift x (omega (arith, zed, sum t (h w), sum (t ⊕ h w) (neg_ℤ (h v)), neg (h v), neg (h w), sum y (h v), sum (y ⊕ h v) (neg_ℤ (h w)))))
      (omega (arith, zed, sum c t, sum s (h u), sum (s ⊕ h u) (neg_ℤ (h w)), neg (h w), neg (h v), sum b (h u), sum (b ⊕ h u) (neg_ℤ (h v)), sum t (h w), sum (t ⊕ h w) (neg_ℤ (h v)), sum b y))

  -- so a least total, shifted back, is the least total
  pub shift_least : {s v : ℕ} {d : ℤ} → Least (Shifted Arc h) s v d → Least Arc s v (d ⊕ h v ⊖ h s)
  shift_least {s} {v} {d} l =
      let e = d ⊕ h v ⊖ h s in
      record {
        walk = unshift l.walk (omega (arith, zed, sum d (h v), sum (d ⊕ h v) (neg_ℤ (h s)), neg (h s), neg (h v), sum e (h s), sum (e ⊕ h s) (neg_ℤ (h v))));
        least =
            λ t w. let k : d ≤ℤ t ⊕ h s ⊖ h v = l.least _ (shift w refl) in
            omega (arith, zed, sum d (h v), sum (d ⊕ h v) (neg_ℤ (h s)), neg (h s), neg (h v), sum t (h s), sum (t ⊕ h s) (neg_ℤ (h v)));
      }
