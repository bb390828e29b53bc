-- With no arc below zero in reach, no total is below zero.
-- Assumes nothing.
use mathlib.Core.Path.{◌≡◌, refl}
use mathlib.Core.Bool.{Bool, true, false}
use Prim.Native.Nat.{ℕ}
use native.Mathlib.Omega.{arith}
use lib.IntN.{ℤ, pos}
use lib.Signed.{lt_z, ◌≤ℤ◌}
use Rattle.whole.specs.Zed.{◌⊕◌, zed, sum, lt_yes, lt_no}
use Rattle.walks.specs.Walk.{Walk, stay, step, NoNeg}
use Rattle.walks.proofs.Walk.{arc, join}
use Rattle.pending.specs.Reach.{BadInReach}

module _ {Arc : ℕ → ℕ → ℤ → Type 0} {s : ℕ} (clean : BadInReach Arc s → ⊥) where
  -- the walk's arcs leave indices in reach
  pub total_up : {u v : ℕ} {a t : ℤ} → Walk Arc s u a → Walk Arc u v t → pos 0 ≤ℤ t
  total_up r (stay e) = omega (arith, zed, e)
  total_up {u} {a = a} {t = q} r (step {v = v} {c} {t} x w e) = go (lt_z c (pos 0)) refl (total_up (join {r = a ⊕ c} r (arc x) refl) w)
    where
      go : (b : Bool) → lt_z c (pos 0) ≡ b → pos 0 ≤ℤ t → pos 0 ≤ℤ q
      go true f k = absurd (clean (record { u = u; t = a; v = v; c = c; reach = r; arc_is = x; below = omega (arith, zed, lt_yes c (pos 0) f) }))
      go false f k = omega (arith, zed, lt_no c (pos 0) f, sum c t)

  pub no_negative : NoNeg Arc s
  no_negative x a t r w = total_up r w
