-- What the potentials are for: costs shifted by them are at least 0 and small, and least totals of shifted costs, shifted back, are the least totals.
-- Assumes nothing.
use mathlib.Core.Path.{◌≡◌, refl, sym, subst}
use mathlib.Core.Bool.{Bool, true, false}
use mathlib.Core.List.{List}
use mathlib.Core.Logic.{inl, inr}
use Prim.Native.Nat.{ℕ, ◌*◌, ◌≤◌, ◌^◌}
use native.Mathlib.Omega.{arith}
use lib.IntN.{ℤ, pos, neg_ℤ}
use lib.Signed.{lt_z, ◌≤ℤ◌}
use Rattle.whole.specs.Zed.{◌⊕◌, ◌⊖◌, N, zed, sum, neg, Cost32}
use Rattle.clean.specs.None.{none_i64}
use Rattle.walks.specs.Walk.{Walk, stay, step, Least, Total}
use Rattle.walks.specs.Shift.{Shifted}
use Rattle.walks.proofs.Shift.{shift, shift_least}
use Rattle.johnson.specs.Rounds.{label}
use Rattle.johnson.specs.Potentials.{Potentials}
use Rattle.johnson.specs.Shifting.{shifted_cost, shifted_back}

-- ---- a shifted cost
module _ {Arc : ℕ → ℕ → ℤ → Type 0} {p : ℕ} (h : List ℤ) (pot : Potentials Arc p h) where
  -- it is at least 0, and at most 2^41
  pub shifted_low : {u v : ℕ} {c : ℤ} → Arc u v c → pos 0 ≤ℤ shifted_cost h u v c
  shifted_low {u} {v} {c} a =
      let k : label h v ≤ℤ label h u ⊕ c = pot.resting u v c a in
      omega (arith, zed, sum (label h u) c, sum c (label h u), sum (c ⊕ label h u) (neg_ℤ (label h v)), neg (label h v))

  pub shifted_high : p ≤ 1024 → {u v : ℕ} {c : ℤ} → Arc u v c → shifted_cost h u v c ≤ℤ pos (2 ^ 41)
  shifted_high few {u} {v} {c} a =
      let s : Cost32 c = pot.small u v c a in
      let k : N (label h v) ≤ 1023 * 2 ^ 31 = within in
      omega (arith, zed, pot.high u, pot.high v, sum c (label h u), sum (c ⊕ label h u) (neg_ℤ (label h v)), neg (label h v))
    where
      within : N (label h v) ≤ 1023 * 2 ^ 31
      within = omega (arith, pot.low v)

  -- so no walk of shifted costs totals below 0
  pub shifted_walk : {u v : ℕ} {x : ℤ} → Walk (Shifted Arc (label h)) u v x → pos 0 ≤ℤ x
  shifted_walk {x} (stay e) = omega (arith, zed)
  shifted_walk {x} (step {u} {v} {c} {t = z} a w e) =
      let p : pos 0 ≤ℤ shifted_cost h u v a.0 = shifted_low a.1 in
      let k : c ≡ shifted_cost h u v a.0 = a.2 in
      let q : pos 0 ≤ℤ z = shifted_walk w in
      omega (arith, zed, sum c z)

-- ---- a total shifted back
pub back_total : (h : List ℤ) (s v : ℕ) (d : ℤ) → lt_z none_i64 d ≡ true → shifted_back h s v d ≡ d ⊕ label h v ⊖ label h s
unfolding shifted_back
back_total h s v d e = rw e

pub back_none : (h : List ℤ) (s v : ℕ) (d : ℤ) → lt_z none_i64 d ≡ false → shifted_back h s v d ≡ none_i64
unfolding shifted_back
back_none h s v d e = rw e

-- a total found over shifted costs, shifted back, is the total
pub total_back : {Arc : ℕ → ℕ → ℤ → Type 0} {p : ℕ} (h : List ℤ) → Potentials Arc p h → (s v : ℕ) (d : ℤ) → Total (Shifted Arc (label h)) s v d → Total Arc s v (shifted_back h s v d)
total_back {Arc} h pot s v d (inl l) = go (lt_z none_i64 d) refl
  where
    go : (b : Bool) → lt_z none_i64 d ≡ b → Total Arc s v (shifted_back h s v d)
    go true e = inl (subst (Least Arc s v) (sym (back_total h s v d e)) (shift_least (label h) l))
    go false e = let k : pos 0 ≤ℤ d = shifted_walk h pot l.walk in absurd (omega (arith, zed))
total_back {Arc} h pot s v d (inr q) = go (lt_z none_i64 d) refl
  where
    go : (b : Bool) → lt_z none_i64 d ≡ b → Total Arc s v (shifted_back h s v d)
    go true e = let k : d ≡ none_i64 = q.0 in absurd (omega (arith, zed))
    go false e = inr (back_none h s v d e, λ t w. q.1 _ (shift (label h) w refl))
