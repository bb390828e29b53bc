-- Labels: the test that stores one, what a store leaves, and that each lies within the bound.
-- A label came by fewer than p arcs of 32-bit costs, so it lies within 2^41 and no sum leaves 64 bits. Each store makes the labels lighter as a whole, so the search ends.
-- Assumes nothing.
use mathlib.Core.Path.{◌≡◌, refl, sym, ◌∙◌, subst}
use mathlib.Core.Bool.{Bool, true, false, cond}
use mathlib.Core.List.{List}
use mathlib.Core.Logic.{◌⊎◌, inl, inr}
use Prim.Native.Nat.{ℕ, ◌+◌, ◌-◌, ◌*◌, ◌≤◌, ◌<◌, ◌^◌}
use native.Mathlib.Omega.{arith}
use native.Mathlib.Decide.{ℕ_discrete}
use lib.IntN.{ℤ, pos}
use lib.Signed.{lt_z, ◌≤ℤ◌, ◌<ℤ◌}
use lib.ListN.{length, get_or, set}
use lib.Seq.{get_or-set_same, get_or-set_other}
use Rattle.whole.specs.Zed.{P, N, zed, Within}
use Rattle.whole.proofs.Cases.{clash}
use Rattle.clean.specs.None.{none_i64}
use Rattle.clean.specs.Better.{better_than}
use Rattle.clean.proofs.Better.{better_over, better_none}
use Rattle.walks.specs.Hist.{Low, Hist, Falls}
use Rattle.walks.specs.Weigh.{weigh}
use Rattle.walks.proofs.Hist.{trail_within}
use Rattle.walks.proofs.Weigh.{weigh_set}
use Rattle.rows.specs.Rows.{Lists}
use Rattle.rows.specs.RowArc.{RowArc}
use Rattle.bellman_ford.specs.Search.{Fit, Label, weight_of}

-- ---- the test
pub better_is : (n old : ℤ) → better_than n old ≡ true → none_i64 <ℤ old → n <ℤ old
better_is n old b h = go (lt_z none_i64 old) refl
  where
    go : (t : Bool) → lt_z none_i64 old ≡ t → n <ℤ old
    go true e = let k : lt_z n old ≡ true = better_over n old e ∙ b in omega (arith, zed)
    go false e = absurd (omega (arith, zed))

pub worse_is : (n old : ℤ) → better_than n old ≡ false → (none_i64 <ℤ old) × (old ≤ℤ n)
worse_is n old b = go (lt_z none_i64 old) refl
  where
    go : (t : Bool) → lt_z none_i64 old ≡ t → (none_i64 <ℤ old) × (old ≤ℤ n)
    go true e = let k : lt_z n old ≡ false = better_over n old e ∙ b in omega (arith, zed)
    go false e = absurd (clash (sym (better_none n old e)) b)

-- ---- the bound
pub within : {m p s : ℕ} {nb : Lists ℤ} → Fit m p s nb → {D : ℕ → ℤ → Type 0} {v k : ℕ} {d : ℤ} → Hist (RowArc m nb) s D v d k → k < p → Within (2 ^ 41) d
within fit {k} {d} t h =
    let w : Within (length t.h * 2 ^ 31) d = trail_within (2 ^ 31) fit.small t.trail in
    omega (arith, t.arcs, fit.few)

-- ---- a store of a label n at v
module _ {m v : ℕ} (l : List ℤ) {n : ℤ} (below : v < m) (room : m ≤ length l) (some : none_i64 <ℤ n) where
  pub label_new : Label m (set l v n) v n
  label_new = (below, get_or-set_same l v n (pos 0) (omega arith), some)

  pub label_other : (x : ℕ) (d : ℤ) → (x ≡ v → ⊥) → Label m l x d → Label m (set l v n) x d
  label_other x d f k = (k.0, get_or-set_other l v x n (pos 0) f ∙ k.1, k.2)

  pub label_back : (x : ℕ) (d : ℤ) → (x ≡ v → ⊥) → Label m (set l v n) x d → Label m l x d
  label_back x d f k = (k.0, sym (get_or-set_other l v x n (pos 0) f) ∙ k.1, k.2)

  pub label_is : (d : ℤ) → Label m (set l v n) v d → d ≡ n
  label_is d k = sym k.1 ∙ get_or-set_same l v n (pos 0) (omega arith)

  -- each index still has a label or none
  pub label_kinds : (x : ℕ) → (get_or l x (pos 0) ≡ none_i64) ⊎ (none_i64 <ℤ get_or l x (pos 0)) → (get_or (set l v n) x (pos 0) ≡ none_i64) ⊎ (none_i64 <ℤ get_or (set l v n) x (pos 0))
  label_kinds x k = go (ℕ_discrete x v)
    where
      go : Dec (x ≡ v) → (get_or (set l v n) x (pos 0) ≡ none_i64) ⊎ (none_i64 <ℤ get_or (set l v n) x (pos 0))
      go (yes q) = inr (rw (q, label_new.1) some)
      go (no f) = rw (get_or-set_other l v x n (pos 0) f) k

  -- where n is better
  module _ (b : better_than n (get_or l v (pos 0)) ≡ true) where
    pub better_label : (e : ℤ) → Label m l v e → n <ℤ e
    better_label e k = subst (λ (z : ℤ). n <ℤ z) k.1 (better_is n (get_or l v (pos 0)) b (rw k.1 k.2))

    pub label_falls : Falls (Label m l) (Label m (set l v n))
    label_falls x e k = go (ℕ_discrete x v)
      where
        go : Dec (x ≡ v) → Low (Label m (set l v n)) x e
        go (yes q) =
            let f : n <ℤ e = better_label e (subst (λ (y : ℕ). Label m l y e) q k) in
            (n, rw q label_new, omega (arith, zed))
        go (no f) = (e, label_other x e f k, omega (arith, zed))

-- ---- a better label weighs less
weight_label : (d : ℤ) → none_i64 <ℤ d → weight_of d ≡ P d + (2 ^ 43 - N d)
unfolding weight_of
weight_label d h = go (lt_z none_i64 d) refl
  where
    go : (t : Bool) → lt_z none_i64 d ≡ t → cond t (P d + (2 ^ 43 - N d)) (2 ^ 45) ≡ P d + (2 ^ 43 - N d)
    go true e = refl
    go false e = absurd (omega (arith, zed))

weight_none : (d : ℤ) → d ≡ none_i64 → weight_of d ≡ 2 ^ 45
unfolding weight_of
weight_none d e = rw e

pub lighter : (l : List ℤ) (v : ℕ) (n : ℤ) → v < length l → none_i64 <ℤ n → Within (2 ^ 42) n → better_than n (get_or l v (pos 0)) ≡ true
    → (get_or l v (pos 0) ≡ none_i64) ⊎ ((none_i64 <ℤ get_or l v (pos 0)) × Within (2 ^ 41) (get_or l v (pos 0))) → weigh weight_of (set l v n) < weigh weight_of l
lighter l v n h some small b (inl e) = omega (arith, weight_none (get_or l v (pos 0)) e, weigh_set weight_of l v n (pos 0) h, weight_label n some)
lighter l v n h some small b (inr q) =
    let e : n <ℤ get_or l v (pos 0) = better_is n (get_or l v (pos 0)) b q.0 in
    omega (arith, zed, q.1, weigh_set weight_of l v n (pos 0) h, weight_label n some, weight_label (get_or l v (pos 0)) q.0)
