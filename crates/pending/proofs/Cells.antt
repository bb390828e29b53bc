-- Cells: one of them replaced, and what tells them apart.
use mathlib.Core.Path.{◌≡◌, refl, sym, ap, fun_ext}
use mathlib.Core.Bool.{Bool, true, false, true≢false}
use mathlib.Core.Logic.{◌⊎◌, inl, inr}
use mathlib.Core.Option.{Option}
use Prim.Native.Nat.{ℕ}
use native.Mathlib.Omega.{arith}
use lib.Dec.{eqb}
use borrow.Author.Tests.{eqb-true, eqb-false}
use Rattle.bag.specs.Order.{pick}
use Rattle.pending.specs.Setting.{upd}
use Rattle.pending.specs.OnePlace.{Cell, out, has}

-- one cell replaced: what stands where
pub upd_cases : {X : Type 0} (s : ℕ → X) (v : ℕ) (x : X) (w : ℕ) (y : X) → upd s v x w ≡ y → ((w ≡ v) × (x ≡ y)) ⊎ ((w ≡ v → ⊥) × (s w ≡ y))
upd_cases s v x w y e = go (eqb w v) (eqb-true w v) (eqb-false w v) e
  where
    go : (b : Bool) → (b ≡ true → w ≡ v) → (b ≡ false → w ≡ v → ⊥) → pick b x (s w) ≡ y → ((w ≡ v) × (x ≡ y)) ⊎ ((w ≡ v → ⊥) × (s w ≡ y))
    go true f g e = inl (f refl, e)
    go false f g e = inr (g refl, e)

-- at the place itself
pub upd_here : {X : Type 0} (s : ℕ → X) (v : ℕ) (x : X) → upd s v x v ≡ x
upd_here s v x = go (eqb v v) (eqb-false v v)
  where
    go : (b : Bool) → (b ≡ false → v ≡ v → ⊥) → pick b x (s v) ≡ x
    go true f = refl
    go false f = absurd (f refl refl)

-- at every other
pub upd_there : {X : Type 0} (s : ℕ → X) (v : ℕ) (x : X) (w : ℕ) → (w ≡ v → ⊥) → upd s v x w ≡ s w
upd_there s v x w n = go (eqb w v) (eqb-true w v)
  where
    go : (b : Bool) → (b ≡ true → w ≡ v) → pick b x (s w) ≡ s w
    go true f = absurd (n (f refl))
    go false f = refl

-- two cells that are not one
pub not_out : {K : Type 0} {d : K} {p : Option ℕ} {b : Bool} → ◌≡◌ {A = Cell K} out (has d p b) → ⊥
not_out e = let z : ◌≡◌ {A = ℕ} 0 1 = cc in omega arith

-- pending and not
pub not_pending : {K : Type 0} {d e : K} {p q : Option ℕ} → has d p true ≡ has e q false → ⊥
not_pending h = let z : true ≡ false = cc in true≢false z

-- every cell, one of them replaced
pub upd_all : {X : Type 0} (P : X → Type 0) (s : ℕ → X) (v : ℕ) (x : X) → ((w : ℕ) → P (s w)) → P x → (w : ℕ) → P (upd s v x w)
upd_all P s v x f h w = go (eqb w v)
  where
    go : (b : Bool) → P (pick b x (s w))
    go true = h
    go false = f w

-- what was there, put there again
pub upd_id : {X : Type 0} (s : ℕ → X) (v : ℕ) → upd s v (s v) ≡ s
upd_id s v = fun_ext (λ w. go w (eqb w v) (eqb-true w v))
  where
    go : (w : ℕ) (b : Bool) → (b ≡ true → w ≡ v) → pick b (s v) (s w) ≡ s w
    go w true f = ap s (sym (f refl))
    go w false f = refl
