-- Labels that no arc can lower are least totals. D v d says that v has the label d, and each arc from a labelled index leads to one with no more than the total.
-- Along a walk the end then has at most the start's label and the walk's total: so no label of a walk's total can be undercut, an index with no label has no walk
-- to it, and a closed walk below zero would lower a label below itself.
use mathlib.Core.Path.{◌≡◌}
use Prim.Native.Nat.{ℕ}
use native.Mathlib.Omega.{arith}
use lib.IntN.{ℤ, pos}
use lib.Signed.{◌≤ℤ◌}
use Rattle.whole.specs.Zed.{◌⊕◌, zed, sum}
use Rattle.walks.specs.Walk.{Walk, stay, step, Least, NoNeg}

module _ {Arc : ℕ → ℕ → ℤ → Type 0} {D : ℕ → ℤ → Type 0} (one : (v : ℕ) (d e : ℤ) → D v d → D v e → d ≡ e)
    (relaxed : (u v : ℕ) (d c : ℤ) → D u d → Arc u v c → (e : ℤ) × D v e × e ≤ℤ d ⊕ c) where
  -- the label at the end of a walk
  pub along : {u v : ℕ} {d t : ℤ} → D u d → Walk Arc u v t → (e : ℤ) × D v e × e ≤ℤ d ⊕ t
  along {d} {t} l (stay e) = (d, l, omega (arith, zed, sum d t))
  along {d} {t = r} l (step {u} {v} {c} {t} a w e) =
      let x = relaxed u v d c l a in
      let y = along x.1 w in
      let p : x.0 ≤ℤ d ⊕ c = x.2 in
      let q : y.0 ≤ℤ x.0 ⊕ t = y.2 in
      (y.0, y.1, omega (arith, zed, sum d c, sum x.0 t, sum d r, sum c t))

  -- no negative closed walk is in reach of a labelled index
  pub no_neg : {s : ℕ} {o : ℤ} → D s o → NoNeg Arc s
  no_neg l x a t r w =
      let y = along l r in
      let z = along y.1 w in
      let e : y.0 ≡ z.0 = one x _ _ y.1 z.1 in
      let q : z.0 ≤ℤ y.0 ⊕ t = z.2 in
      omega (arith, zed, sum y.0 t)

  -- labels that are totals of walks are least totals
  pub labels_least : {s v : ℕ} {o d : ℤ} → D s o → o ≤ℤ pos 0 → D v d → Walk Arc s v d → Least Arc s v d
  labels_least {s} {v} {o} {d} l z k w = record { walk = w; least = below }
    where
      below : (t : ℤ) → Walk Arc s v t → d ≤ℤ t
      below t r =
          let y = along l r in
          let e : d ≡ y.0 = one v d _ k y.1 in
          let q : y.0 ≤ℤ o ⊕ t = y.2 in
          omega (arith, zed, sum o t)

  -- an index with no label has no walk to it
  pub no_label : {s v : ℕ} {o : ℤ} → D s o → ((d : ℤ) → D v d → ⊥) → (t : ℤ) → Walk Arc s v t → ⊥
  no_label o n t w = n _ (along o w).1
