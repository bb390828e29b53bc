-- How each label came is kept by a store: labels only fall, so what an index on the trail had then is still no less than what it has now, and the new label is
-- less than any that its index had. Hence labels lie within the bound at every moment, and a path length that reaches p shows a closed walk below zero (Fall).
use mathlib.Core.Path.{◌≡◌, sym, subst}
use mathlib.Core.List.{List, ◌∷◌}
use Prim.Native.Nat.{ℕ, suc, ◌+◌, ◌*◌}
use native.Mathlib.Omega.{arith}
use lib.ListN.{length}
use lib.IntN.{ℤ}
use lib.Signed.{◌≤ℤ◌, ◌<ℤ◌}
use Rattle.whole.specs.Zed.{◌⊕◌, zed, sum, Within, within_of}
use Rattle.walks.specs.Costs.{Costs}
use Rattle.walks.specs.Hist.{Mark, At, at_here, at_there, Trail, begin, snoc, Low, Hist, Falls}

-- what is low stays low
pub low_falls : {D D' : ℕ → ℤ → Type 0} → Falls D D' → (x : ℕ) (t : ℤ) → Low D x t → Low D' x t
low_falls f x t l =
    let y = f x l.0 l.1 in
    let p : l.0 ≤ℤ t = l.2 in
    let q : y.0 ≤ℤ l.0 = y.2 in
    (y.0, y.1, omega (arith, zed))

module _ {Arc : ℕ → ℕ → ℤ → Type 0} {o : ℕ} {D D' : ℕ → ℤ → Type 0} (falls : Falls D D') where
  -- where labels fall, what was is still so
  pub hist_stays : {v k : ℕ} {d : ℤ} → Hist Arc o D v d k → Hist Arc o D' v d k
  hist_stays t = record { h = t.h; trail = t.trail; arcs = t.arcs; low = λ x a i. low_falls falls x a (t.low x a i) }

  -- a store at v of n, the label d of u and the cost of an arc
  pub hist_new : (u v k : ℕ) (d c n : ℤ) → Arc u v c → n ≡ d ⊕ c → ((e : ℤ) → D v e → n <ℤ e) → D' v n → Hist Arc o D u d k → Hist Arc o D' v n (k + 1)
  hist_new u v k d c n a is better has t = record { h = record { ix = u; had = d } ∷ t.h; trail = snoc {e = n} t.trail a is below; arcs = omega (arith, t.arcs); low = now }
    where
      below : (b : ℤ) → At v b (record { ix = u; had = d } ∷ t.h) → n <ℤ b
      below b i =
          let y = t.low v b i in
          let p : n <ℤ y.0 = better y.0 y.1 in
          let q : y.0 ≤ℤ b = y.2 in
          omega (arith, zed)

      now : (x : ℕ) (b : ℤ) → At x b (record { ix = v; had = n } ∷ record { ix = u; had = d } ∷ t.h) → Low D' x b
      now x b (at_here p q) = (n, subst (λ (y : ℕ). D' y n) (sym p) has, omega (arith, zed))
      now x b (at_there i) = low_falls falls x b (t.low x b i)

-- a label lies within its path length times the greatest cost
pub trail_within : {Arc : ℕ → ℕ → ℤ → Type 0} {o v : ℕ} {d : ℤ} {h : List Mark} (B : ℕ) → Costs B Arc → Trail Arc o v d h → Within (length h * B) d
trail_within B f (begin e) = rw e (omega arith)
trail_within {d = r} B f (snoc {u} {v} {d} {c} {h} t a e g) =
    let k : Within B c = f u v c a in
    let l : Within (length h * B) d = trail_within B f t in
    within_of (suc (length h) * B) r (omega (arith, zed, sum d c)) (omega (arith, zed, sum d c))
