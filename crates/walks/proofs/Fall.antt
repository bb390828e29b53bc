-- A trail with as many arcs as there are indices shows a closed walk below zero.
-- It passes some index twice (Pigeon), and an index that comes again has less than before: the part between is a closed walk with a total below zero.
use mathlib.Core.Path.{◌≡◌, refl, sym, ap, subst, subst₂}
use mathlib.Core.List.{List, [], ◌∷◌}
use mathlib.Core.Logic.{◌⊎◌, inl, inr}
use Prim.Native.Nat.{ℕ, suc, ◌≤◌}
use native.Mathlib.Omega.{arith}
use lib.ListN.{length}
use lib.IntN.{ℤ}
use lib.Signed.{◌<ℤ◌}
use Rattle.whole.specs.Zed.{◌⊕◌, zed, sum}
use Rattle.walks.specs.Pigeon.{In, here, there, NoDup}
use Rattle.walks.specs.Walk.{Walk, stay, NegativeFrom}
use Rattle.walks.specs.Hist.{Mark, At, at_here, at_there, Trail, begin, snoc}
use Rattle.walks.proofs.Pigeon.{in?, short}
use Rattle.walks.proofs.Walk.{join, arc}

-- the indices passed
abbrev pub ixs : List Mark → List ℕ
ixs [] = []
ixs (m ∷ h) = m.ix ∷ ixs h

-- each was passed with some total
ixs_at : {x : ℕ} (h : List Mark) → In x (ixs h) → (a : ℤ) × At x a h
ixs_at (m ∷ h) (here e) = (m.had, at_here e refl)
ixs_at (m ∷ h) (there i) = let r = ixs_at h i in (r.0, at_there r.1)
ixs_at [] x'' = elim x'' [ ]

-- as many as marks
ixs_length : (h : List Mark) → length (ixs h) ≡ length h
ixs_length [] = refl
ixs_length (m ∷ h) = ap suc (ixs_length h)

module _ {Arc : ℕ → ℕ → ℤ → Type 0} {o : ℕ} where
  -- a trail is a walk
  pub walked : {v : ℕ} {d : ℤ} {h : List Mark} → Trail Arc o v d h → Walk Arc o v d
  walked (begin e) = stay e
  walked (snoc t a e f) = join (walked t) (arc a) e

  -- the walk to what was passed, and the walk from there to the end
  rest : {v x : ℕ} {d a : ℤ} {h : List Mark} → Trail Arc o v d h → At x a h → Walk Arc o x a × ((t : ℤ) × Walk Arc x v t × (d ≡ a ⊕ t))
  rest {x} {a = b} (snoc {u} {v} {d} {c} t a e f) (at_here p q) = (subst₂ (λ y z. Walk Arc o y z) (sym p) (sym q) (walked t), (c, subst (λ y. Walk Arc y v c) (sym p) (arc a), rw q e))
  rest {d = g} {a = b} (snoc {d} {c} t a e f) (at_there i) =
      let r = rest t i in
      let s = r.1.0 in
      let k : d ≡ b ⊕ s = r.1.2 in
      (r.0, (s ⊕ c, join r.1.1 (arc a) refl, omega (arith, zed, sum d c, sum b s, sum s c, sum b (s ⊕ c))))
  rest {x = x} {a = b} (begin {e = e} _) x9 = elim x9 [ ]

  -- it repeats nothing, or shows a closed walk below zero
  pub fresh_or : {v : ℕ} {d : ℤ} {h : List Mark} → Trail Arc o v d h → NoDup (v ∷ ixs h) ⊎ NegativeFrom Arc o
  fresh_or (begin e) = inl (elim [ ], tt)
  fresh_or {d = g} (snoc {u} {v} {d} {e = z} {c} {h} t a e f) = go (fresh_or t) (in? v (u ∷ ixs h))
    where
      go : NoDup (u ∷ ixs h) ⊎ NegativeFrom Arc o → In v (u ∷ ixs h) ⊎ (In v (u ∷ ixs h) → ⊥) → NoDup (v ∷ u ∷ ixs h) ⊎ NegativeFrom Arc o
      go (inl n) (inl i) =
          let m = ixs_at (record { ix = u; had = d } ∷ h) i in
          let r = rest (snoc {e = z} t a e f) m.1 in
          let b : z <ℤ m.0 = f m.0 m.1 in
          let k : z ≡ m.0 ⊕ r.1.0 = r.1.2 in
          inr (record { x = v; a = m.0; t = r.1.0; reach = r.0; loop = r.1.1; below = omega (arith, zed, sum m.0 r.1.0) })
      go (inl n) (inr g) = inl (g, n)
      go (inr k) q = inr k

  -- a trail with as many arcs as there are indices
  pub too_long : {v : ℕ} {d : ℤ} {h : List Mark} (ps : List ℕ) → ((u v : ℕ) (c : ℤ) → Arc u v c → In u ps × In v ps) → In o ps → Trail Arc o v d h → length ps ≤ length h → NegativeFrom Arc o
  too_long {v} {d} {h} ps f i t l = go (fresh_or t)
    where
      all : {v : ℕ} {d : ℤ} {h : List Mark} → Trail Arc o v d h → (x : ℕ) → In x (v ∷ ixs h) → In x ps
      all (begin e) x (here q) = subst (λ y. In y ps) (sym q) i
      all (snoc {u} {v} {c} t a e g) x (here q) = subst (λ y. In y ps) (sym q) (f u v c a).1
      all (snoc {u} {v} t a e g) x (there j) = all t x j
      all (begin e) x (there j) = elim j [ ]

      go : NoDup (v ∷ ixs h) ⊎ NegativeFrom Arc o → NegativeFrom Arc o
      go (inl n) = absurd (omega (arith, short (v ∷ ixs h) ps n (all t), ixs_length h))
      go (inr k) = k
