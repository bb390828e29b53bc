-- Walks put together and cut apart. A walk can be cut at each index that it passes, and what follows the cut repeats nothing if the walk repeats nothing.
-- So a walk without repeats has fewer arcs than there are indices (Pigeon), and its total lies within that many times the greatest cost.
use mathlib.Core.Path.{◌≡◌, refl, sym, ap, subst}
use mathlib.Core.List.{List, [], ◌∷◌}
use Prim.Native.Nat.{ℕ, suc, ◌*◌, ◌<◌}
use native.Mathlib.Omega.{arith}
use lib.ListN.{length}
use lib.IntN.{ℤ, pos}
use lib.Signed.{◌≤ℤ◌, ◌<ℤ◌}
use Rattle.whole.specs.Zed.{◌⊕◌, zed, sum, Within, within_of}
use Rattle.walks.specs.Costs.{Costs}
use Rattle.walks.specs.Pigeon.{In, here, there, NoDup}
use Rattle.walks.specs.Walk.{Walk, stay, step, Least, NoNeg, NegativeFrom, Negative}
use Rattle.walks.proofs.Pigeon.{short}

-- a total split once more
split_total : (r c t a b : ℤ) → r ≡ c ⊕ t → t ≡ a ⊕ b → r ≡ (c ⊕ a) ⊕ b
split_total r c t a b e f = omega (arith, zed, sum c t, sum a b, sum c a, sum (c ⊕ a) b)

module _ {Arc : ℕ → ℕ → ℤ → Type 0} where
  -- the indices passed, the first and the last among them
  abbrev pub verts : {u v : ℕ} {t : ℤ} → Walk Arc u v t → List ℕ
  verts {u} (stay e) = u ∷ []
  verts {u} (step a w e) = u ∷ verts w

  -- the number of arcs
  abbrev pub arcs : {u v : ℕ} {t : ℤ} → Walk Arc u v t → ℕ
  arcs (stay e) = 0
  arcs (step a w e) = suc (arcs w)

  -- one index more than arcs
  pub verts_length : {u v : ℕ} {t : ℤ} (w : Walk Arc u v t) → length (verts w) ≡ suc (arcs w)
  verts_length (stay e) = refl
  verts_length (step a w e) = ap suc (verts_length w)

  -- one walk after another
  pub join : {u v w : ℕ} {s t r : ℤ} → Walk Arc u v s → Walk Arc v w t → r ≡ s ⊕ t → Walk Arc u w r
  join {s} {t} {r} (stay {u} e) b f = subst (Walk Arc u _) (omega (arith, zed, sum s t)) b
  join {s} {t} {r} (step {c} {t = q} a x e) b f = step {r = r} a (join x b refl) (omega (arith, zed, sum c q, sum s t, sum q t, sum c (q ⊕ t)))

  -- an arc as a walk
  pub arc : {u v : ℕ} {c : ℤ} → Arc u v c → Walk Arc u v c
  arc {c} a = step {r = c} a (stay refl) (omega (arith, zed, sum c (pos 0)))

  -- where no cost is below zero, no total is
  pub walk_up : ((u v : ℕ) (c : ℤ) → Arc u v c → pos 0 ≤ℤ c) → {u v : ℕ} {t : ℤ} → Walk Arc u v t → pos 0 ≤ℤ t
  walk_up f {t} (stay e) = omega (arith, zed)
  walk_up f {t = r} (step {u} {v} {c} {t} a w e) = omega (arith, zed, f u v c a, walk_up f w, sum c t)

  -- one least total
  pub least_unique : {s v : ℕ} {d e : ℤ} → Least Arc s v d → Least Arc s v e → d ≡ e
  least_unique {d} {e} a b =
      let h : d ≤ℤ e = a.least e b.walk in
      let k : e ≤ℤ d = b.least d a.walk in
      omega (arith, zed)

  -- ---- a walk cut at an index that it passes
  pub record Cut {u v : ℕ} {t : ℤ} (w : Walk Arc u v t) (x : ℕ) : Type 0 where
    pub a : ℤ
    pub b : ℤ
    pub pre : Walk Arc u x a
    pub suf : Walk Arc x v b
    pub total : t ≡ a ⊕ b
    pub fresh : NoDup (verts w) → NoDup (verts suf)

  -- at its start
  cut_here : {u v : ℕ} {t : ℤ} (w : Walk Arc u v t) (x : ℕ) → x ≡ u → Cut w x
  cut_here {u} {t} w x e = subst (λ y. Cut w y) (sym e) (record { a = pos 0; b = t; pre = stay refl; suf = w; total = omega (arith, zed, sum (pos 0) t); fresh = λ n. n })

  -- at any index passed
  pub cut : {u v : ℕ} {t : ℤ} (w : Walk Arc u v t) (x : ℕ) → In x (verts w) → Cut w x
  cut (stay q) x (here e) = cut_here (stay q) x e
  cut {t = r} (step {c} {t} a w q) x (here e) = cut_here (step {r = r} a w q) x e
  cut {t = r} (step {c} {t} a w q) x (there i) =
      let k = cut w x i in
      record { a = c ⊕ k.a; b = k.b; pre = step a k.pre refl; suf = k.suf; total = split_total r c t k.a k.b q k.total; fresh = λ n. k.fresh n.1 }
  cut (stay {u = u} {t = t} q) x (there i) = elim i [ ]

  -- every index of a walk is one of ps, if the ends of arcs are
  pub among : {u v : ℕ} {t : ℤ} (ps : List ℕ) → ((u v : ℕ) (c : ℤ) → Arc u v c → In v ps) → In u ps → (w : Walk Arc u v t) → (x : ℕ) → In x (verts w) → In x ps
  among ps f i (stay e) x (here q) = subst (λ y. In y ps) (sym q) i
  among ps f i (step a w e) x (here q) = subst (λ y. In y ps) (sym q) i
  among ps f i (step {u} {v} {c} a w e) x (there j) = among ps f (f u v c a) w x j
  among ps f i (stay {u = u} {t = t} e) x (there j) = elim j [ ]

  -- a walk without repeats has fewer arcs than there are indices
  pub few : {u v : ℕ} {t : ℤ} (ps : List ℕ) → ((u v : ℕ) (c : ℤ) → Arc u v c → In v ps) → In u ps → (w : Walk Arc u v t) → NoDup (verts w) → arcs w < length ps
  few ps f i w n = omega (arith, verts_length w, short (verts w) ps n (among ps f i w))

  -- the total of a walk, if every cost lies in -B ..= B
  pub bounded : {u v : ℕ} {t : ℤ} (B : ℕ) → Costs B Arc → (w : Walk Arc u v t) → Within (arcs w * B) t
  bounded {t} B f (stay e) = rw e (omega arith)
  bounded {t = r} B f (step {u} {v} {c} {t} a w e) =
      let k : Within B c = f u v c a in
      let l : Within (arcs w * B) t = bounded B f w in
      within_of (suc (arcs w) * B) r (omega (arith, zed, sum c t)) (omega (arith, zed, sum c t))

-- a closed walk below zero in reach, and none
pub not_both : {Arc : ℕ → ℕ → ℤ → Type 0} {s : ℕ} → NegativeFrom Arc s → NoNeg Arc s → ⊥
not_both k n = let p : pos 0 ≤ℤ k.t = n k.x k.a k.t k.reach k.loop in let q : k.t <ℤ pos 0 = k.below in omega (arith, zed)

-- one in reach is one anywhere
pub anywhere : {Arc : ℕ → ℕ → ℤ → Type 0} {o : ℕ} → NegativeFrom Arc o → Negative Arc
anywhere n = record { x = n.x; t = n.t; loop = n.loop; below = n.below }
