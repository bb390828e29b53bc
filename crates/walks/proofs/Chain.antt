-- A chain of predecessors is a walk no dearer than the difference of the distances at its ends. There is one chain from an index, since each index has one predecessor;
-- so no index stands on it twice, and it has fewer arcs than there are indices. With the cheapest arc at each step its total is never above the distance.
use mathlib.Core.Path.{◌≡◌, refl, sym, ap, ◌∙◌, subst}
use mathlib.Core.List.{List, ◌∷◌}
use mathlib.Core.Option.{Option, some}
use Prim.Native.Nat.{ℕ, suc, ◌≤◌, ◌<◌}
use native.Mathlib.Omega.{arith}
use lib.ListN.{length}
use lib.IntN.{ℤ, pos}
use lib.Signed.{◌≤ℤ◌}
use Rattle.whole.specs.Zed.{◌⊕◌, zed, sum}
use Rattle.walks.specs.Pigeon.{In, here, there, NoDup}
use Rattle.walks.specs.Walk.{Walk, stay}
use Rattle.walks.specs.Chain.{Chain, source, via, hops, passed, CheapestArc, Cheapest}
use Rattle.walks.proofs.Pigeon.{short}
use Rattle.walks.proofs.Walk.{join, arc}

module _ {Arc : ℕ → ℕ → ℤ → Type 0} {o : ℕ} {dist : ℕ → Option ℤ} {pred : ℕ → Option ℕ} where
  -- it is a walk, at most as dear as the difference of the distances
  pub chain_walk : {v : ℕ} (b e : ℤ) → dist o ≡ some b → dist v ≡ some e → Chain Arc o dist pred v → (t : ℤ) × Walk Arc o v t × b ⊕ t ≤ℤ e
  chain_walk {v} b e p q (source i) =
      let k : some b ≡ some e = sym p ∙ ap dist (sym i) ∙ q in
      let z : b ≡ e = cc in
      (pos 0, subst (λ (x : ℕ). Walk Arc o x (pos 0)) (sym i) (stay refl), omega (arith, zed, sum b (pos 0)))
  chain_walk {v} b e p q (via u n r l c) =
      let x = chain_walk b l.d p l.from c in
      let k : some l.e ≡ some e = sym l.to ∙ q in
      let y : l.e ≡ e = cc in
      let z : b ⊕ x.0 ≤ℤ l.d = x.2 in
      let w : l.d ⊕ l.c ≤ℤ l.e = l.low in
      (x.0 ⊕ l.c, join x.1 (arc l.arc_is) refl, omega (arith, zed, sum b x.0, sum l.d l.c, sum x.0 l.c, sum b (x.0 ⊕ l.c)))

  -- there is one chain: it has one number of arcs
  pub hops_one : {v w : ℕ} (c : Chain Arc o dist pred v) (b : Chain Arc o dist pred w) → v ≡ w → hops c ≡ hops b
  hops_one (source i) (source j) e = refl
  hops_one (source i) (via u n p l b) e = absurd (n (sym e ∙ i))
  hops_one (via u n p l c) (source j) e = absurd (n (e ∙ j))
  hops_one (via u n p l c) (via u' n' p' l' b) e = let k : some u ≡ some u' = sym p ∙ ap pred e ∙ p' in ap suc (hops_one c b (cc))

  -- an index on it has a chain no longer
  tail_at : {v : ℕ} (c : Chain Arc o dist pred v) (x : ℕ) → In x (passed c) → (b : Chain Arc o dist pred x) × hops b ≤ hops c
  tail_at (source i) x (here e) = (source (e ∙ i), omega arith)
  tail_at {v} (via u n p l c) x (here e) = (
    via {v = x} u (λ q. n (sym e ∙ q)) (ap pred e ∙ p)
        (record { d = l.d; e = l.e; c = l.c; from = l.from; to = ap dist e ∙ l.to; arc_is = subst (λ (z : ℕ). Arc u z l.c) (sym e) l.arc_is; up = l.up; low = l.low }) c,
    omega arith,
  )
  tail_at (source {v = v} i) x (there x8) = elim x8 [ ]
  tail_at (via u n p l c) x (there i) = let r = tail_at c x i in (r.0, omega (arith, r.1))

  -- no index twice
  pub chain_distinct : {v : ℕ} (c : Chain Arc o dist pred v) → NoDup (passed c)
  chain_distinct (source e) = (elim [ ], tt)
  chain_distinct {v} (via u n p l c) = (λ i. let r = tail_at c v i in let k : hops r.0 ≡ suc (hops c) = hops_one r.0 (via u n p l c) refl in omega (arith, r.1), chain_distinct c)

  -- one index more than arcs
  pub passed_length : {v : ℕ} (c : Chain Arc o dist pred v) → length (passed c) ≡ suc (hops c)
  passed_length (source e) = refl
  passed_length (via u n p l c) = ap suc (passed_length c)

  -- the indices on it have distances
  passed_in : {v : ℕ} (ps : List ℕ) → ((x : ℕ) (d : ℤ) → dist x ≡ some d → In x ps) → (e : ℤ) → dist v ≡ some e → (c : Chain Arc o dist pred v) → (x : ℕ) → In x (passed c) → In x ps
  passed_in {v} ps f e q (source i) x (here k) = subst (λ (z : ℕ). In z ps) (sym k) (f v e q)
  passed_in {v} ps f e q (via u n p l c) x (here k) = subst (λ (z : ℕ). In z ps) (sym k) (f v e q)
  passed_in ps f e q (via u n p l c) x (there i) = passed_in ps f l.d l.from c x i
  passed_in ps f e q (source {v = v} i) x (there x12) = elim x12 [ ]

  -- so it has fewer arcs than there are indices
  pub hops_few : {v : ℕ} (ps : List ℕ) → ((x : ℕ) (d : ℤ) → dist x ≡ some d → In x ps) → (e : ℤ) → dist v ≡ some e → (c : Chain Arc o dist pred v) → hops c < length ps
  hops_few ps f e q c = omega (arith, passed_length c, short (passed c) ps (chain_distinct c) (passed_in ps f e q c))

  -- the last arc of a path
  last_step : {v u : ℕ} {t : ℤ} (c : Chain Arc o dist pred u) → Cheapest Arc (v ∷ passed c) t → (b : ℤ) × (r : ℤ) × CheapestArc Arc u v b × Cheapest Arc (passed c) r × (t ≡ r ⊕ b)
  last_step (source e) h = h
  last_step (via u n p l c) h = h

  -- it is never above the distance
  pub cheapest_low : {v : ℕ} (t b e : ℤ) → dist o ≡ some b → dist v ≡ some e → (c : Chain Arc o dist pred v) → Cheapest Arc (passed c) t → b ⊕ t ≤ℤ e
  cheapest_low {v} t b e p q (source i) h =
      let k : some b ≡ some e = sym p ∙ ap dist (sym i) ∙ q in
      let z : b ≡ e = cc in
      let y : t ≡ pos 0 = h in
      omega (arith, zed, sum b t)
  cheapest_low {v} t b e p q (via u n r l c) h =
      let x = last_step c h in
      let y : b ⊕ x.1 ≤ℤ l.d = cheapest_low x.1 b l.d p l.from c x.3 in
      let k : some l.e ≡ some e = sym l.to ∙ q in
      let z : l.e ≡ e = cc in
      let w : l.d ⊕ l.c ≤ℤ l.e = l.low in
      let g : t ≡ x.1 ⊕ x.0 = x.4 in
      omega (arith, zed, x.2.lowest l.c l.arc_is, sum b x.1, sum l.d l.c, sum x.1 x.0, sum b t)

  -- and is a walk's total
  pub cheapest_walk : {v : ℕ} {t : ℤ} (c : Chain Arc o dist pred v) → Cheapest Arc (passed c) t → Walk Arc o v t
  cheapest_walk {v} {t} (source i) h = subst (λ (x : ℕ). Walk Arc o x t) (sym i) (stay {t = t} h)
  cheapest_walk {v} {t} (via u n r l c) h = let x = last_step c h in join (cheapest_walk c x.3) (arc x.2.arc_is) x.4
