-- Each walk has a walk without repeats that is no dearer, unless a closed walk below zero is in reach.
-- By induction on the walk: an arc is put in front of a rest without repeats. If its tail stands in the rest, the rest is cut there; the arc with the part before
-- the cut is a closed walk, so it totals below zero, or leaving it out makes nothing dearer. A walk without repeats has fewer arcs than there are indices:
-- so least totals lie within that many times the greatest cost.
use mathlib.Core.Path.{◌≡◌, refl}
use mathlib.Core.Bool.{Bool, true, false}
use mathlib.Core.List.{List}
use mathlib.Core.Logic.{◌⊎◌, inl, inr}
use Prim.Native.Nat.{ℕ, ◌*◌, ◌≤◌, ◌<◌}
use native.Mathlib.Nat.{mul-le-mul_right, le_of_lt}
use native.Mathlib.Omega.{arith}
use lib.ListN.{length}
use lib.IntN.{ℤ, pos}
use lib.Signed.{lt_z, ◌≤ℤ◌}
use Rattle.whole.specs.Zed.{◌⊕◌, zed, sum, Within, within_of}
use Rattle.walks.specs.Pigeon.{In, NoDup}
use Rattle.walks.specs.Walk.{Walk, stay, step, Least, NoNeg, NegativeFrom, Negative}
use Rattle.walks.specs.Costs.{Costs}
use Rattle.walks.proofs.Pigeon.{in?}
use Rattle.walks.proofs.Walk.{arcs, verts, Cut, cut, few, bounded, not_both, anywhere}

-- a walk that is no dearer, with a total in -b ..= b
pub record Cheap (Arc : ℕ → ℕ → ℤ → Type 0) (b u v : ℕ) (t : ℤ) : Type 0 where
  pub s : ℤ
  pub walk : Walk Arc u v s
  pub cheap : s ≤ℤ t
  pub near : Within b s

module _ {Arc : ℕ → ℕ → ℤ → Type 0} where
  -- a walk without repeats that is no dearer
  pub record Simple {u v : ℕ} {t : ℤ} (w : Walk Arc u v t) : Type 0 where
    pub s : ℤ
    pub walk : Walk Arc u v s
    pub cheap : s ≤ℤ t
    pub nodup : NoDup (verts walk)

  -- what is in reach of the head of an arc is in reach of its tail
  from_arc : {u v : ℕ} (c : ℤ) → Arc u v c → NegativeFrom Arc v → NegativeFrom Arc u
  from_arc c a n = record { x = n.x; a = c ⊕ n.a; t = n.t; reach = step a n.reach refl; loop = n.loop; below = n.below }

  -- an arc in front of a walk without repeats
  front_from : {u v w : ℕ} {c t r : ℤ} (a : Arc u v c) (x : Walk Arc v w t) (e : r ≡ c ⊕ t) → Simple x → NegativeFrom Arc u ⊎ Simple (step a x e)
  front_from {u} {c} {t} {r} a x e q = go (in? u (verts q.walk))
    where
      at : (k : Cut q.walk u) (b : Bool) → lt_z (c ⊕ k.a) (pos 0) ≡ b → NegativeFrom Arc u ⊎ Simple (step a x e)
      at k true f = inl (record { x = u; a = pos 0; t = c ⊕ k.a; reach = stay refl; loop = step a k.pre refl; below = omega (arith, zed) })
      at k false f =
          let l : q.s ≤ℤ t = q.cheap in
          let m : q.s ≡ k.a ⊕ k.b = k.total in
          inr (record { s = k.b; walk = k.suf; cheap = omega (arith, zed, sum c k.a, sum k.a k.b, sum c t); nodup = k.fresh q.nodup })

      go : In u (verts q.walk) ⊎ (In u (verts q.walk) → ⊥) → NegativeFrom Arc u ⊎ Simple (step a x e)
      go (inl i) = let k = cut q.walk u i in at k (lt_z (c ⊕ k.a) (pos 0)) refl
      go (inr n) =
          let l : q.s ≤ℤ t = q.cheap in
          inr (record { s = c ⊕ q.s; walk = step a q.walk refl; cheap = omega (arith, zed, sum c q.s, sum c t); nodup = (n, q.nodup) })

  -- a walk without repeats that is no dearer
  pub simple_from : {u v : ℕ} {t : ℤ} (w : Walk Arc u v t) → NegativeFrom Arc u ⊎ Simple w
  simple_from {t} (stay {u} e) = inr (record { s = t; walk = stay e; cheap = omega (arith, zed); nodup = (elim [ ], tt) })
  simple_from {t = r} (step {u} {v} {c} {t} a w e) = go (simple_from w)
    where
      go : NegativeFrom Arc v ⊎ Simple w → NegativeFrom Arc u ⊎ Simple (step {r = r} a w e)
      go (inl n) = inl (from_arc c a n)
      go (inr q) = front_from a w e q

  -- the same, wherever the closed walk is
  pub simple_or : {u v : ℕ} {t : ℤ} (w : Walk Arc u v t) → Negative Arc ⊎ Simple w
  simple_or w = elim (simple_from w) [ inl n ↦ inl (anywhere n) | inr q ↦ inr q ]

  -- where each arc leads to a member of ps and costs are in -b ..= b
  module _ (ps : List ℕ) (b : ℕ) (ins : (u v : ℕ) (c : ℤ) → Arc u v c → In v ps) (costs : Costs b Arc) where
    -- a walk that is no dearer, with a total in -(p * b) ..= p * b
    pub cheap_or : {u v : ℕ} {t : ℤ} → In u ps → Walk Arc u v t → Negative Arc ⊎ Cheap Arc (length ps * b) u v t
    cheap_or {u} {v} {t} i w = go (simple_or w)
      where
        go : Negative Arc ⊎ Simple w → Negative Arc ⊎ Cheap Arc (length ps * b) u v t
        go (inl n) = inl n
        go (inr q) =
            let f : arcs q.walk < length ps = few ps ins i q.walk q.nodup in
            let m : arcs q.walk * b ≤ length ps * b = mul-le-mul_right b (le_of_lt f) in
            let g : Within (arcs q.walk * b) q.s = bounded b costs q.walk in
            inr (record { s = q.s; walk = q.walk; cheap = q.cheap; near = omega arith })

  -- with no closed walk below zero in reach, a least total lies within (p - 1) * B
  pub least_within : {s v : ℕ} {d : ℤ} (ps : List ℕ) (B : ℕ) → ((u v : ℕ) (c : ℤ) → Arc u v c → In v ps) → In s ps → Costs B Arc → NoNeg Arc s → Least Arc s v d
      → (n : ℕ) × n < length ps × Within (n * B) d
  least_within {s} {v} {d} ps B f i g nn l =
      let q : Simple l.walk = elim (simple_from l.walk) [ inl n ↦ absurd (not_both n nn) | inr q ↦ q ] in
      let b : Within (arcs q.walk * B) q.s = bounded B g q.walk in
      let e : d ≤ℤ q.s = l.least q.s q.walk in
      let h : q.s ≤ℤ d = q.cheap in
      (arcs q.walk, few ps f i q.walk q.nodup, within_of (arcs q.walk * B) d (omega (arith, zed)) (omega (arith, zed)))
