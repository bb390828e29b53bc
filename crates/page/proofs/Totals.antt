-- A page of least totals is right.
-- The argument: with no negative closed walk in reach, the source's least total is 0, and an entry that is one lies in its range.
-- A least total and an arc make a walk, so no arc leads to none or to more. The last arc of a least walk meets its head: what comes before it is least too.
-- Assumes nothing.
use mathlib.Core.Path.{◌≡◌, refl, sym, subst}
use mathlib.Core.Bool.{true}
use mathlib.Core.List.{List}
use mathlib.Core.Logic.{◌⊎◌, inl, inr, ⊎_elim}
use Prim.Native.Nat.{ℕ, ◌<◌, ◌^◌}
use native.Mathlib.Omega.{arith}
use lib.IntN.{ℤ, pos}
use lib.Signed.{◌≤ℤ◌}
use Rattle.whole.specs.Zed.{◌⊕◌, zed, sum, Within}
use Rattle.walks.specs.Walk.{Walk, stay, step, Least, NoNeg, Entry}
use Rattle.walks.proofs.Walk.{join, arc}
use Rattle.numbers.specs.Numbers.{here, past}
use Rattle.net.specs.Net.{Net, ArcOf, inside_net, has}
use Rattle.net.proofs.Nodes.{has_below}
use Rattle.net.proofs.Same.{arc_below}
use Rattle.page.specs.Promise.{entry, Known, Meets, Right, enough, Answer, answer_of, Promise}
use Rattle.page.proofs.Settles.{promise_one}

-- a walk with an arc, cut before its last
pub record Last (A : ℕ → ℕ → ℤ → Type 0) (s v : ℕ) (d : ℤ) : Type 0 where
  pub u : ℕ
  pub c : ℤ
  pub t : ℤ
  pub walk : Walk A s u t
  pub arc : A u v c
  pub total : d ≡ t ⊕ c

-- a walk has no arc, or a last one
pub last : {A : ℕ → ℕ → ℤ → Type 0} {s v : ℕ} {d : ℤ} → Walk A s v d → ((s ≡ v) × (d ≡ pos 0)) ⊎ Last A s v d
last (stay e) = inl (refl, e)
last {A} {d = r} (step {u = x} {v = y} {w = z} {c} {t} a w e) = go (last w)
  where
    go : ((y ≡ z) × (t ≡ pos 0)) ⊎ Last A y z t → ((x ≡ z) × (r ≡ pos 0)) ⊎ Last A x z r
    go (inl q) = let k : t ≡ pos 0 = q.1 in inr (record { u = x; c = c; t = pos 0; walk = stay refl; arc = subst (λ (j : ℕ). A x j c) q.0 a; total = omega (arith, zed, sum c t, sum (pos 0) c) })
    go (inr k) =
        let f : t ≡ k.t ⊕ k.c = k.total in
        inr (record { u = k.u; c = k.c; t = c ⊕ k.t; walk = step a k.walk refl; arc = k.arc; total = omega (arith, zed, sum c t, sum k.t k.c, sum c k.t, sum (c ⊕ k.t) k.c) })

module _ (g : Net ℤ) (s : ℕ) (page : List ℤ) (inside : inside_net g ≡ true) (source : has g s ≡ true) (none : NoNeg (ArcOf g) s)
    (each : (v : ℕ) → v < g.bound → Entry (ArcOf g) s v (entry page v)) where
  -- a least total that lies in its range
  abbrev Found : ℕ → Type 0
  Found v = Least (ArcOf g) s v (entry page v) × Within (2 ^ 41) (entry page v)

  -- is not none
  known : {v : ℕ} → Found v → Known page v
  known {v} l q = let w = l.1 in omega (arith, zed)

  -- an index that a walk reaches has its least total
  reach : (v : ℕ) → v < g.bound → (t : ℤ) → Walk (ArcOf g) s v t → Found v
  reach v h t w = ⊎_elim (λ l. l) (λ p. absurd (p.1 t w)) (each v h)

  -- and so has one with a distance
  told : (v : ℕ) → v < g.bound → Known page v → Found v
  told v h k = ⊎_elim (λ l. l) (λ p. absurd (k p.0)) (each v h)

  -- the last arc of a least walk meets its head
  meets : (v : ℕ) → v < g.bound → (v ≡ s → ⊥) → Least (ArcOf g) s v (entry page v) → Meets (ArcOf g) page v
  meets v h n l = go (last l.walk)
    where
      go : ((s ≡ v) × (entry page v ≡ pos 0)) ⊎ Last (ArcOf g) s v (entry page v) → Meets (ArcOf g) page v
      go (inl q) = absurd (n (sym q.0))
      go (inr k) =
          let m = reach k.u (arc_below g inside k.u v k.c k.arc).0 k.t k.walk in
          let p : entry page k.u ≤ℤ k.t = m.0.least k.t k.walk in
          let q : entry page v ≤ℤ entry page k.u ⊕ k.c = l.least (entry page k.u ⊕ k.c) (join m.0.walk (arc k.arc) refl) in
          let e : entry page v ≡ k.t ⊕ k.c = k.total in
          record { u = k.u; c = k.c; arc = k.arc; known = known m; exact = omega (arith, zed, sum (entry page k.u) k.c, sum k.t k.c) }

  -- each entry a least total, or none without a walk: right
  pub totals_right : Right (ArcOf g) g.bound s page
  totals_right =
      record {
        starts = starts;
        holds = holds;
        reached = λ v h n k. meets v h n (told v h k).0;
        ranged = λ v h. ⊎_elim (λ l. inr (omega (arith, l.1))) (λ p. inl p.0) (each v h);
      }
    where
      starts : entry page s ≡ pos 0
      starts =
          let l = (reach s (has_below g s source) (pos 0) (stay refl)).0 in
          let p : entry page s ≤ℤ pos 0 = l.least (pos 0) (stay refl) in
          let q : pos 0 ≤ℤ entry page s = none s (pos 0) (entry page s) (stay refl) l.walk in
          omega (arith, zed)

      holds : (u v : ℕ) (c : ℤ) → ArcOf g u v c → Known page u → Known page v × (entry page v ≤ℤ entry page u ⊕ c)
      holds u v c a k =
          let b = arc_below g inside u v c a in
          let l = (told u b.0 k).0 in
          let w : Walk (ArcOf g) s v (entry page u ⊕ c) = join l.walk (arc a) refl in
          let m = reach v b.1 (entry page u ⊕ c) w in
          (known m, m.0.least (entry page u ⊕ c) w)

-- so the answer to such a page is yes
pub totals_yes : (g : Net ℤ) (s : ℕ) (page : List ℤ) {a : Answer} → enough g page ≡ true → inside_net g ≡ true → has g s ≡ true → NoNeg (ArcOf g) s
    → ((v : ℕ) → v < g.bound → Entry (ArcOf g) s v (entry page v)) → Promise g s page a → a ≡ answer_of 0 true
totals_yes g s page p i h none each a = promise_one a (record { follows = past p (past i (past h (here (totals_right g s page i h none each) (refl, refl)))) })
