-- Rounds over the links of a table, and what they mean for walks. After r rounds each potential is at most the total of every walk with at most r arcs;
-- each potential is the total of some walk. So an arc that still lowers a potential after p - 1 rounds shows a closed walk below zero:
-- the walk to its head has a walk without repeats that is no dearer, with at most p - 1 arcs, unless such a closed walk is found on the way.
-- Assumes nothing.
use mathlib.Core.Path.{◌≡◌, refl, ap, ◌∙◌, subst}
use mathlib.Core.Bool.{true, false}
use mathlib.Core.List.{List}
use mathlib.Core.Logic.{◌⊎◌, inl, inr, ⊎_elim}
use Prim.Native.Nat.{ℕ, zero, suc, ◌+◌, ◌-◌, ◌*◌, ◌≤◌, ◌<◌, ◌^◌}
use native.Mathlib.Numerals.{add-one}
use native.Mathlib.Nat.{mul-le-mul_right}
use native.Mathlib.Omega.{arith}
use native.Mathlib.Decide.{ℕ_discrete}
use lib.IntN.{ℤ, pos}
use lib.Signed.{◌≤ℤ◌, ◌<ℤ◌}
use lib.ListN.{length}
use Rattle.whole.specs.Zed.{◌⊕◌, P, N, zed, sum, Within}
use Rattle.walks.specs.Pigeon.{In}
use Rattle.walks.specs.Walk.{Walk, stay, step, Negative}
use Rattle.walks.proofs.Walk.{join, arc, arcs, few, bounded}
use Rattle.walks.proofs.Cheap.{Simple, simple_or}
use Rattle.walks.specs.Costs.{Costs32}
use Rattle.johnson.specs.Rounds.{label, lowers, looked, Table, tail, head, cost, swept, rounds, Bounded, StillTo, Linked}
use Rattle.johnson.specs.Potentials.{Resting}
use Rattle.johnson.proofs.Looks.{Came, lowers_below, link_long, link_falls, link_reaches, link_came}

pub swept_none : (t : Table) (h : List ℤ) → swept t 0 h ≡ h
unfolding swept
swept_none t h = refl

pub swept_more : (t : Table) (k : ℕ) (h : List ℤ) → swept t (k + 1) h ≡ looked t.directed (tail t k) (head t k) (cost t k) (swept t k h)
unfolding swept
swept_more t k h = ap (λ (i : ℕ). swept t i h) (add-one k)

pub rounds_none : (t : Table) (n : ℕ) (h : List ℤ) → rounds t n 0 h ≡ h
unfolding rounds
rounds_none t n h = refl

pub rounds_more : (t : Table) (n r : ℕ) (h : List ℤ) → rounds t n (r + 1) h ≡ swept t n (rounds t n r h)
unfolding rounds
rounds_more t n r h = ap (λ (i : ℕ). rounds t n i h) (add-one r)

-- the first round set apart
rounds_first : (t : Table) (n r : ℕ) (h : List ℤ) → rounds t n (suc r) h ≡ rounds t n r (swept t n h)
unfolding rounds
rounds_first t n zero h = refl
rounds_first t n (suc r) h = ap (swept t n) (rounds_first t n r h)

module _ {m n : ℕ} {t : Table} (sound : Linked m n t) where
  swept_long : (k : ℕ) (h : List ℤ) → length (swept t k h) ≡ length h
  unfolding swept
  swept_long zero h = refl
  swept_long (suc k) h = link_long t.directed (tail t k) (head t k) (cost t k) (swept t k h) ∙ swept_long k h

  module _ (h : List ℤ) (long : length h ≡ m) where
    tail_below : (k : ℕ) → k < n → tail t k < length (swept t k h)
    tail_below k l = omega (arith, sound.tails k l, swept_long k h)

    head_below : (k : ℕ) → k < n → head t k < length (swept t k h)
    head_below k l = omega (arith, sound.heads k l, swept_long k h)

    pub swept_falls : (k : ℕ) → k ≤ n → (x : ℕ) → label (swept t k h) x ≤ℤ label h x
    unfolding swept
    swept_falls zero l x = omega (arith, zed)
    swept_falls (suc k) l x =
        let p : label (swept t k h) x ≤ℤ label h x = swept_falls k (omega arith) x in
        let q : label (looked t.directed (tail t k) (head t k) (cost t k) (swept t k h)) x ≤ℤ label (swept t k h) x =
        link_falls t.directed (tail t k) (head t k) (cost t k) (swept t k h) (tail_below k (omega arith)) (head_below k (omega arith)) x in
        omega (arith, zed)

    -- a round reaches over each link
    pub swept_reaches : (k : ℕ) → k ≤ n → (j : ℕ) → j < k → Bounded t.directed (tail t j) (head t j) (cost t j) h (swept t k h)
    unfolding swept
    swept_reaches zero l j i = absurd (omega arith)
    swept_reaches (suc k) l j i = go (ℕ_discrete j k) (λ q. swept_reaches k (omega arith) j q)
      where
        falls : (x : ℕ) → label (looked t.directed (tail t k) (head t k) (cost t k) (swept t k h)) x ≤ℤ label (swept t k h) x
        falls = link_falls t.directed (tail t k) (head t k) (cost t k) (swept t k h) (tail_below k (omega arith)) (head_below k (omega arith))

        on : (x : ℕ) {b : ℤ} → label (swept t k h) x ≤ℤ b → label (looked t.directed (tail t k) (head t k) (cost t k) (swept t k h)) x ≤ℤ b
        on x {b} p = let q : label (looked t.directed (tail t k) (head t k) (cost t k) (swept t k h)) x ≤ℤ label (swept t k h) x = falls x in omega (arith, zed)

        since : (a b c x : ℤ) → a ≤ℤ b ⊕ c → b ≤ℤ x → a ≤ℤ x ⊕ c
        since a b c x p q = omega (arith, zed, sum b c, sum x c)

        go : Dec (j ≡ k) → (j < k → Bounded t.directed (tail t j) (head t j) (cost t j) h (swept t k h))
            → Bounded t.directed (tail t j) (head t j) (cost t j) h (looked t.directed (tail t k) (head t k) (cost t k) (swept t k h))
        go (yes e) r =
            let w = link_reaches t.directed (tail t k) (head t k) (cost t k) (swept t k h) (tail_below k (omega arith)) (head_below k (omega arith)) in
            rw e
            (record {
              there = since _ (label (swept t k h) (tail t k)) (cost t k) _ w.there (swept_falls k (omega arith) (tail t k));
              return = λ d. since _ (label (swept t k h) (head t k)) (cost t k) _ (w.return d) (swept_falls k (omega arith) (head t k));
            })
        go (no f) r = let w = r (omega (arith, f)) in record { there = on (head t j) w.there; return = λ d. on (tail t j) (w.return d) }

    pub swept_came : {Arc : ℕ → ℕ → ℤ → Type 0} → ((k : ℕ) → k < n → Arc (tail t k) (head t k) (cost t k)) → ((k : ℕ) → k < n → t.directed ≡ false → Arc (head t k) (tail t k) (cost t k)) → Came Arc h
        → (k : ℕ) → k ≤ n → Came Arc (swept t k h)
    unfolding swept
    swept_came a b w zero l = w
    swept_came a b w (suc k) l =
        link_came t.directed (tail t k) (head t k) (cost t k) (swept t k h) (tail_below k (omega arith)) (head_below k (omega arith)) (a k (omega arith)) (b k (omega arith))
        (swept_came a b w k (omega arith))

  rounds_long : (r : ℕ) (h : List ℤ) → length (rounds t n r h) ≡ length h
  unfolding rounds
  rounds_long zero h = refl
  rounds_long (suc r) h = swept_long n (rounds t n r h) ∙ rounds_long r h

  rounds_falls : (r : ℕ) (h : List ℤ) → length h ≡ m → (x : ℕ) → label (rounds t n r h) x ≤ℤ label h x
  unfolding rounds
  rounds_falls zero h l x = omega (arith, zed)
  rounds_falls (suc r) h l x =
      let p : label (rounds t n r h) x ≤ℤ label h x = rounds_falls r h l x in
      let q : label (swept t n (rounds t n r h)) x ≤ℤ label (rounds t n r h) x = swept_falls (rounds t n r h) (rounds_long r h ∙ l) n (omega arith) x in
      omega (arith, zed)

-- the place of an arc among the links
pub record Placed (t : Table) (n u v : ℕ) (c : ℤ) : Type 0 where
  pub at : ℕ
  pub within : at < n
  pub cost : cost t at ≡ c
  pub ends : ((tail t at ≡ u) × (head t at ≡ v)) ⊎ ((t.directed ≡ false) × (tail t at ≡ v) × (head t at ≡ u))

-- the arcs of a net are those of the links
pub record Arcs (Arc : ℕ → ℕ → ℤ → Type 0) (t : Table) (n : ℕ) : Type 0 where
  pub there : (k : ℕ) → k < n → Arc (tail t k) (head t k) (cost t k)
  pub return : (k : ℕ) → k < n → t.directed ≡ false → Arc (head t k) (tail t k) (cost t k)
  pub place : (u v : ℕ) (c : ℤ) → Arc u v c → Placed t n u v c

module _ {n : ℕ} {t : Table} {Arc : ℕ → ℕ → ℤ → Type 0} (arcs_of : Arcs Arc t n) where
  reached_arc : (h h' : List ℤ) → ((j : ℕ) → j < n → Bounded t.directed (tail t j) (head t j) (cost t j) h h') → (u v : ℕ) (c : ℤ) → Arc u v c → label h' v ≤ℤ label h u ⊕ c
  reached_arc h h' r u v c a = go (arcs_of.place u v c a)
    where
      go : Placed t n u v c → label h' v ≤ℤ label h u ⊕ c
      go q =
          ⊎_elim (λ e. rw (← q.cost, ← e.0, ← e.1) (r q.at q.within).there)
          (λ e. rw (← q.cost, ← e.1, ← e.2) ((r q.at q.within).return e.0)) q.ends

  pub still_resting : (h : List ℤ) → StillTo t n h → Resting Arc h
  still_resting h s u v c a = reached_arc h h s u v c a

  -- what holds of each link's cost holds of each arc's
  pub each_cost : (Q : ℤ → Type 0) → ((k : ℕ) → k < n → Q (cost t k)) → (u v : ℕ) (c : ℤ) → Arc u v c → Q c
  each_cost Q f u v c a = let q = arcs_of.place u v c a in subst Q q.cost (f q.at q.within)

  module _ {m : ℕ} (sound : Linked m n t) where
    -- after r rounds each potential is at most the total of every walk with at most r arcs
    pub rounds_low : (r : ℕ) (h : List ℤ) → length h ≡ m → {s v : ℕ} {x : ℤ} (w : Walk Arc s v x) → arcs w ≤ r → label (rounds t n r h) v ≤ℤ label h s ⊕ x
    rounds_low r h l {s} {v} {x} (stay e) k = let p : label (rounds t n r h) v ≤ℤ label h v = rounds_falls sound r h l v in omega (arith, zed, sum (label h v) x)
    rounds_low zero h l (step a w e) k = absurd (omega arith)
    rounds_low (suc r) h l {s} {v} {x} (step {u} {v = y} {c} {t = z} a w e) k =
        let p : label (rounds t n r (swept t n h)) v ≤ℤ label (swept t n h) y ⊕ z = rounds_low r (swept t n h) (swept_long sound n h ∙ l) w (omega arith) in
        let q : label (swept t n h) y ≤ℤ label h s ⊕ c = reached_arc h (swept t n h) (swept_reaches sound h l n (omega arith)) s y c a in
        rw (rounds_first t n r h) (omega (arith, zed, sum (label (swept t n h) y) z, sum (label h s) c, sum (label h s) x, sum c z))

    pub rounds_came : (h : List ℤ) → length h ≡ m → Came Arc h → (r : ℕ) → Came Arc (rounds t n r h)
    unfolding rounds
    rounds_came h l w zero = w
    rounds_came h l w (suc r) = swept_came sound (rounds t n r h) (rounds_long sound r h ∙ l) arcs_of.there arcs_of.return (rounds_came h l w r) n (omega arith)

-- ---- potentials that no arc lowers
module _ {Arc : ℕ → ℕ → ℤ → Type 0} (h : List ℤ) (resting : Resting Arc h) where
  pub along : {u v : ℕ} {x : ℤ} → Walk Arc u v x → label h v ≤ℤ label h u ⊕ x
  along {u} {v} {x} (stay e) = omega (arith, zed, sum (label h u) x)
  along {u} {v} {x} (step {v = y} {c} {t = z} a w e) =
      let p : label h y ≤ℤ label h u ⊕ c = resting u y c a in
      let q : label h v ≤ℤ label h y ⊕ z = along w in
      omega (arith, zed, sum (label h u) c, sum (label h y) z, sum (label h u) x, sum c z)

  -- then no closed walk is below zero
  pub none_below : Negative Arc → ⊥
  none_below k =
      let p : label h k.x ≤ℤ label h k.x ⊕ k.t = along k.loop in
      let q : k.t <ℤ pos 0 = k.below in
      omega (arith, zed, sum (label h k.x) k.t)

-- ---- nets of few indices
module _ {Arc : ℕ → ℕ → ℤ → Type 0} (ps : List ℕ) (ends : (u v : ℕ) (c : ℤ) → Arc u v c → In u ps × In v ps) where
  start_in : {s v : ℕ} {x : ℤ} → Walk Arc s v x → In v ps → In s ps
  start_in (stay e) i = i
  start_in (step {u} {v} {c} a w e) i = (ends u v c a).0

  -- an arc that lowers a potential after as many rounds as there are indices but one
  pub open_negative : {m n : ℕ} {t : Table} → Arcs Arc t n → Linked m n t → (h : List ℤ) → length h ≡ m → ((x : ℕ) → label h x ≡ pos 0) → (r : ℕ) → length ps ≤ r + 1
      → (u v : ℕ) (c : ℤ) → Arc u v c → lowers u v c (rounds t n r h) ≡ true → Negative Arc
  open_negative {n} {t} arcs_of sound h long nought r enough u v c a e = go (simple_or whole)
    where
      came : Came Arc (rounds t n r h)
      came = rounds_came arcs_of sound h long (λ x. (x, stay (nought x))) r

      whole : Walk Arc (came u).0 v (label (rounds t n r h) u ⊕ c)
      whole = join (came u).1 (arc a) refl

      go : Negative Arc ⊎ Simple whole → Negative Arc
      go (inl k) = k
      go (inr q) =
          let f : arcs q.walk < length ps = few ps (λ x y z b. (ends x y z b).1) (start_in whole (ends u v c a).1) q.walk q.nodup in
          let low : label (rounds t n r h) v ≤ℤ label h (came u).0 ⊕ q.s = rounds_low arcs_of sound r h long q.walk (omega arith) in
          let cheap : q.s ≤ℤ label (rounds t n r h) u ⊕ c = q.cheap in
          let z : label h (came u).0 ≡ pos 0 = nought (came u).0 in
          absurd (omega (arith, zed, lowers_below u v c (rounds t n r h) e, sum (label h (came u).0) q.s))

  -- resting potentials that are totals of walks lie within the costs of a walk without repeats
  pub settled_low : (h : List ℤ) → Resting Arc h → Came Arc h → Costs32 Arc → ((v : ℕ) → P (label h v) ≡ 0) → (v : ℕ) → N (label h v) ≤ (length ps - 1) * 2 ^ 31
  settled_low h resting came small high v = from (label h v) (high v) refl (came v).1
    where
      from : {s : ℕ} (x : ℤ) → P x ≡ 0 → x ≡ label h v → Walk Arc s v x → N x ≤ (length ps - 1) * 2 ^ 31
      from x z f (stay e) = omega (arith, zed)
      from {s} x z f (step {v = y} {c} a w e) = go (simple_or (step {r = x} a w e))
        where
          go : Negative Arc ⊎ Simple (step {r = x} a w e) → N x ≤ (length ps - 1) * 2 ^ 31
          go (inl k) = absurd (none_below h resting k)
          go (inr q) =
              let l : arcs q.walk < length ps = few ps (λ i j k b. (ends i j k b).1) (ends s y c a).0 q.walk q.nodup in
              let k : arcs q.walk * 2 ^ 31 ≤ (length ps - 1) * 2 ^ 31 = mul-le-mul_right (2 ^ 31) (omega arith) in
              let b : Within (arcs q.walk * 2 ^ 31) q.s = bounded (2 ^ 31) small q.walk in
              let cheap : q.s ≤ℤ x = q.cheap in
              omega (arith, zed)
