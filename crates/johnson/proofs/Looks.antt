-- Looks at arcs, links and rounds: potentials only fall, each round reaches over every arc, each potential is the total of a walk, and none falls too far.
-- A look at an arc stores the potential of its tail and its cost where that is less, and else nothing: whatever holds in both cases holds after it (`by_look`). So
-- no potential rises, that of the head is at most the sum, a walk to the tail and the arc are the walk to the head, and one look falls by one greatest cost at most.
-- A link is one look, or two if undirected (`by_link`).
-- Assumes nothing.
use mathlib.Core.Path.{◌≡◌, refl, sym, ap, ◌∙◌, subst}
use mathlib.Core.Bool.{Bool, true, false}
use mathlib.Core.List.{List}
use Prim.Native.Nat.{ℕ, ◌+◌, ◌-◌, ◌*◌, ◌≤◌, ◌<◌, ◌^◌}
use native.Mathlib.Omega.{arith}
use native.Mathlib.Decide.{ℕ_discrete}
use lib.IntN.{ℤ, pos, negsuc}
use lib.Signed.{◌≤ℤ◌}
use lib.ListN.{length, set, length-set}
use lib.Seq.{get_or-set_same, get_or-set_other}
use Rattle.whole.specs.Zed.{◌⊕◌, P, N, zed, sum, Cost32}
use Rattle.whole.proofs.Cases.{clash}
use Rattle.walks.specs.Walk.{Walk}
use Rattle.walks.proofs.Walk.{join, arc}
use Rattle.johnson.specs.Rounds.{label, lowers, lowered, looked, Bounded, Shallow}

-- one of the two parts of a number is 0
pub parts : (z : ℤ) → P z - N z ≡ P z
parts (pos n) = omega arith
parts (negsuc n) = omega arith

-- ---- one arc
module _ (u v : ℕ) (c : ℤ) (h : List ℤ) where
  pub lowered_yes : lowers u v c h ≡ true → lowered u v c h ≡ set h v (label h u ⊕ c)
  unfolding lowered
  lowered_yes e = rw e

  pub lowered_no : lowers u v c h ≡ false → lowered u v c h ≡ h
  unfolding lowered
  lowered_no e = rw e

  pub lowers_below : lowers u v c h ≡ true → P (label h u ⊕ c) + N (label h v) < P (label h v) + N (label h u ⊕ c)
  unfolding lowers
  lowers_below e = omega (arith, zed)

  pub lowers_still : lowers u v c h ≡ false → label h v ≤ℤ label h u ⊕ c
  unfolding lowers
  lowers_still e = omega (arith, zed)

  -- what holds where the potential falls, and where it stays, holds after a look
  pub by_look : (Q : List ℤ → Type 0) → (lowers u v c h ≡ true → Q (set h v (label h u ⊕ c))) → (lowers u v c h ≡ false → Q h) → Q (lowered u v c h)
  by_look Q f g = go (lowers u v c h) refl
    where
      go : (b : Bool) → lowers u v c h ≡ b → Q (lowered u v c h)
      go true e = subst Q (sym (lowered_yes e)) (f e)
      go false e = subst Q (sym (lowered_no e)) (g e)

  -- the potential of x after a store at v
  pub by_store : (Q : ℤ → Type 0) (x : ℕ) → v < length h → (x ≡ v → Q (label h u ⊕ c)) → Q (label h x) → Q (label (set h v (label h u ⊕ c)) x)
  by_store Q x below f g = go (ℕ_discrete x v)
    where
      go : Dec (x ≡ v) → Q (label (set h v (label h u ⊕ c)) x)
      go (yes e) = subst Q (sym (ap (label (set h v (label h u ⊕ c))) e ∙ get_or-set_same h v (label h u ⊕ c) (pos 0) below)) (f e)
      go (no n) = subst Q (sym (get_or-set_other h v x (label h u ⊕ c) (pos 0) n)) g

  pub look_long : length (lowered u v c h) ≡ length h
  look_long = by_look (λ (l : List ℤ). length l ≡ length h) (λ e. length-set h v (label h u ⊕ c)) (λ e. refl)

  module _ (below : v < length h) where
    pub look_falls : (x : ℕ) → label (lowered u v c h) x ≤ℤ label h x
    look_falls x =
        by_look (λ (l : List ℤ). label l x ≤ℤ label h x)
        (λ e. by_store (λ (z : ℤ). z ≤ℤ label h x) x below (λ q. let k : label h x ≡ label h v = ap (label h) q in omega (arith, zed, lowers_below e)) (omega (arith, zed)))
        (λ e. omega (arith, zed))

    pub look_reaches : label (lowered u v c h) v ≤ℤ label h u ⊕ c
    look_reaches =
        by_look (λ (l : List ℤ). label l v ≤ℤ label h u ⊕ c)
        (λ e. let k : label (set h v (label h u ⊕ c)) v ≡ label h u ⊕ c = get_or-set_same h v (label h u ⊕ c) (pos 0) below in omega (arith, zed))
        (λ e. lowers_still e)

    pub look_shallow : {m k : ℕ} → Cost32 c → Shallow m k h → Shallow m (k + 1) (lowered u v c h)
    look_shallow {m} {k} small s = record {
      long = look_long ∙ s.long;
      high = λ x.
          by_look (λ (l : List ℤ). P (label l x) ≡ 0) (λ e. by_store (λ (z : ℤ). P z ≡ 0) x below (λ q. omega (arith, lowers_below e, s.high v, parts (label h u ⊕ c))) (s.high x)) (λ e. s.high x);
      low = λ x.
          by_look (λ (l : List ℤ). N (label l x) ≤ (k + 1) * 2 ^ 31)
          (λ e. by_store (λ (z : ℤ). N z ≤ (k + 1) * 2 ^ 31) x below (λ q. omega (arith, sum (label h u) c, s.high u, s.low u, parts (label h u ⊕ c))) (omega (arith, s.low x)))
          (λ e. omega (arith, s.low x));
    }

-- each potential is the total of a walk to its index
abbrev pub Came : (ℕ → ℕ → ℤ → Type 0) → List ℤ → Type 0
Came Arc h = (x : ℕ) → (s : ℕ) × Walk Arc s x (label h x)

pub look_came : {Arc : ℕ → ℕ → ℤ → Type 0} (u v : ℕ) (c : ℤ) (h : List ℤ) → v < length h → Arc u v c → Came Arc h → Came Arc (lowered u v c h)
look_came {Arc} u v c h below a w x =
    by_look u v c h (λ (l : List ℤ). (s : ℕ) × Walk Arc s x (label l x))
    (λ e. by_store u v c h (λ (z : ℤ). (s : ℕ) × Walk Arc s x z) x below (λ q. ((w u).0, subst (λ (y : ℕ). Walk Arc (w u).0 y (label h u ⊕ c)) (sym q) (join (w u).1 (arc a) refl))) (w x))
    (λ e. w x)

-- ---- one link
module _ (d : Bool) (u v : ℕ) (c : ℤ) (h : List ℤ) where
  pub looked_one : d ≡ true → looked d u v c h ≡ lowered u v c h
  unfolding looked
  looked_one e = rw e

  pub looked_two : d ≡ false → looked d u v c h ≡ lowered v u c (lowered u v c h)
  unfolding looked
  looked_two e = rw e

  -- what holds after one look if directed, and after two if not
  pub by_link : (Q : List ℤ → Type 0) → (d ≡ true → Q (lowered u v c h)) → (d ≡ false → Q (lowered v u c (lowered u v c h))) → Q (looked d u v c h)
  by_link Q f g = go d refl
    where
      go : (b : Bool) → d ≡ b → Q (looked d u v c h)
      go true e = subst Q (sym (looked_one e)) (f e)
      go false e = subst Q (sym (looked_two e)) (g e)

  pub link_long : length (looked d u v c h) ≡ length h
  link_long = by_link (λ (l : List ℤ). length l ≡ length h) (λ e. look_long u v c h) (λ e. look_long v u c (lowered u v c h) ∙ look_long u v c h)

  module _ (below_u : u < length h) (below_v : v < length h) where
    below_next : u < length (lowered u v c h)
    below_next = omega (arith, look_long u v c h)

    pub link_falls : (x : ℕ) → label (looked d u v c h) x ≤ℤ label h x
    link_falls x =
        by_link (λ (l : List ℤ). label l x ≤ℤ label h x) (λ e. look_falls u v c h below_v x)
        (λ e.
        let p : label (lowered u v c h) x ≤ℤ label h x = look_falls u v c h below_v x in
        let q : label (lowered v u c (lowered u v c h)) x ≤ℤ label (lowered u v c h) x = look_falls v u c (lowered u v c h) below_next x in
        omega (arith, zed))

    pub link_reaches : Bounded d u v c h (looked d u v c h)
    link_reaches =
        by_link (λ (l : List ℤ). Bounded d u v c h l) (λ e. record { there = look_reaches u v c h below_v; return = λ f. absurd (clash e f) })
        (λ e. record { there = first; return = λ f. second })
      where
        first : label (lowered v u c (lowered u v c h)) v ≤ℤ label h u ⊕ c
        first =
            let p : label (lowered u v c h) v ≤ℤ label h u ⊕ c = look_reaches u v c h below_v in
            let q : label (lowered v u c (lowered u v c h)) v ≤ℤ label (lowered u v c h) v = look_falls v u c (lowered u v c h) below_next v in
            omega (arith, zed)

        second : label (lowered v u c (lowered u v c h)) u ≤ℤ label h v ⊕ c
        second =
            let p : label (lowered v u c (lowered u v c h)) u ≤ℤ label (lowered u v c h) v ⊕ c = look_reaches v u c (lowered u v c h) below_next in
            let q : label (lowered u v c h) v ≤ℤ label h v = look_falls u v c h below_v v in
            omega (arith, zed, sum (label (lowered u v c h) v) c, sum (label h v) c)

    pub link_shallow : {m k : ℕ} → Cost32 c → Shallow m k h → Shallow m (k + 2) (looked d u v c h)
    link_shallow {m} {k} small s =
        let one = look_shallow u v c h below_v small s in
        by_link (λ (l : List ℤ). Shallow m (k + 2) l)
        (λ e. record { long = one.long; high = one.high; low = λ x. omega (arith, one.low x) })
        (λ e. let two = look_shallow v u c (lowered u v c h) below_next small one in record { long = two.long; high = two.high; low = λ x. omega (arith, two.low x) })

    pub link_came : {Arc : ℕ → ℕ → ℤ → Type 0} → Arc u v c → (d ≡ false → Arc v u c) → Came Arc h → Came Arc (looked d u v c h)
    link_came {Arc} a b w = by_link (Came Arc) (λ e. look_came u v c h below_v a w) (λ e. look_came v u c (lowered u v c h) below_next (b e) (look_came u v c h below_v a w))
