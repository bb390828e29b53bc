-- What the functions' proofs cite: a look at a link, the turns of a round and of the rounds.
-- Each loop keeps that the potentials are those that the definition makes of the first ones (`swept`, `rounds`), and how far they may have fallen: by two greatest
-- costs for a link, 16,384 for a round, so no sum overflows in 1,024 rounds. A round in which nothing fell left the potentials as they were, and no arc lowers one:
-- then the rounds may stop. A round in which one fell shows an arc that lowered a potential as the round found them.
-- Assumes nothing.
use mathlib.Core.Path.{◌≡◌, refl, sym, ap, ◌∙◌, subst}
use mathlib.Core.Bool.{Bool, true, false, ◌||◌}
use mathlib.Core.List.{List}
use mathlib.Core.Logic.{◌⊎◌, inl, inr, ⊎_elim}
use Prim.Native.Nat.{ℕ, ◌+◌, ◌-◌, ◌*◌, ◌≤◌, ◌<◌, ◌^◌}
use native.Mathlib.Omega.{arith}
use native.Mathlib.Decide.{ℕ_discrete}
use lib.IntN.{ℤ}
use lib.Signed.{◌≤ℤ◌}
use lib.ListN.{length}
use Rattle.whole.specs.Zed.{◌⊕◌, P, N, Cost32}
use Rattle.johnson.specs.Rounds.{label, lowers, lowered, looked, Table, tail, head, cost, swept, rounds, Still, StillTo}
use Rattle.johnson.specs.Rounds.{Shallow, Linked, Deep, LinkRelaxed, Improves, forth, back, OpenTo, Swept}
use Rattle.johnson.specs.Potentials.{Ask}
use Rattle.johnson.proofs.Looks.{lowered_no, lowers_still, looked_one, looked_two, look_shallow, link_long, link_shallow}
use Rattle.whole.proofs.Cases.{clash}
use Rattle.johnson.proofs.Sweeps.{swept_none, swept_more, rounds_none, rounds_more}

-- ---- a link
-- the room for a look back
pub deep_next : (u v x : ℕ) (c : ℤ) (h h1 : List ℤ) → v < length h → Cost32 c → ((y : ℕ) → Deep (2 ^ 59) (label h y)) → h1 ≡ lowered u v c h → Deep (2 ^ 60) (label h1 x)
deep_next u v x c h h1 below small deep e =
    let s = look_shallow u v c h below {m = length h} {k = 2 ^ 28} small (record { long = refl; high = λ y. (deep y).high; low = λ y. omega (arith, (deep y).low) }) in
    subst (λ (l : List ℤ). Deep (2 ^ 60) (label l x)) (sym e) (record { high = s.high x; low = omega (arith, s.low x) })

module _ {d : Bool} (u v : ℕ) (c : ℤ) (h : List ℤ) (small : Cost32 c) where
  pub looked_directed : {h' : List ℤ} {r : Bool} → d ≡ true → r ≡ lowers u v c h → h' ≡ lowered u v c h → LinkRelaxed d u v c h h' r
  looked_directed e f g = record {
    leaves = g ∙ sym (looked_one d u v c h e);
    small = small;
    improves = λ q. forth (sym f ∙ q);
    quiet = λ q. (g ∙ lowered_no u v c h (sym f ∙ q), record { there = lowers_still u v c h (sym f ∙ q); return = λ z. absurd (clash e z) });
  }

  module _ {h1 h2 : List ℤ} {r1 r2 : Bool} (e : d ≡ false) (f1 : r1 ≡ lowers u v c h) (g1 : h1 ≡ lowered u v c h) (f2 : r2 ≡ lowers v u c h1) (g2 : h2 ≡ lowered v u c h1) where
    both_leave : h2 ≡ looked d u v c h
    both_leave = g2 ∙ (ap (lowered v u c) g1 ∙ sym (looked_two d u v c h e))

    pub looked_there : r1 ≡ true → LinkRelaxed d u v c h h2 r1
    looked_there q = record { leaves = both_leave; small = small; improves = λ z. forth (sym f1 ∙ z); quiet = λ z. absurd (clash q z) }

    pub looked_back : r1 ≡ false → LinkRelaxed d u v c h h2 r2
    looked_back q = record {
      leaves = both_leave;
      small = small;
      improves = λ z. back e (subst (λ (l : List ℤ). lowers v u c l ≡ true) same (sym f2 ∙ z));
      quiet = λ z.
          let k = lowered_no v u c h1 (sym f2 ∙ z) in
          (g2 ∙ (k ∙ same), record { there = lowers_still u v c h (sym f1 ∙ q); return = λ y. subst (λ (l : List ℤ). label l u ≤ℤ label l v ⊕ c) same (lowers_still v u c h1 (sym f2 ∙ z)) });
    }
      where
        same : h1 ≡ h
        same = g1 ∙ lowered_no u v c h (sym f1 ∙ q)

-- ---- a round
-- one link more than k
pub up_to : {Q : ℕ → Type 0} {k : ℕ} → ((j : ℕ) → j < k → Q j) → Q k → (j : ℕ) → j < k + 1 → Q j
up_to {Q} {k} f g j l = go (ℕ_discrete j k)
  where
    go : Dec (j ≡ k) → Q j
    go (yes e) = subst Q (sym e) g
    go (no n) = f j (omega (arith, n))

either : (a b : Bool) → (a || b) ≡ true → (a ≡ true) ⊎ ((a ≡ false) × (b ≡ true))
either true b e = inl refl
either false b e = inr (refl, e)

neither : (a b : Bool) → (a || b) ≡ false → (a ≡ false) × (b ≡ false)
neither true b e = absurd (clash refl e)
neither false b e = (refl, e)

-- a round after k links
pub record Sweeping (t : Table) (n : ℕ) (h₀ h : List ℤ) (k : ℕ) (fell : Bool) : Type 0 where
  pub some : k ≤ n
  pub leaves : h ≡ swept t k h₀
  pub long : length h ≡ length h₀
  pub shallow : (i : ℕ) → Shallow (length h₀) i h₀ → Shallow (length h₀) (i + k * 2) h
  pub small : (j : ℕ) → j < k → Cost32 (cost t j)
  pub improves : fell ≡ true → OpenTo t n h₀
  pub quiet : fell ≡ false → (h ≡ h₀) × StillTo t k h₀

pub sweep_starts : (t : Table) (n : ℕ) (h : List ℤ) → Sweeping t n h h 0 false
sweep_starts t n h = record {
  some = omega arith;
  leaves = sym (swept_none t h);
  long = refl;
  shallow = λ i s. record { long = s.long; high = s.high; low = λ v. omega (arith, s.low v) };
  small = λ j l. absurd (omega arith);
  improves = λ e. absurd (clash e refl);
  quiet = λ e. (refl, λ j l. absurd (omega arith));
}

module _ {t : Table} {n : ℕ} {h₀ : List ℤ} (sound : Linked (length h₀) n t) where
  module _ (pre : Shallow (length h₀) (1023 * 16384) h₀) {h : List ℤ} {k : ℕ} {fell : Bool} (s : Sweeping t n h₀ h k fell) (l : k < n) where
    pub sweep_asks : ((tail t k < length h) × (head t k < length h)) × ((v : ℕ) → Deep (2 ^ 59) (label h v))
    sweep_asks =
        let w = s.shallow (1023 * 16384) pre in
        ((omega (arith, sound.tails k l, s.long), omega (arith, sound.heads k l, s.long)), λ v. record { high = w.high v; low = omega (arith, w.low v, sound.few) })

  module _ {h : List ℤ} {k : ℕ} {fell : Bool} (s : Sweeping t n h₀ h k fell) (l : k < n) where
    -- one link more; the round is quiet only if it was and this link is
    pub sweep_next : {h' : List ℤ} {r after : Bool} → LinkRelaxed t.directed (tail t k) (head t k) (cost t k) h h' r → after ≡ (fell || r) → Sweeping t n h₀ h' (k + 1) after
    sweep_next {h'} {r} w f = record {
      some = omega arith;
      leaves = w.leaves ∙ (ap (looked t.directed (tail t k) (head t k) (cost t k)) s.leaves ∙ sym (swept_more t k h₀));
      long = ap length w.leaves ∙ (link_long t.directed (tail t k) (head t k) (cost t k) h ∙ s.long);
      shallow = λ i q.
          let z = link_shallow t.directed (tail t k) (head t k) (cost t k) h (omega (arith, sound.tails k l, s.long)) (omega (arith, sound.heads k l, s.long)) w.small (s.shallow i q) in
          subst (Shallow (length h₀) (i + (k + 1) * 2)) (sym w.leaves) (record { long = z.long; high = z.high; low = λ v. omega (arith, z.low v) });
      small = up_to {Q = λ (j : ℕ). Cost32 (cost t j)} s.small w.small;
      improves = λ e. ⊎_elim s.improves (λ q. record { at = k; within = l; improves = subst (Improves t.directed (tail t k) (head t k) (cost t k)) (s.quiet q.0).0 (w.improves q.1) })
          (either fell r (sym f ∙ e));
      quiet = λ e.
          let q = neither fell r (sym f ∙ e) in
          let a = s.quiet q.0 in
          let b = w.quiet q.1 in
          (b.0 ∙ a.0, up_to {Q = λ (j : ℕ). Still t.directed (tail t j) (head t j) (cost t j) h₀} a.1 (subst (Still t.directed (tail t k) (head t k) (cost t k)) a.0 b.1));
    }

  pub sweep_ends : {h : List ℤ} {k : ℕ} {fell : Bool} → Sweeping t n h₀ h k fell → n ≤ k → Swept t n h₀ h fell
  sweep_ends {h} {k} s l =
      let e : k ≡ n = omega (arith, s.some) in
      record {
        leaves = s.leaves ∙ ap (λ (i : ℕ). swept t i h₀) e;
        shallow = λ i q. let z = s.shallow i q in record { long = z.long; high = z.high; low = λ v. omega (arith, z.low v, sound.few) };
        small = λ j q. s.small j (omega arith);
        improves = s.improves;
        quiet = λ f. let q = s.quiet f in subst (StillTo t n) (sym q.0) (subst (λ (i : ℕ). StillTo t i h₀) e q.1);
      }

-- ---- the rounds
-- before the round i, the first being 1
pub record Going (t : Table) (n p : ℕ) (h₀ h : List ℤ) (i : ℕ) : Type 0 where
  pub first : 1 ≤ i
  pub few : i - 1 ≤ p - 1
  pub leaves : h ≡ rounds t n (i - 1) h₀
  pub shallow : Shallow (length h₀) ((i - 1) * 16384) h

pub rounds_start : (t : Table) (n p : ℕ) (h : List ℤ) → Shallow (length h) 0 h → Going t n p h h 1
rounds_start t n p h s = record { first = omega arith; few = omega arith; leaves = sym (rounds_none t n h); shallow = s }

module _ {t : Table} {n p : ℕ} {h₀ h : List ℤ} {i : ℕ} (g : Going t n p h₀ h i) where
  module _ {h' : List ℤ} {fell : Bool} (w : Swept t n h h' fell) where
    pub next_leaves : h' ≡ rounds t n i h₀
    next_leaves =
        let e : i - 1 + 1 ≡ i = omega (arith, g.first) in
        w.leaves ∙ (ap (swept t n) g.leaves ∙ (sym (rounds_more t n (i - 1) h₀) ∙ ap (λ (j : ℕ). rounds t n j h₀) e))

    pub next_shallow : Shallow (length h₀) (i * 16384) h'
    next_shallow =
        let z = subst (λ (m : ℕ). Shallow m ((i - 1) * 16384) h → Shallow m ((i - 1) * 16384 + 16384) h') g.shallow.long (w.shallow ((i - 1) * 16384)) g.shallow in
        record { long = z.long; high = z.high; low = λ v. omega (arith, z.low v, g.first) }

    pub rounds_next : i < p → Going t n p h₀ h' (i + 1)
    rounds_next l =
        let e : i ≡ i + 1 - 1 = omega arith in
        record { first = omega arith; few = omega arith; leaves = next_leaves ∙ ap (λ (j : ℕ). rounds t n j h₀) e; shallow = subst (λ (j : ℕ). Shallow (length h₀) (j * 16384) h') e next_shallow }

-- before the rounds
pub ask_shallow : {t : Table} {n p : ℕ} {h : List ℤ} → Ask t n p h → Shallow (length h) 0 h
ask_shallow {h} a = record { long = refl; high = λ v. ap P (a.zeros v); low = λ v. let e : N (label h v) ≡ 0 = ap N (a.zeros v) in omega arith }
