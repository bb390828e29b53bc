-- The arcs of a table are those of its links, and the answer of `potentials` from its rounds.
-- Assumes nothing.
use mathlib.Core.Path.{◌≡◌, refl, sym, ap, ◌∙◌, subst}
use mathlib.Core.Bool.{Bool, true, false}
use mathlib.Core.List.{List}
use mathlib.Core.Logic.{◌⊎◌, inl, inr, ⊎_elim}
use Prim.Native.Nat.{ℕ, zero, suc, ◌-◌, ◌*◌, ◌≤◌, ◌<◌, ◌^◌}
use native.Mathlib.Omega.{arith}
use lib.IntN.{ℤ, pos}
use lib.ListN.{length, get_or, take}
use Rattle.whole.specs.Zed.{N, Cost32}
use Rattle.table.specs.Links.{Link, link_of, zip3, joins, Arc}
use Rattle.table.proofs.Laws.{zip_at, zip_long}
use Rattle.table.proofs.Joins.{joined, joins_of}
use Rattle.table.proofs.Arcs.{arc_at, arc_out}
use Rattle.walks.specs.Walk.{stay, Negative}
use Rattle.walks.specs.Costs.{Costs32}
use Rattle.johnson.specs.Rounds.{label, lowers, Table, tail, head, cost, rounds, StillTo, Shallow, Linked, Improves, forth, back, OpenTo, Swept}
use Rattle.johnson.specs.Potentials.{ArcsOf, Resting, Ask, Answered}
use Rattle.whole.proofs.Cases.{clash}
use Rattle.johnson.proofs.Looks.{Came}
use Rattle.johnson.proofs.Steps.{Going, next_leaves, next_shallow}
use Rattle.johnson.proofs.Sweeps.{Placed, Arcs, still_resting, each_cost, rounds_came, open_negative, settled_low}

-- ---- the arcs of links, by place
-- the link at a place of the table
abbrev none : Link ℤ
none = link_of 0 0 (pos 0)

module _ {m n : ℕ} {t : Table} (linked : Linked m n t) where
  abbrev words : List (Link ℤ)
  words = zip3 t.tails t.heads t.costs

  link_is : (k : ℕ) → k < n → get_or words k none ≡ link_of (tail t k) (head t k) (cost t k)
  link_is k l = zip_at t.tails t.heads t.costs none k (omega (arith, linked.room_a)) (omega (arith, linked.room_b)) (omega (arith, linked.room_c))

  long : n ≤ length words
  long = zip_long t.tails t.heads t.costs n linked.room_a linked.room_b linked.room_c

  arc_of : (k : ℕ) → k < n → (u v : ℕ) → ((tail t k ≡ u) × (head t k ≡ v)) ⊎ ((t.directed ≡ false) × (tail t k ≡ v) × (head t k ≡ u)) → ArcsOf t n u v (cost t k)
  arc_of k l u v e =
      let w = link_is k l in
      arc_at t.directed words none k n u v (cost t k) l (omega (arith, long))
      (subst (λ (x : Link ℤ). joins t.directed u v x ≡ true) (sym w) (joins_of t.directed u v (link_of (tail t k) (head t k) (cost t k)) e))
      (ap (λ (x : Link ℤ). x.cost) w)

  -- the last of the first k links, or one before it
  place : (k : ℕ) → k ≤ n → (u v : ℕ) (c : ℤ) → Arc t.directed (take k words) u v c → Placed t n u v c
  place zero h u v c a = absurd a
  place (suc k) h u v c a = ⊎_elim (place k (omega arith) u v c) at (arc_out t.directed words none k u v c a)
    where
      at : (joins t.directed u v (get_or words k none) ≡ true) × ((get_or words k none).cost ≡ c) → Placed t n u v c
      at q =
          let w = link_is k (omega arith) in
          record {
            at = k;
            within = omega arith;
            cost = sym (ap (λ (x : Link ℤ). x.cost) w) ∙ q.1;
            ends = joined t.directed u v (link_of (tail t k) (head t k) (cost t k)) (subst (λ (x : Link ℤ). joins t.directed u v x ≡ true) w q.0);
          }

  pub table_arcs : Arcs (ArcsOf t n) t n
  table_arcs = record { there = λ k l. arc_of k l (tail t k) (head t k) (inl (refl, refl)); return = λ k l e. arc_of k l (head t k) (tail t k) (inr (e, refl, refl)); place = place n (omega arith) }

-- ---- the answer
module _ {t : Table} {n p : ℕ} {h : List ℤ} (ask : Ask t n p h) where
  arcs : Arcs (ArcsOf t n) t n
  arcs = table_arcs ask.sound

  -- potentials that some rounds leave, and that no arc lowers
  settled : {h' : List ℤ} (r : ℕ) {b : ℕ} → h' ≡ rounds t n r h → Shallow (length h) b h' → StillTo t n h' → ((k : ℕ) → k < n → Cost32 (cost t k)) → Answered t n p h h' false
  settled {h'} r leaves shallow still small = record {
    long = shallow.long;
    yes = λ e. absurd (clash e refl);
    no = λ e.
        record {
          resting = resting;
          high = shallow.high;
          low = λ v. subst (λ (q : ℕ). N (label h' v) ≤ (q - 1) * 2 ^ 31) ask.many (settled_low ask.indices ask.ends h' resting came costs shallow.high v);
          small = costs;
        };
  }
    where
      resting : Resting (ArcsOf t n) h'
      resting = still_resting arcs h' still

      costs : Costs32 (ArcsOf t n)
      costs = each_cost arcs Cost32 small

      came : Came (ArcsOf t n) h'
      came = subst (Came (ArcsOf t n)) (sym leaves) (rounds_came arcs ask.sound h refl (λ x. (x, stay (ask.zeros x))) r)

  module _ {h₁ : List ℤ} {i : ℕ} (g : Going t n p h h₁ i) where
    -- an arc that lowers a potential after p - 1 rounds
    open_arc : p ≤ i → (u v : ℕ) (c : ℤ) → ArcsOf t n u v c → lowers u v c h₁ ≡ true → Negative (ArcsOf t n)
    open_arc l u v c a e =
        open_negative ask.indices ask.ends arcs ask.sound h refl ask.zeros (i - 1) (omega (arith, ask.many)) u v c a
        (subst (λ (k : List ℤ). lowers u v c k ≡ true) g.leaves e)

    open_link : p ≤ i → OpenTo t n h₁ → Negative (ArcsOf t n)
    open_link l o = go o.improves
      where
        go : Improves t.directed (tail t o.at) (head t o.at) (cost t o.at) h₁ → Negative (ArcsOf t n)
        go (forth e) = open_arc l _ _ _ (arcs.there o.at o.within) e
        go (back d e) = open_arc l _ _ _ (arcs.return o.at o.within d) e

    -- a round in which no potential fell
    pub answer_no : {h₂ : List ℤ} {fell : Bool} → Swept t n h₁ h₂ fell → fell ≡ false → Answered t n p h h₂ false
    answer_no w e = settled i (next_leaves g w) (next_shallow g w) (w.quiet e) w.small

    -- the last round: did a potential fall?
    pub answered : {h₂ : List ℤ} {fell : Bool} → Swept t n h₁ h₂ fell → p ≤ i → Answered t n p h h₂ fell
    answered {fell = true} w l = record { long = (next_shallow g w).long; yes = λ e. open_link l (w.improves refl); no = λ e. absurd (clash refl e) }
    answered {fell = false} w l = answer_no w refl
