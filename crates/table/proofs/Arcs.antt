-- Arcs of a list of links: place by place, their ends, and what is left of them where costs are not looked at.
-- Assumes nothing.
use mathlib.Core.Path.{◌≡◌, refl, sym, ◌∙◌}
use mathlib.Core.Bool.{Bool, true}
use mathlib.Core.List.{List, [], ◌∷◌}
use mathlib.Core.Logic.{◌⊎◌, inl, inr, ⊎_elim, ◌↔◌}
use Prim.Native.Nat.{ℕ, zero, suc, ◌≤◌, ◌<◌}
use native.Mathlib.Nat.{not-suc-le-zero, le_of_suc-le-suc}
use lib.ListN.{length, get_or, take}
use Rattle.whole.proofs.Cases.{and_left, and_right, both_of, agree}
use Rattle.table.specs.Links.{Link, zip3, ends, joins, present, present_both, inside, all_inside, Arc, Leads}
use Rattle.table.proofs.Joins.{joined, joins_of}

module _ {C : Type 0} (d : Bool) where
  -- the link at place i has its arcs among those of the first n
  pub arc_at : (ls : List (Link C)) (o : Link C) (i n : ℕ) (u v : ℕ) (c : C) → i < n → i < length ls → joins d u v (get_or ls i o) ≡ true → (get_or ls i o).cost ≡ c → Arc d (take n ls) u v c
  arc_at [] o i n u v c h k j e = absurd (not-suc-le-zero k)
  arc_at (l ∷ ls) o i zero u v c h k j e = absurd (not-suc-le-zero h)
  arc_at (l ∷ ls) o zero (suc n) u v c h k j e = inl (j, e)
  arc_at (l ∷ ls) o (suc i) (suc n) u v c h k j e = inr (arc_at ls o i n u v c (le_of_suc-le-suc h) (le_of_suc-le-suc k) j e)

  -- an arc of the first i links is one of the first i + 1
  pub arc_in : (ls : List (Link C)) (i : ℕ) (u v : ℕ) (c : C) → Arc d (take i ls) u v c → Arc d (take (suc i) ls) u v c
  arc_in [] zero u v c x = x
  arc_in [] (suc i) u v c x = x
  arc_in (l ∷ ls) zero u v c x = absurd x
  arc_in (l ∷ ls) (suc i) u v c (inl x) = inl x
  arc_in (l ∷ ls) (suc i) u v c (inr x) = inr (arc_in ls i u v c x)

  -- an arc of the first i + 1 links is one of the first i, or one of the link at place i
  pub arc_out : (ls : List (Link C)) (o : Link C) (i : ℕ) (u v : ℕ) (c : C) → Arc d (take (suc i) ls) u v c → Arc d (take i ls) u v c ⊎
      ((joins d u v (get_or ls i o) ≡ true) × ((get_or ls i o).cost ≡ c))
  arc_out [] o i u v c x = absurd x
  arc_out (l ∷ ls) o zero u v c (inl x) = inr x
  arc_out (l ∷ ls) o zero u v c (inr x) = absurd x
  arc_out (l ∷ ls) o (suc i) u v c (inl x) = inl (inl x)
  arc_out (l ∷ ls) o (suc i) u v c (inr x) = ⊎_elim (λ y. inl (inr y)) (λ y. inr y) (arc_out ls o i u v c x)

-- links that are inside have arcs whose ends are present, and the other way round
module _ {C : Type 0} (d : Bool) (m : ℕ) (marks : List ℕ) where
  pub arc_inside : (ls : List (Link C)) → all_inside m marks ls ≡ true → (u v : ℕ) (c : C) → Arc d ls u v c → (present m marks u ≡ true) × (present m marks v ≡ true)
  unfolding present_both
  arc_inside [] e u v c w = absurd w
  arc_inside (l ∷ ls) e u v c (inl p) =
      let k = and_left (inside m marks l) _ e in
      let a = and_left (present m marks l.a) _ k in
      let b = and_right (present m marks l.a) _ k in
      ⊎_elim (λ q. (rw (← q.0) a, rw (← q.1) b)) (λ q. (rw (← q.2) b, rw (← q.1) a)) (joined d u v l p.0)
  arc_inside (l ∷ ls) e u v c (inr w) = arc_inside ls (and_right (inside m marks l) _ e) u v c w

  pub inside_arc : (ls : List (Link C)) → ((u v : ℕ) (c : C) → Arc d ls u v c → (present m marks u ≡ true) × (present m marks v ≡ true)) → all_inside m marks ls ≡ true
  unfolding present_both
  inside_arc [] f = refl
  inside_arc (l ∷ ls) f =
      let k = f l.a l.b l.cost (inl (joins_of d l.a l.b l (inl (refl, refl)), refl)) in
      both_of _ _ (both_of _ _ k.0 k.1) (inside_arc ls (λ u v c w. f u v c (inr w)))

-- the same arcs and the same presence: refusal 2 for both tables or for none
pub same_inside : {C : Type 0} (d d' : Bool) (m m' : ℕ) (marks marks' : List ℕ) (ls ks : List (Link C)) → ((i : ℕ) → present m marks i ≡ present m' marks' i)
    → ((u v : ℕ) (c : C) → Arc d ls u v c ↔ Arc d' ks u v c) → all_inside m marks ls ≡ all_inside m' marks' ks
same_inside {C} d d' m m' marks marks' ls ks h a =
    agree (all_inside m marks ls) (all_inside m' marks' ks)
    (λ e. inside_arc d' m' marks' ks (λ u v c w. let k = arc_inside d m marks ls e u v c ((a u v c).1 w) in (sym (h u) ∙ k.0, sym (h v) ∙ k.1)))
    (λ e. inside_arc d m marks ls (λ u v c w. let k = arc_inside d' m' marks' ks e u v c ((a u v c).0 w) in (h u ∙ k.0, h v ∙ k.1)))

-- ends alone: their arcs are the arcs of any cost
pub ends_lead : {C : Type 0} (d : Bool) (xs ys : List ℕ) (cs : List C) (n : ℕ) → n ≤ length cs → (u v : ℕ) → Arc d (take n (ends xs ys)) u v tt → Leads d (take n (zip3 xs ys cs)) u v
ends_lead d xs ys cs zero h u v w = absurd w
ends_lead d [] ys cs (suc n) h u v w = absurd w
ends_lead d (x ∷ xs) [] cs (suc n) h u v w = absurd w
ends_lead d (x ∷ xs) (y ∷ ys) [] (suc n) h u v w = absurd (not-suc-le-zero h)
ends_lead d (x ∷ xs) (y ∷ ys) (c ∷ cs) (suc n) h u v (inl p) = (c, inl (p.0, refl))
ends_lead d (x ∷ xs) (y ∷ ys) (c ∷ cs) (suc n) h u v (inr w) = let r = ends_lead d xs ys cs n (le_of_suc-le-suc h) u v w in (r.0, inr r.1)

pub leads_end : {C : Type 0} (d : Bool) (xs ys : List ℕ) (cs : List C) (n u v : ℕ) (c : C) → Arc d (take n (zip3 xs ys cs)) u v c → Arc d (take n (ends xs ys)) u v tt
leads_end d xs ys cs zero u v c w = absurd w
leads_end d [] ys cs (suc n) u v c w = absurd w
leads_end d (x ∷ xs) [] cs (suc n) u v c w = absurd w
leads_end d (x ∷ xs) (y ∷ ys) [] (suc n) u v c w = absurd w
leads_end d (x ∷ xs) (y ∷ ys) (c' ∷ cs) (suc n) u v c (inl p) = inl (p.0, refl)
leads_end d (x ∷ xs) (y ∷ ys) (c' ∷ cs) (suc n) u v c (inr w) = inr (leads_end d xs ys cs n u v c w)

-- both ways at once
pub ends_leads : {C : Type 0} (d : Bool) (xs ys : List ℕ) (cs : List C) (n : ℕ) → n ≤ length cs → (u v : ℕ) → Arc d (take n (ends xs ys)) u v tt ↔ Leads d (take n (zip3 xs ys cs)) u v
ends_leads d xs ys cs n h u v = (ends_lead d xs ys cs n h u v, λ w. leads_end d xs ys cs n u v w.0 w.1)
