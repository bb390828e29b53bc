-- What `a_star`'s bag ends in: 01's promises for it; and it ends on every map, by every heuristic.
-- The predecessors lead from the target to the source by arcs that meet the distances (Whole), so the path's total is never above the cost (Chain). The target is
-- taken with the least key: by an admissible heuristic its distance is the least total (Front), and so is the path's.
use mathlib.Core.Path.{◌≡◌, refl, sym, ap, ◌∙◌, subst}
use mathlib.Core.Bool.{Bool, true, false}
use mathlib.Core.Logic.{◌⊎◌, inl, inr}
use mathlib.Core.List.{List}
use mathlib.Core.Option.{Option, none, some}
use Prim.Native.Nat.{ℕ}
use native.Mathlib.Omega.{arith}
use lib.IntN.{ℤ, pos}
use lib.Signed.{◌≤ℤ◌}
use lib.Dec.{eqb}
use borrow.Author.Tests.{eqb-true, eq-eqb}
use Rattle.whole.specs.Zed.{◌⊕◌, zed, sum, lt_no}
use Rattle.whole.proofs.Cases.{clash}
use Rattle.bag.proofs.Order.{not_before}
use Rattle.walks.specs.Pigeon.{In}
use Rattle.walks.specs.Walk.{Least}
use Rattle.walks.specs.Chain.{Chain, passed, Cheapest}
use Rattle.walks.proofs.Chain.{cheapest_low, cheapest_walk}
use Rattle.walks.proofs.Front.{a_star_least}
use Rattle.pending.specs.Setting.{End, ArcOf}
use Rattle.pending.specs.Literal as Lit
use Rattle.pending.specs.OnePlace.{Cell, has, dist_of, pred_of, begin, Takes, Ends}
use Rattle.pending.specs.Ints.{a_star}
use Rattle.pending.specs.Reach.{Admissible}
use Rattle.pending.specs.Answers.{AStarAnswer}
use Rattle.pending.proofs.Ints.{ints}
use Rattle.pending.proofs.Whole.{dist_has, has_dist, Inv, begin_inv, Final, rested, arrived, stopped, final}
use Rattle.pending.proofs.Falls.{whole_ends}
use Rattle.pending.proofs.Dijkstra.{was_taken, rest_none}

module _ (Arc : ℕ → ℕ → ℤ → Type 0) (h : ℕ → ℤ) (o g : ℕ) where
  -- what holds of a state's distances and predecessors
  low : (s : ℕ → Cell ℤ) → Inv (λ d v. d ⊕ h v) (some g) o Arc s → (d : ℤ) → dist_of (s g) ≡ some d → (c : Chain Arc o (λ v. dist_of (s v)) (λ v. pred_of (s v)) g) (t : ℤ) → Cheapest Arc (passed c) t
      → t ≤ℤ d
  low s i d q c t k = let x : pos 0 ⊕ t ≤ℤ d = cheapest_low t (pos 0) d (has_dist i.first) q c k in omega (arith, zed, sum (pos 0) t)

  -- the target, taken
  module _ (s : ℕ → Cell ℤ) (i : Inv (λ d v. d ⊕ h v) (some g) o Arc s) (u : ℕ) (d : ℤ) (p : Option ℕ) (t : Takes (a_star h o g) s u d p) (is : eqb u g ≡ true) where
    -- the target is what was taken
    here : s g ≡ has d p true
    here = ap s (sym (eqb-true u g is)) ∙ t.held

    -- its distance is the cost
    cost_is : (e : ℤ) → dist_of (s g) ≡ some e → d ≡ e
    cost_is e q = let k : some d ≡ some e = sym (ap dist_of here) ∙ q in cc

    -- every other index with a distance is pending, or its arcs were looked at
    settled : (x : ℕ) (e : ℤ) → dist_of (s x) ≡ some e → ((e : ℤ) × (q : Option ℕ) × (s x ≡ has e q true)) ⊎ ((v : ℕ) (c : ℤ) → Arc x v c → (y : ℤ) × (dist_of (s v) ≡ some y) × y ≤ℤ e ⊕ c)
    settled x e q = let k = dist_has (s x) e q in go k.0 k.1.flag k.1.is
      where
        go : (r : Option ℕ) (b : Bool) → s x ≡ has e r b → ((e : ℤ) × (q : Option ℕ) × (s x ≡ has e q true)) ⊎ ((v : ℕ) (c : ℤ) → Arc x v c → (y : ℤ) × (dist_of (s v) ≡ some y) × y ≤ℤ e ⊕ c)
        go r true j = inl (e, r, j)
        go r false j = inr (λ v c a. let z = i.looked x e r j v c a in (z.e, has_dist z.has_it, z.low))

    -- no pending key is below the target's
    first : (x : ℕ) (e : ℤ) → ((e : ℤ) × (q : Option ℕ) × (s x ≡ has e q true)) → dist_of (s x) ≡ some e → d ⊕ h g ≤ℤ e ⊕ h x
    first x e j q =
        let k : some j.0 ≡ some e = sym (ap dist_of j.2) ∙ q in
        let z : j.0 ≡ e = cc in
        let m = (not_before ints (j.0 ⊕ h x) x (d ⊕ h u) u (t.least x j.0 j.1 j.2)).0 in
        let l : d ⊕ h u ≤ℤ j.0 ⊕ h x = omega (arith, zed, lt_no (j.0 ⊕ h x) (d ⊕ h u) m) in
        subst (λ (y : ℤ). d ⊕ h g ≤ℤ y ⊕ h x) z (subst (λ (y : ℕ). d ⊕ h y ≤ℤ j.0 ⊕ h x) (eqb-true u g is) l)

    -- so its distance is the least total
    target_least : Admissible Arc h g → Least Arc o g d
    target_least a =
        a_star_least {Pend = λ x. (e : ℤ) × (q : Option ℕ) × (s x ≡ has e q true)} settled h (λ v x y k l. cc) (has_dist i.first) (omega (arith, zed)) (ap dist_of here)
        (i.walk g d p (record { flag = true; is = here })) a.at_target a.under first

    -- and the path's total
    exact : Admissible Arc h g → (c : Chain Arc o (λ v. dist_of (s v)) (λ v. pred_of (s v)) g) (r : ℤ) → Cheapest Arc (passed c) r → r ≡ d
    exact a c r k =
        let x : r ≤ℤ d = low s i d (ap dist_of here) c r k in
        let y : d ≤ℤ r = (target_least a).least r (cheapest_walk c k) in
        omega (arith, zed)

  -- the target is not taken while the search goes on, so at rest it has no distance
  untaken : (s : ℕ → Cell ℤ) → Inv (λ d v. d ⊕ h v) (some g) o Arc s → ((v : ℕ) (d : ℤ) (p : Option ℕ) → s v ≡ has d p true → ⊥) → (d : ℤ) → dist_of (s g) ≡ some d → ⊥
  untaken s i f d q = let k = was_taken (λ d v. d ⊕ h v) (some g) o Arc s i f g d q in clash (eq-eqb g g refl) (i.passed g d k.0 k.1)

  -- the answer, from how the search ended
  from_final : {e : End ℤ} → Final (λ d v. d ⊕ h v) (some g) o Arc e → AStarAnswer Arc h o g e
  from_final (rested s n i f) = record {
    number = inl refl;
    walk = λ q d k. absurd (untaken s i f d k);
    chain = λ q d k. absurd (untaken s i f d k);
    never_above = λ q d k. absurd (untaken s i f d k);
    unreached = λ q. rest_none (λ d v. d ⊕ h v) (some g) o Arc s i f g;
    least = λ q a d k. absurd (untaken s i f d k);
    path_total = λ q a d k. absurd (untaken s i f d k);
    refused_why = λ q. absurd (omega arith);
    blank = λ q. absurd (omega arith);
  }
  from_final (arrived s n u d p i t is) = record {
    number = inl refl;
    walk = λ q x k. let y = dist_has (s g) x k in i.walk g x y.0 y.1;
    chain = λ q x k. let y = dist_has (s g) x k in i.chain g x y.0 y.1;
    never_above = λ q x k. low s i x k;
    unreached = λ q k. absurd (let z : some d ≡ none = sym (ap dist_of (here s i u d p t is)) ∙ k in let y : ◌≡◌ {A = ℕ} 0 1 = cc in omega arith);
    least = λ q a x k. subst (Least Arc o g) (cost_is s i u d p t is x k) (target_least s i u d p t is a);
    path_total = λ q a x k c r j. exact s i u d p t is a c r j ∙ cost_is s i u d p t is x k;
    refused_why = λ q. absurd (omega arith);
    blank = λ q. absurd (omega arith);
  }
  from_final (stopped n u d v c w a b) = record {
    number = inr refl;
    walk = λ q. absurd (omega arith);
    chain = λ q. absurd (omega arith);
    never_above = λ q. absurd (omega arith);
    unreached = λ q. absurd (omega arith);
    least = λ q. absurd (omega arith);
    path_total = λ q. absurd (omega arith);
    refused_why = λ q. record { u = u; t = d; v = v; c = c; reach = w; arc_is = a; below = b };
    blank = λ q x. (refl, refl);
  }

  -- whatever the search ends in is the answer
  pub a_star_answer : {e : End ℤ} → Ends (a_star h o g) Arc (begin (a_star h o g)) 0 e → AStarAnswer Arc h o g e
  a_star_answer r = from_final (final (λ d v. d ⊕ h v) (some g) o Arc (begin_inv (λ d v. d ⊕ h v) (some g) o Arc) r)

-- it ends, on every map and by every heuristic
pub a_star_ends : (arcs : ℕ → List (ℕ × ℤ)) (h : ℕ → ℤ) (o g : ℕ) (ps : List ℕ) → In o ps → ((u v : ℕ) (c : ℤ) → ArcOf arcs u v c → In v ps)
    → (e : End ℤ) × Lit.Ends (a_star h o g) arcs (Lit.start (a_star h o g)) e × AStarAnswer (ArcOf arcs) h o g e
a_star_ends arcs h o g ps i f = let r = whole_ends (λ d v. d ⊕ h v) (some g) o arcs ps i f in (r.0, r.1, a_star_answer (ArcOf arcs) h o g r.2)
