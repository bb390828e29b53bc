-- The lent slices of both kinds of map: what a put leaves in them is what it leaves in the table that they show.
-- Assumes nothing.
use mathlib.Core.Path.{◌≡◌, refl, ap, ◌∙◌}
use mathlib.Core.Bool.{Bool, true, false, cond, not}
use mathlib.Core.List.{List, [], ◌∷◌}
use Prim.Native.Nat.{ℕ, zero, suc, ◌≤◌}
use native.Mathlib.Omega.{arith}
use borrow.Author.Tests.{eqb-false}
use lib.Dec.{eqb}
use lib.IntN.{ℤ}
use lib.ListN.{length, set, length-set}
use Rattle.table.specs.Links.{Link, link_of, zip3, Place}
use Rattle.table.specs.Lent.{room_ints, room_floats, float_cost, float_costs, RawCost, float_seen, written, Ints, store_ints, put_ints, Floats, store_floats, put_floats}
use Rattle.table.specs.declared.FloatCost.{FloatCost}
use Rattle.table.specs.Feeds.{Kind, ints, floats}
use Rattle.table.proofs.Tables.{recost, Table, store, put_table}
use Rattle.table.proofs.Laws.{zip_long, room_ints_lem, room_floats_lem, not_fresh}

-- the table that lent slices show
abbrev pub table_of : {C R S : Type 0} → Kind C R S → S → Table C
table_of k s = record { number = k.number s; count = k.count s; places = k.places s }

-- a kind whose put changes the slices as it changes the table that they show, and keeps their room
pub record Follows {C R S : Type 0} (k : Kind C R S) : Type 0 where
  pub shows : (d : Bool) (m : ℕ) (marks : List ℕ) (r : R) (s : S) → table_of k (k.put d m marks r s) ≡ put_table d m (k.room s) marks (k.seen r) (table_of k s)
  pub keeps : (d : Bool) (m : ℕ) (marks : List ℕ) (r : R) (s : S) → k.room (k.put d m marks r s) ≡ k.room s
  pub roomy : (s : S) → k.room s ≤ length (k.places s)

-- the slices side by side
module _ {C : Type 0} where
  -- a link written at a place, and a cost
  zip_set : (xs ys : List ℕ) (cs : List C) (k x y : ℕ) (c : C) → zip3 (set xs k x) (set ys k y) (set cs k c) ≡ set (zip3 xs ys cs) k (link_of x y c)
  zip_set [] ys cs k x y c = refl
  zip_set (x' ∷ xs) [] cs zero x y c = refl
  zip_set (x' ∷ xs) [] cs (suc k) x y c = refl
  zip_set (x' ∷ xs) (y' ∷ ys) [] zero x y c = refl
  zip_set (x' ∷ xs) (y' ∷ ys) [] (suc k) x y c = refl
  zip_set (x' ∷ xs) (y' ∷ ys) (c' ∷ cs) zero x y c = refl
  zip_set (x' ∷ xs) (y' ∷ ys) (c' ∷ cs) (suc k) x y c = ap {B = List (Link C)} (λ r. link_of x' y' c' ∷ r) (zip_set xs ys cs k x y c)

  zip_cost : (xs ys : List ℕ) (cs : List C) (k : ℕ) (c : C) → zip3 xs ys (set cs k c) ≡ recost k c (zip3 xs ys cs)
  zip_cost [] ys cs k c = refl
  zip_cost (x ∷ xs) [] cs k c = refl
  zip_cost (x ∷ xs) (y ∷ ys) [] k c = refl
  zip_cost (x ∷ xs) (y ∷ ys) (c' ∷ cs) zero c = refl
  zip_cost (x ∷ xs) (y ∷ ys) (c' ∷ cs) (suc k) c = ap {B = List (Link C)} (λ r. link_of x y c' ∷ r) (zip_cost xs ys cs k c)

  -- slices written at a place hold what a store leaves
  zip_store : (x y : ℕ) (c : C) (k : ℕ) (xs ys : List ℕ) (cs : List C) (t s : Bool) → (s ≡ false → t ≡ false)
      → zip3 (written t k x xs) (written t k y ys) (written s k c cs) ≡ cond s (cond t (set (zip3 xs ys cs) k (link_of x y c)) (recost k c (zip3 xs ys cs))) (zip3 xs ys cs)
  zip_store x y c k xs ys cs true true h = zip_set xs ys cs k x y c
  zip_store x y c k xs ys cs false true h = zip_cost xs ys cs k c
  zip_store x y c k xs ys cs true false h = absurd (let z : ◌≡◌ {A = Bool} true false = h refl in let y : ◌≡◌ {A = ℕ} 0 1 = cc in omega arith)
  zip_store x y c k xs ys cs false false h = refl

-- a write keeps the length
written_length : {A : Type 0} (t : Bool) (k : ℕ) (x : A) (l : List A) → length (written t k x l) ≡ length l
written_length true k x l = length-set l k x
written_length false k x l = refl

-- patterns and open marks written at a place
costs_set : (bs os : List ℕ) (k x o : ℕ) → float_costs (set bs k x) (set os k o) ≡ set (float_costs bs os) k (float_cost x (not (eqb o 0)))
costs_set [] os k x o = refl
costs_set (b ∷ bs) [] zero x o = refl
costs_set (b ∷ bs) [] (suc k) x o = refl
costs_set (b ∷ bs) (p ∷ os) zero x o = refl
costs_set (b ∷ bs) (p ∷ os) (suc k) x o = ap {B = List FloatCost} (λ r. float_cost b (not (eqb p 0)) ∷ r) (costs_set bs os k x o)

costs_written : (t : Bool) (k x o : ℕ) (bs os : List ℕ) → float_costs (written t k x bs) (written t k o os) ≡ written t k (float_cost x (not (eqb o 0))) (float_costs bs os)
costs_written true k x o bs os = costs_set bs os k x o
costs_written false k x o bs os = refl

-- ---- integer maps
stored_ints : (p : Place) (r : Link ℤ) (xs ys : List ℕ) (cs : List ℤ) → ((p.number ≡ 0 → ⊥) → p.fresh ≡ false) → table_of ints (store_ints p r xs ys cs) ≡ store p r (zip3 xs ys cs)
unfolding store_ints store
stored_ints p r xs ys cs h =
    ap (λ (l : List (Link ℤ)). record { number = p.number; count = p.count; places = l })
    (zip_store r.a r.b r.cost p.slot xs ys cs p.fresh (eqb p.number 0) (λ e. h (eqb-false p.number 0 e)))

shows_ints : (d : Bool) (m : ℕ) (marks : List ℕ) (r : Link ℤ) (s : Ints) → table_of ints (ints.put d m marks r s) ≡ put_table d m (ints.room s) marks r (table_of ints s)
unfolding put_ints
shows_ints d m marks r s = stored_ints _ r s.from s.to s.costs (not_fresh d m (ints.room s) marks r.a r.b s.count (ints.places s) _ refl)

keeps_ints : (d : Bool) (m : ℕ) (marks : List ℕ) (r : Link ℤ) (s : Ints) → ints.room (ints.put d m marks r s) ≡ ints.room s
unfolding put_ints store_ints room_ints
keeps_ints d m marks r s = simp written_length

roomy_ints : (s : Ints) → ints.room s ≤ length (ints.places s)
roomy_ints s = let r = room_ints_lem s.from s.to s.costs in zip_long s.from s.to s.costs _ r.in_from r.in_to r.in_costs

pub follows_ints : Follows ints
follows_ints = record { shows = shows_ints; keeps = keeps_ints; roomy = roomy_ints }

-- ---- f64 maps
stored_floats : (p : Place) (r : Link RawCost) (xs ys bs os : List ℕ) → ((p.number ≡ 0 → ⊥) → p.fresh ≡ false)
    → table_of floats (store_floats p r xs ys bs os) ≡ store p (float_seen r) (zip3 xs ys (float_costs bs os))
unfolding store_floats store
stored_floats p r xs ys bs os h =
    ap (λ (l : List (Link FloatCost)). record { number = p.number; count = p.count; places = l })
    (ap (zip3 (written p.fresh p.slot r.a xs) (written p.fresh p.slot r.b ys)) (costs_written (eqb p.number 0) p.slot r.cost.bits r.cost.mark bs os)
    ∙ zip_store r.a r.b (float_seen r).cost p.slot xs ys (float_costs bs os) p.fresh (eqb p.number 0) (λ e. h (eqb-false p.number 0 e)))

shows_floats : (d : Bool) (m : ℕ) (marks : List ℕ) (r : Link RawCost) (s : Floats) → table_of floats (floats.put d m marks r s) ≡ put_table d m (floats.room s) marks (float_seen r) (table_of floats s)
unfolding put_floats
shows_floats d m marks r s = stored_floats _ r s.from s.to s.bits s.opens (not_fresh d m (floats.room s) marks r.a r.b s.count (floats.places s) _ refl)

keeps_floats : (d : Bool) (m : ℕ) (marks : List ℕ) (r : Link RawCost) (s : Floats) → floats.room (floats.put d m marks r s) ≡ floats.room s
unfolding put_floats store_floats room_floats
keeps_floats d m marks r s = simp written_length

roomy_floats : (s : Floats) → floats.room s ≤ length (floats.places s)
roomy_floats s = let r = room_floats_lem s.from s.to s.bits s.opens in zip_long s.from s.to (float_costs s.bits s.opens) _ r.in_from r.in_to r.in_costs

pub follows_floats : Follows floats
follows_floats = record { shows = shows_floats; keeps = keeps_floats; roomy = roomy_floats }
