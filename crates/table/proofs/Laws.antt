-- What the proofs of the table's functions cite: the lent slices side by side, the room, and the tests of the table as facts.
-- The slices side by side are a list of links, place by place; the check and the search look at the ends alone, so they give the same for a list with costs. The
-- loop of the check keeps that the links before place i are inside; one that is not ends it. The number of the check, and the place that a put finds, are trees of
-- tests: each law fixes the tests on one way through the code, and there the definition computes to what is returned. A search ends in one of three ways, refused,
-- at the place of its link, or at the end (`Found`).
-- Assumes nothing.
use mathlib.Core.Path.{◌≡◌, refl, sym, ap, ◌∙◌}
use mathlib.Core.Bool.{Bool, true, false, cond, not, ◌&&◌}
use mathlib.Core.List.{List, [], ◌∷◌}
use Prim.Native.Nat.{ℕ, zero, suc, ◌+◌, ◌≤◌, ◌<◌}
use native.Mathlib.Nat.{not-suc-le-zero, le_of_suc-le-suc}
use native.Mathlib.Numerals.{add-one}
use native.Mathlib.Omega.{arith}
use borrow.Author.Tests.{leb-true, ltb-true, ltb-false, lt-ltb, le-ltb, le-leb, eq-eqb, ne_eqb, eqb-true, eqb-false}
use lib.Dec.{leb, ltb, eqb}
use lib.IntN.{ℤ}
use lib.ListN.{length, get_or, take}
use Rattle.whole.proofs.Cases.{and_left, and_right}
use Rattle.table.specs.Links.{Link, link_of, same_pair, present, present_both, zip3, ends, inside, all_inside, lent_whole, table_no, joins_ends, place_of}
use Rattle.table.specs.Links.{FirstPlace, Place, place_now, place_at, placing}
use Rattle.table.specs.Lent.{shorter, room_ends, room_ints, room_floats, float_costs}

-- the smaller of two sizes
pub shorter_left : (x y : ℕ) → shorter x y ≤ x
unfolding shorter
shorter_left x y = go (ltb y x) refl
  where
    go : (t : Bool) → ltb y x ≡ t → cond t y x ≤ x
    go true e = let h = ltb-true y x e in omega arith
    go false e = omega arith

pub shorter_right : (x y : ℕ) → shorter x y ≤ y
unfolding shorter
shorter_right x y = go (ltb y x) refl
  where
    go : (t : Bool) → ltb y x ≡ t → cond t y x ≤ y
    go true e = omega arith
    go false e = let h = ltb-false y x e in omega arith

-- as the code computes it
pub shorter_take : (x y : ℕ) → y < x → y ≡ shorter x y
unfolding shorter
shorter_take x y h = rw (lt-ltb y x h)

pub shorter_keep : (x y : ℕ) → x ≤ y → x ≡ shorter x y
unfolding shorter
shorter_keep x y h = rw (le-ltb y x h)

-- a room is no more than the limit and each slice
pub record Room (room : ℕ) (xs ys : List ℕ) (k : ℕ) : Type 0 where
  pub few : room ≤ 8192
  pub in_from : room ≤ length xs
  pub in_to : room ≤ length ys
  pub in_costs : room ≤ k

-- of an integer map, and of an f64 map: by its patterns, its open marks, and both side by side
pub room_ints_lem : (xs ys : List ℕ) (cs : List ℤ) → Room (room_ints xs ys cs) xs ys (length cs)
unfolding room_ints
room_ints_lem xs ys cs =
    let h = shorter_left (room_ends xs ys) (length cs) in
    let h1 = shorter_left (shorter 8192 (length xs)) (length ys) in
    record {
      few = omega (arith, h, h1, shorter_left 8192 (length xs));
      in_from = omega (arith, h, h1, shorter_right 8192 (length xs));
      in_to = omega (arith, h, shorter_right (shorter 8192 (length xs)) (length ys));
      in_costs = shorter_right (room_ends xs ys) (length cs);
    }

pub room_bits : (xs ys bs os : List ℕ) → Room (room_floats xs ys bs os) xs ys (length bs)
unfolding room_floats
room_bits xs ys bs os =
    let h0 = shorter_left (shorter (room_ends xs ys) (length bs)) (length os) in
    let h = shorter_left (room_ends xs ys) (length bs) in
    let h1 = shorter_left (shorter 8192 (length xs)) (length ys) in
    record {
      few = omega (arith, h0, h, h1, shorter_left 8192 (length xs));
      in_from = omega (arith, h0, h, h1, shorter_right 8192 (length xs));
      in_to = omega (arith, h0, h, shorter_right (shorter 8192 (length xs)) (length ys));
      in_costs = omega (arith, h0, shorter_right (room_ends xs ys) (length bs));
    }

pub room_opens : (xs ys bs os : List ℕ) → room_floats xs ys bs os ≤ length os
unfolding room_floats
room_opens xs ys bs os = shorter_right (shorter (room_ends xs ys) (length bs)) (length os)

pub costs_long : (bs os : List ℕ) (n : ℕ) → n ≤ length bs → n ≤ length os → n ≤ length (float_costs bs os)
costs_long bs os zero p q = omega arith
costs_long [] os (suc n) p q = absurd (not-suc-le-zero p)
costs_long (x ∷ bs) [] (suc n) p q = absurd (not-suc-le-zero q)
costs_long (x ∷ bs) (o ∷ os) (suc n) p q = let h = costs_long bs os n (le_of_suc-le-suc p) (le_of_suc-le-suc q) in omega arith

pub room_floats_lem : (xs ys bs os : List ℕ) → Room (room_floats xs ys bs os) xs ys (length (float_costs bs os))
room_floats_lem xs ys bs os =
    let r = room_bits xs ys bs os in
    record { few = r.few; in_from = r.in_from; in_to = r.in_to; in_costs = costs_long bs os _ r.in_costs (room_opens xs ys bs os) }

-- the limits of a table that is not refused with 1
pub record Whole (m n room : ℕ) (marks : List ℕ) : Type 0 where
  pub indices : m ≤ 1024
  pub marked : m ≤ length marks
  pub few : n ≤ room

-- from the test, and back
pub whole : (m n room : ℕ) (marks : List ℕ) → lent_whole m n room marks ≡ true → Whole m n room marks
unfolding lent_whole
whole m n room marks e =
    let e1 = and_right (leb m 1024) _ e in
    record {
      indices = leb-true _ _ (and_left (leb m 1024) _ e);
      marked = leb-true _ _ (and_left (leb m (length marks)) _ e1);
      few = leb-true _ _ (and_right (leb m (length marks)) _ e1);
    }

pub whole_back : {m n room : ℕ} {marks : List ℕ} → Whole m n room marks → lent_whole m n room marks ≡ true
unfolding lent_whole
whole_back w = rw (le-leb _ _ w.indices, le-leb _ _ w.marked, le-leb _ _ w.few)

-- the ends side by side: place by place, and their number
pub ends_at : (xs ys : List ℕ) (k : ℕ) → k < length xs → k < length ys → get_or (ends xs ys) k (link_of 0 0 tt) ≡ link_of (get_or xs k 0) (get_or ys k 0) tt
ends_at [] ys k p q = absurd (not-suc-le-zero p)
ends_at (x ∷ xs) [] k p q = absurd (not-suc-le-zero q)
ends_at (x ∷ xs) (y ∷ ys) zero p q = refl
ends_at (x ∷ xs) (y ∷ ys) (suc k) p q = ends_at xs ys k (le_of_suc-le-suc p) (le_of_suc-le-suc q)

pub ends_long : (xs ys : List ℕ) (n : ℕ) → n ≤ length xs → n ≤ length ys → n ≤ length (ends xs ys)
ends_long xs ys zero p q = omega arith
ends_long [] ys (suc n) p q = absurd (not-suc-le-zero p)
ends_long (x ∷ xs) [] (suc n) p q = absurd (not-suc-le-zero q)
ends_long (x ∷ xs) (y ∷ ys) (suc n) p q = let h = ends_long xs ys n (le_of_suc-le-suc p) (le_of_suc-le-suc q) in omega arith

-- all inside, one link more
pub all_more : {C : Type 0} (m : ℕ) (marks : List ℕ) (ls : List (Link C)) (o : Link C) (i : ℕ) → i < length ls → all_inside m marks (take i ls) ≡ true → inside m marks (get_or ls i o) ≡ true
    → all_inside m marks (take (suc i) ls) ≡ true
all_more m marks [] o i h p q = refl
all_more m marks (l ∷ ls) o zero h p q = rw q
all_more m marks (l ∷ ls) o (suc i) h p q = rw (and_left (inside m marks l) _ p) (all_more m marks ls o i (le_of_suc-le-suc h) (and_right (inside m marks l) _ p) q)

and_false : (x : Bool) → (x && false) ≡ false
and_false true = refl
and_false false = refl

-- one link that is not inside
pub all_fails : {C : Type 0} (m : ℕ) (marks : List ℕ) (ls : List (Link C)) (o : Link C) (i n : ℕ) → i < n → i < length ls → inside m marks (get_or ls i o) ≡
    false → all_inside m marks (take n ls) ≡ false
all_fails m marks ls o i zero h k q = absurd (not-suc-le-zero h)
all_fails m marks [] o i (suc n) h k q = absurd (not-suc-le-zero k)
all_fails m marks (l ∷ ls) o zero (suc n) h k q = rw q
all_fails m marks (l ∷ ls) o (suc i) (suc n) h k q = rw (all_fails m marks ls o i n (le_of_suc-le-suc h) (le_of_suc-le-suc k) q) (and_false (inside m marks l))

-- what the loop over the links keeps
pub record Sized (m n : ℕ) (marks xs ys : List ℕ) : Type 0 where
  pub marked : m ≤ length marks
  pub in_from : n ≤ length xs
  pub in_to : n ≤ length ys

module _ {m n : ℕ} {marks xs ys : List ℕ} (w : Sized m n marks xs ys) {i : ℕ} (h : i < n) where
  -- the link at place i
  link_at : get_or (ends xs ys) i (link_of 0 0 tt) ≡ link_of (get_or xs i 0) (get_or ys i 0) tt
  link_at = ends_at xs ys i (omega (arith, w.in_from)) (omega (arith, w.in_to))

  link_within : i < length (ends xs ys)
  link_within = omega (arith, ends_long xs ys n w.in_from w.in_to)

  -- one end absent ends the loop; both present is one link more
  pub inside_stop : present_both m marks (get_or xs i 0) (get_or ys i 0) ≡ false → all_inside m marks (take n (ends xs ys)) ≡ false
  inside_stop q = all_fails m marks (ends xs ys) (link_of 0 0 tt) i n h link_within (rw (link_at, q))

  pub inside_step : all_inside m marks (take i (ends xs ys)) ≡ true → present_both m marks (get_or xs i 0) (get_or ys i 0) ≡ true →
      all_inside m marks (take (i + 1) (ends xs ys)) ≡ true
  inside_step e p = rw add-one (all_more m marks (ends xs ys) (link_of 0 0 tt) i link_within e (rw (link_at, p)))

-- the loop over all links
pub inside_done : {m n : ℕ} {marks xs ys : List ℕ} {i : ℕ} → Sized m n marks xs ys × (i ≤ n) × (all_inside m marks (take i (ends xs ys)) ≡ true) → n ≤ i →
    all_inside m marks (take n (ends xs ys)) ≡ true
inside_done {m} {n} {marks} {xs} {ys} {i} v h = let e : i ≡ n = omega arith in rw e at v.2

-- the number of the check
pub no_whole : {C : Type 0} (m n room : ℕ) (marks : List ℕ) (ls : List (Link C)) → lent_whole m n room marks ≡ true → table_no m n room marks ls ≡ cond (all_inside m marks (take n ls)) 0 2
unfolding table_no
no_whole m n room marks ls e = rw e

pub no_short : {C : Type 0} (m n room : ℕ) (marks : List ℕ) (ls : List (Link C)) → lent_whole m n room marks ≡ false → table_no m n room marks ls ≡ 1
unfolding table_no
no_short m n room marks ls e = rw e

-- what 0 says: refused with neither 1 nor 2
pub whole_of_no : {C : Type 0} (m n room : ℕ) (marks : List ℕ) (ls : List (Link C)) → table_no m n room marks ls ≡ 0 → lent_whole m n room marks ≡ true
whole_of_no m n room marks ls e = go (lent_whole m n room marks) refl
  where
    go : (t : Bool) → lent_whole m n room marks ≡ t → t ≡ true
    go true q = refl
    go false q = absurd (let h = no_short m n room marks ls q in omega arith)

pub all_of_no : {C : Type 0} (m n room : ℕ) (marks : List ℕ) (ls : List (Link C)) → table_no m n room marks ls ≡ 0 → all_inside m marks (take n ls) ≡ true
all_of_no m n room marks ls e = go (all_inside m marks (take n ls)) refl
  where
    go : (t : Bool) → all_inside m marks (take n ls) ≡ t → t ≡ true
    go true q = refl
    go false q = absurd (let h = sym e ∙ (no_whole m n room marks ls (whole_of_no m n room marks ls e) ∙ ap (λ (t : Bool). cond t 0 2) q) in omega arith)

-- the test of a link's ends
pub link_yes : (d : Bool) (u v x y : ℕ) → same_pair u v x y ≡ true → true ≡ joins_ends d u v x y
unfolding joins_ends
link_yes d u v x y e = rw e

pub link_no : (d : Bool) (u v x y : ℕ) → d ≡ true → same_pair u v x y ≡ false → false ≡ joins_ends d u v x y
unfolding joins_ends
link_no d u v x y p e = rw (e, p)

pub link_back : (d : Bool) (u v x y : ℕ) → d ≡ false → same_pair u v x y ≡ false → same_pair v u x y ≡ joins_ends d u v x y
unfolding joins_ends
link_back d u v x y p e = rw (e, p)

-- the first place is the place of the link
pub first_place : (d : Bool) (u v : ℕ) (xs ys : List ℕ) (n r : ℕ) → n ≤ length xs → n ≤ length ys → FirstPlace d u v n xs ys r → r ≡ place_of d u v (take n (ends xs ys))
first_place d u v xs ys zero r p q f = let h = f.within in omega arith
first_place d u v [] ys (suc n) r p q f = absurd (not-suc-le-zero p)
first_place d u v (x ∷ xs) [] (suc n) r p q f = absurd (not-suc-le-zero q)
first_place d u v (x ∷ xs) (y ∷ ys) (suc n) zero p q f = rw (f.found (omega arith))
first_place d u v (x ∷ xs) (y ∷ ys) (suc n) (suc r) p q f =
    rw (f.before zero (omega arith))
    (let h : r ≡ place_of d u v (take n (ends xs ys)) = first_place d u v xs ys n r (le_of_suc-le-suc p) (le_of_suc-le-suc q)
    (record { within = le_of_suc-le-suc f.within; before = λ k h. f.before (suc k) (omega arith); found = λ h. f.found (omega arith) }) in omega arith)

-- the three ends of a search
module _ (room n k : ℕ) where
  pub place_old : k < n → place_now 0 n k false ≡ place_at room n k
  unfolding place_at
  place_old h = rw (lt-ltb k n h)

  pub place_full : n ≤ k → room ≤ n → place_now 8 n 0 false ≡ place_at room n k
  unfolding place_at
  place_full h r = rw (le-ltb k n h, le-ltb n room r)

  pub place_new : n ≤ k → n < room → place_now 0 (n + 1) n true ≡ place_at room n k
  unfolding place_at
  place_new h r = rw (le-ltb k n h, lt-ltb n room r)

module _ {C : Type 0} (d : Bool) (m room : ℕ) (marks : List ℕ) (u v n : ℕ) (ls : List (Link C)) where
  -- a table that is refused, a record that is, and neither
  pub place_refused : (table_no m n room marks ls ≡ 0 → ⊥) → place_now (table_no m n room marks ls) n 0 false ≡ placing d m room marks u v n ls
  unfolding placing
  place_refused h = rw (ne_eqb _ 0 h)

  pub place_outside : table_no m n room marks ls ≡ 0 → present_both m marks u v ≡ false → place_now 2 n 0 false ≡ placing d m room marks u v n ls
  unfolding placing
  place_outside h e = rw (eq-eqb _ 0 h, e)

  pub place_inside : table_no m n room marks ls ≡ 0 → present_both m marks u v ≡ true → place_at room n (place_of d u v (take n ls)) ≡ placing d m room marks u v n ls
  unfolding placing
  place_inside h e = rw (eq-eqb _ 0 h, e)

-- the search over the ends of a good table for a good record
pub place_found : (d : Bool) (m room : ℕ) (marks : List ℕ) (u v n : ℕ) (xs ys : List ℕ) (k : ℕ) → (room ≤ length xs) × (room ≤ length ys) → table_no m n room marks (ends xs ys) ≡ 0
    → present_both m marks u v ≡ true → FirstPlace d u v n xs ys k → place_at room n k ≡ placing d m room marks u v n (ends xs ys)
place_found d m room marks u v n xs ys k r t i f =
    let w = whole m n room marks (whole_of_no m n room marks (ends xs ys) t) in
    ap (λ (j : ℕ). place_at room n j) (first_place d u v xs ys n k (omega (arith, w.few, r.0)) (omega (arith, w.few, r.1)) f) ∙ place_inside d m room marks u v n (ends xs ys) t i

-- the check and the search see ends only
pub all_ends : {C : Type 0} (m : ℕ) (marks xs ys : List ℕ) (cs : List C) (n : ℕ) → n ≤ length cs → all_inside m marks (take n (ends xs ys)) ≡ all_inside m marks (take n (zip3 xs ys cs))
all_ends m marks xs ys cs zero p = refl
all_ends m marks [] ys cs (suc n) p = refl
all_ends m marks (x ∷ xs) [] cs (suc n) p = refl
all_ends m marks (x ∷ xs) (y ∷ ys) [] (suc n) p = absurd (not-suc-le-zero p)
all_ends m marks (x ∷ xs) (y ∷ ys) (c ∷ cs) (suc n) p = ap (λ (t : Bool). present_both m marks x y && t) (all_ends m marks xs ys cs n (le_of_suc-le-suc p))

pub place_ends_lem : {C : Type 0} (d : Bool) (u v : ℕ) (xs ys : List ℕ) (cs : List C) (n : ℕ) → n ≤ length cs → place_of d u v (take n (ends xs ys)) ≡ place_of d u v (take n (zip3 xs ys cs))
place_ends_lem d u v xs ys cs zero p = refl
place_ends_lem d u v [] ys cs (suc n) p = refl
place_ends_lem d u v (x ∷ xs) [] cs (suc n) p = refl
place_ends_lem d u v (x ∷ xs) (y ∷ ys) [] (suc n) p = absurd (not-suc-le-zero p)
place_ends_lem d u v (x ∷ xs) (y ∷ ys) (c ∷ cs) (suc n) p = ap (λ (k : ℕ). cond (joins_ends d u v x y) 0 (1 + k)) (place_ends_lem d u v xs ys cs n (le_of_suc-le-suc p))

module _ {C : Type 0} (m n room : ℕ) (marks xs ys : List ℕ) (cs : List C) (h : room ≤ length cs) where
  -- the number of the check
  pub no_ends : table_no m n room marks (ends xs ys) ≡ table_no m n room marks (zip3 xs ys cs)
  no_ends = go (lent_whole m n room marks) refl
    where
      go : (t : Bool) → lent_whole m n room marks ≡ t → table_no m n room marks (ends xs ys) ≡ table_no m n room marks (zip3 xs ys cs)
      go false e = no_short m n room marks (ends xs ys) e ∙ sym (no_short m n room marks (zip3 xs ys cs) e)
      go true e =
          let f = (whole m n room marks e).few in
          no_whole m n room marks (ends xs ys) e ∙ (ap (λ (t : Bool). cond t 0 2) (all_ends m marks xs ys cs n (omega arith)) ∙ sym (no_whole m n room marks (zip3 xs ys cs) e))

  -- the whole search sees ends only
  pub placing_ends : (d : Bool) (u v : ℕ) → placing d m room marks u v n (ends xs ys) ≡ placing d m room marks u v n (zip3 xs ys cs)
  placing_ends d u v = go (eqb (table_no m n room marks (ends xs ys)) 0) refl (present_both m marks u v) refl
    where
      go : (t : Bool) → eqb (table_no m n room marks (ends xs ys)) 0 ≡ t → (s : Bool) → present_both m marks u v ≡ s
          → placing d m room marks u v n (ends xs ys) ≡ placing d m room marks u v n (zip3 xs ys cs)
      go false e s q =
          let z = eqb-false _ 0 e in
          sym (place_refused d m room marks u v n (ends xs ys) z) ∙ (ap (λ (k : ℕ). place_now k n 0 false) no_ends ∙ place_refused d m room marks u v n (zip3 xs ys cs) (λ y. z (no_ends ∙ y)))
      go true e false q =
          let z = eqb-true _ 0 e in
          sym (place_outside d m room marks u v n (ends xs ys) z q) ∙ place_outside d m room marks u v n (zip3 xs ys cs) (sym no_ends ∙ z) q
      go true e true q =
          let z = eqb-true _ 0 e in
          let f = (whole m n room marks (whole_of_no m n room marks (ends xs ys) z)).few in
          sym (place_inside d m room marks u v n (ends xs ys) z q)
          ∙ (ap (λ (k : ℕ). place_at room n k) (place_ends_lem d u v xs ys cs n (omega arith)) ∙ place_inside d m room marks u v n (zip3 xs ys cs) (sym no_ends ∙ z) q)

-- the ways in which a search ends: refused with k, or done at the place of the link, or at the end
module _ {C : Type 0} (d : Bool) (m room : ℕ) (marks : List ℕ) (u v n : ℕ) (ls : List (Link C)) where
  -- why the number is k: 1 or 2 for the table, 2 for the record, 8 for a new link without room
  pub data Refusal (k : ℕ) : Type 0 where
    bad_table : (k ≡ 0 → ⊥) → table_no m n room marks ls ≡ k → Refusal k
    outside : table_no m n room marks ls ≡ 0 → present_both m marks u v ≡ false → k ≡ 2 → Refusal k
    full : table_no m n room marks ls ≡ 0 → present_both m marks u v ≡ true → n ≤ place_of d u v (take n ls) → n ≡ room → k ≡ 8 → Refusal k

  -- how it ended
  pub data Found (p : Place) : Type 0 where
    refused : (k : ℕ) → Refusal k → p ≡ place_now k n 0 false → Found p
    replaced : table_no m n room marks ls ≡ 0 → present_both m marks u v ≡ true → place_of d u v (take n ls) < n → p ≡ place_now 0 n (place_of d u v (take n ls)) false → Found p
    appended : table_no m n room marks ls ≡ 0 → present_both m marks u v ≡ true → n ≤ place_of d u v (take n ls) → n < room → p ≡ place_now 0 (n + 1) n true → Found p

  -- a refusal is not 0
  pub not_zero : (k : ℕ) → Refusal k → k ≡ 0 → ⊥
  not_zero k (bad_table h e) z = h z
  not_zero k (outside t i e) z = omega arith
  not_zero k (full t i h r e) z = omega arith

  -- the search ends in one of these ways
  pub found : Found (placing d m room marks u v n ls)
  found = go (eqb (table_no m n room marks ls) 0) refl (present_both m marks u v) refl (ltb (place_of d u v (take n ls)) n) refl (ltb n room) refl
    where
      go : (t : Bool) → eqb (table_no m n room marks ls) 0 ≡ t → (s : Bool) → present_both m marks u v ≡ s → (x : Bool) → ltb (place_of d u v (take n ls)) n ≡ x → (y : Bool) → ltb n room ≡ y
          → Found (placing d m room marks u v n ls)
      go false e s q x h y k = refused (table_no m n room marks ls) (bad_table (eqb-false _ 0 e) refl) (sym (place_refused d m room marks u v n ls (eqb-false _ 0 e)))
      go true e false q x h y k = refused 2 (outside (eqb-true _ 0 e) q refl) (sym (place_outside d m room marks u v n ls (eqb-true _ 0 e) q))
      go true e true q true h y k =
          let i = ltb-true _ n h in
          replaced (eqb-true _ 0 e) q i (sym (place_old room n (place_of d u v (take n ls)) i ∙ place_inside d m room marks u v n ls (eqb-true _ 0 e) q))
      go true e true q false h true k =
          let i = ltb-false _ n h in
          appended (eqb-true _ 0 e) q i (ltb-true n room k) (sym (place_new room n (place_of d u v (take n ls)) i (ltb-true n room k) ∙ place_inside d m room marks u v n ls (eqb-true _ 0 e) q))
      go true e true q false h false k =
          let i = ltb-false _ n h in
          let t = eqb-true _ 0 e in
          let r = ltb-false n room k in
          refused 8 (full t q i (omega (arith, (whole m n room marks (whole_of_no m n room marks ls t)).few)) refl)
          (sym (place_full room n (place_of d u v (take n ls)) i r ∙ place_inside d m room marks u v n ls t q))

  -- a place that is given lies in the room
  pub slot_room : (p : Place) → p ≡ placing d m room marks u v n ls → p.number ≡ 0 → p.slot < room
  slot_room p e z = by found
    where
      by : Found (placing d m room marks u v n ls) → p.slot < room
      by (refused k w q) = absurd (not_zero k w (sym (ap (λ (x : Place). x.number) (e ∙ q)) ∙ z))
      by (replaced t i h q) =
          let s = ap (λ (x : Place). x.slot) (e ∙ q) in
          let f = (whole m n room marks (whole_of_no m n room marks ls t)).few in
          omega arith
      by (appended t i h r q) = let s = ap (λ (x : Place). x.slot) (e ∙ q) in omega arith

  -- a refused link is not new
  pub not_fresh : (p : Place) → p ≡ placing d m room marks u v n ls → (p.number ≡ 0 → ⊥) → p.fresh ≡ false
  not_fresh p e z = by found
    where
      by : Found (placing d m room marks u v n ls) → p.fresh ≡ false
      by (refused k w q) = ap (λ (x : Place). x.fresh) (e ∙ q)
      by (replaced t i h q) = absurd (z (ap (λ (x : Place). x.number) (e ∙ q)))
      by (appended t i h r q) = absurd (z (ap (λ (x : Place). x.number) (e ∙ q)))

-- the lent slices side by side
module _ {C : Type 0} where
  pub zip_at : (xs ys : List ℕ) (cs : List C) (o : Link C) (k : ℕ) → k < length xs → k < length ys → k < length cs → get_or (zip3 xs ys cs) k o ≡ link_of
      (get_or xs k 0) (get_or ys k 0) (get_or cs k o.cost)
  zip_at [] ys cs o k p q r = absurd (not-suc-le-zero p)
  zip_at (x ∷ xs) [] cs o k p q r = absurd (not-suc-le-zero q)
  zip_at (x ∷ xs) (y ∷ ys) [] o k p q r = absurd (not-suc-le-zero r)
  zip_at (x ∷ xs) (y ∷ ys) (c ∷ cs) o zero p q r = refl
  zip_at (x ∷ xs) (y ∷ ys) (c ∷ cs) o (suc k) p q r = zip_at xs ys cs o k (le_of_suc-le-suc p) (le_of_suc-le-suc q) (le_of_suc-le-suc r)

  pub zip_long : (xs ys : List ℕ) (cs : List C) (n : ℕ) → n ≤ length xs → n ≤ length ys → n ≤ length cs → n ≤ length (zip3 xs ys cs)
  zip_long xs ys cs zero p q r = omega arith
  zip_long [] ys cs (suc n) p q r = absurd (not-suc-le-zero p)
  zip_long (x ∷ xs) [] cs (suc n) p q r = absurd (not-suc-le-zero q)
  zip_long (x ∷ xs) (y ∷ ys) [] (suc n) p q r = absurd (not-suc-le-zero r)
  zip_long (x ∷ xs) (y ∷ ys) (c ∷ cs) (suc n) p q r = let h = zip_long xs ys cs n (le_of_suc-le-suc p) (le_of_suc-le-suc q) (le_of_suc-le-suc r) in omega arith

-- each link of a table that is not refused has ends below m
pub all_at : {C : Type 0} (m : ℕ) (marks : List ℕ) (ls : List (Link C)) (o : Link C) (k : ℕ) → k < length ls → all_inside m marks ls ≡ true → inside m marks (get_or ls k o) ≡ true
all_at m marks [] o k h e = absurd (not-suc-le-zero h)
all_at m marks (l ∷ ls) o zero h e = and_left (inside m marks l) _ e
all_at m marks (l ∷ ls) o (suc k) h e = all_at m marks ls o k (le_of_suc-le-suc h) (and_right (inside m marks l) _ e)

-- present indices are below m
pub present_below : (m : ℕ) (marks : List ℕ) (i : ℕ) → present m marks i ≡ true → i < m
unfolding present
present_below m marks i e = ltb-true i m (and_left (ltb i m) _ e)

pub both_below : (m : ℕ) (marks : List ℕ) (x y : ℕ) → present_both m marks x y ≡ true → (x < m) × (y < m)
unfolding present_both
both_below m marks x y e = (present_below m marks x (and_left (present m marks x) _ e), present_below m marks y (and_right (present m marks x) _ e))

-- an index that the map has is marked
pub marked : (m : ℕ) (marks : List ℕ) (i : ℕ) → present m marks i ≡ true → get_or marks i 0 ≡ 0 → ⊥
unfolding present
marked m marks i e z =
    let f : not (eqb (get_or marks i 0) 0) ≡ true = and_right (ltb i m) _ e in
    let g : not true ≡ true = sym (ap not (eq-eqb (get_or marks i 0) 0 z)) ∙ f in
    let w : ◌≡◌ {A = ℕ} 0 1 = cc in omega arith
