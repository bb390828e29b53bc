-- The last step of each put: what the slices hold once the place is known.
-- Assumes nothing.
use mathlib.Core.Path.{◌≡◌, ap, ◌∙◌}
use mathlib.Core.Bool.{Bool}
use mathlib.Core.List.{List}
use Prim.Native.Nat.{ℕ, ◌+◌, ◌≤◌, ◌<◌}
use native.Mathlib.Omega.{arith}
use borrow.Author.Tests.{ne_eqb}
use lib.IntN.{ℤ}
use lib.ListN.{length, set}
use Rattle.table.specs.Links.{Link, link_of, zip3, ends, Place, placing}
use Rattle.table.specs.Lent.{room_ints, room_floats, float_costs, RawCost, raw_cost, written, ints_now, store_ints, put_ints, floats_now, store_floats, put_floats}
use Rattle.table.proofs.Laws.{Room, room_ints_lem, room_bits, room_opens, placing_ends, slot_room, not_fresh, Found, refused, replaced, appended, found, not_zero}

-- the search over the ends is the search over the links, at any costs
pub seen_place : {C : Type 0} (d : Bool) (m : ℕ) (marks : List ℕ) (u v n : ℕ) (xs ys : List ℕ) (cs : List C) {most room : ℕ} {p : Place} → room ≤ length cs → most ≡ room
    → p ≡ placing d m most marks u v n (ends xs ys) → p ≡ placing d m room marks u v n (zip3 xs ys cs)
seen_place d m marks u v n xs ys cs {most} {room} h e f = f ∙ (ap (λ (k : ℕ). placing d m k marks u v n (ends xs ys)) e ∙ placing_ends m n room marks xs ys cs h d u v)

-- a place below the room has its slices
room_below : {room s k : ℕ} {xs ys : List ℕ} → Room room xs ys k → s < room → Room (s + 1) xs ys k
room_below r h = record { few = omega (arith, r.few); in_from = omega (arith, r.in_from); in_to = omega (arith, r.in_to); in_costs = omega (arith, r.in_costs) }

-- p is where a record of u, v goes among the links of an integer map
pub record GoesInts (d : Bool) (m : ℕ) (marks : List ℕ) (u v n : ℕ) (xs ys : List ℕ) (cs : List ℤ) (p : Place) : Type 0 where
  pub goes : p ≡ placing d m (room_ints xs ys cs) marks u v n (zip3 xs ys cs)

module _ {d : Bool} {m : ℕ} {marks : List ℕ} {u v n : ℕ} {xs ys : List ℕ} {cs : List ℤ} {p : Place} (e : GoesInts d m marks u v n xs ys cs p) where
  -- refused: the slices stay
  pub put_kept : (c : ℤ) → (p.number ≡ 0 → ⊥) → ints_now p.number p.count xs ys cs ≡ put_ints d m marks (link_of u v c) n xs ys cs
  unfolding put_ints store_ints
  put_kept c h = rw (← e.goes, not_fresh d m (room_ints xs ys cs) marks u v n (zip3 xs ys cs) p e.goes h, ne_eqb p.number 0 h)

  -- done: the cost and, for a new link, the ends are written
  pub put_stored : (c : ℤ) (xs' ys' : List ℕ) → p.number ≡ 0 → xs' ≡ written p.fresh p.slot u xs → ys' ≡ written p.fresh p.slot v ys
      → ints_now p.number p.count xs' ys' (set cs p.slot c) ≡ put_ints d m marks (link_of u v c) n xs ys cs
  unfolding put_ints store_ints
  put_stored c xs' ys' z f g = rw (← e.goes, z, f, g)

  pub slot_ints : p.number ≡ 0 → Room (p.slot + 1) xs ys (length cs)
  slot_ints z = room_below (room_ints_lem xs ys cs) (slot_room d m (room_ints xs ys cs) marks u v n (zip3 xs ys cs) p e.goes z)

-- and among those of an f64 map
pub record GoesFloats (d : Bool) (m : ℕ) (marks : List ℕ) (u v n : ℕ) (xs ys bs os : List ℕ) (p : Place) : Type 0 where
  pub goes : p ≡ placing d m (room_floats xs ys bs os) marks u v n (zip3 xs ys (float_costs bs os))

module _ {d : Bool} {m : ℕ} {marks : List ℕ} {u v n : ℕ} {xs ys bs os : List ℕ} {p : Place} (e : GoesFloats d m marks u v n xs ys bs os p) where
  pub put_f64_kept : (x o : ℕ) → (p.number ≡ 0 → ⊥) → floats_now p.number p.count xs ys bs os ≡ put_floats d m marks (link_of u v (raw_cost x o)) n xs ys bs os
  unfolding put_floats store_floats
  put_f64_kept x o h = rw (← e.goes, not_fresh d m (room_floats xs ys bs os) marks u v n (zip3 xs ys (float_costs bs os)) p e.goes h, ne_eqb p.number 0 h)

  pub put_f64_stored : (x o : ℕ) (xs' ys' : List ℕ) → p.number ≡ 0 → xs' ≡ written p.fresh p.slot u xs → ys' ≡ written p.fresh p.slot v ys
      → floats_now p.number p.count xs' ys' (set bs p.slot x) (set os p.slot o) ≡ put_floats d m marks (link_of u v (raw_cost x o)) n xs ys bs os
  unfolding put_floats store_floats
  put_f64_stored x o xs' ys' z f g = rw (← e.goes, z, f, g)

  pub slot_floats : p.number ≡ 0 → Room (p.slot + 1) xs ys (length bs) × (p.slot + 1 ≤ length os)
  slot_floats z =
      let h = slot_room d m (room_floats xs ys bs os) marks u v n (zip3 xs ys (float_costs bs os)) p e.goes z in
      (room_below (room_bits xs ys bs os) h, omega (arith, room_opens xs ys bs os))

-- a refusal leaves every slice as it was, and the count the one lent
module _ (d : Bool) (m : ℕ) (marks : List ℕ) (r : Link ℤ) (n : ℕ) (xs ys : List ℕ) (cs : List ℤ) where
  pub untouched_ints : ((put_ints d m marks r n xs ys cs).number ≡ 0 → ⊥) → put_ints d m marks r n xs ys cs ≡ ints_now (put_ints d m marks r n xs ys cs).number n xs ys cs
  unfolding put_ints store_ints
  untouched_ints h = by (placing d m (room_ints xs ys cs) marks r.a r.b n (zip3 xs ys cs)) (found d m (room_ints xs ys cs) marks r.a r.b n (zip3 xs ys cs)) h
    where
      by : (p : Place) → Found d m (room_ints xs ys cs) marks r.a r.b n (zip3 xs ys cs) p → (p.number ≡ 0 → ⊥) → store_ints p r xs ys cs ≡ ints_now p.number n xs ys cs
      by p (refused k w q) h = rw (q, ne_eqb k 0 (not_zero d m (room_ints xs ys cs) marks r.a r.b n (zip3 xs ys cs) k w))
      by p (replaced t i k q) h = absurd (h (ap (λ (x : Place). x.number) q))
      by p (appended t i k z q) h = absurd (h (ap (λ (x : Place). x.number) q))

module _ (d : Bool) (m : ℕ) (marks : List ℕ) (r : Link RawCost) (n : ℕ) (xs ys bs os : List ℕ) where
  pub untouched_floats : ((put_floats d m marks r n xs ys bs os).number ≡ 0 → ⊥) → put_floats d m marks r n xs ys bs os ≡ floats_now (put_floats d m marks r n xs ys bs os).number n xs ys bs os
  unfolding put_floats store_floats
  untouched_floats h =
      by (placing d m (room_floats xs ys bs os) marks r.a r.b n (zip3 xs ys (float_costs bs os))) (found d m (room_floats xs ys bs os) marks r.a r.b n (zip3 xs ys (float_costs bs os))) h
    where
      by : (p : Place) → Found d m (room_floats xs ys bs os) marks r.a r.b n (zip3 xs ys (float_costs bs os)) p → (p.number ≡ 0 → ⊥)
          → store_floats p r xs ys bs os ≡ floats_now p.number n xs ys bs os
      by p (refused k w q) h = rw (q, ne_eqb k 0 (not_zero d m (room_floats xs ys bs os) marks r.a r.b n (zip3 xs ys (float_costs bs os)) k w))
      by p (replaced t i k q) h = absurd (h (ap (λ (x : Place). x.number) q))
      by p (appended t i k z q) h = absurd (h (ap (λ (x : Place). x.number) q))
