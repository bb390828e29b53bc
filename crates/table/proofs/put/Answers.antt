use borrow.Author.Rules.{rules}
use mathlib.Core.Path.{refl, ap, ◌∙◌}
use Prim.Native.Nat.{◌+◌}
use native.Mathlib.Omega.{arith}
use lib.IntN.{ℤ}
use lib.ListN.{length, set}
use mir.ValLaws.{to_z-of_z}
use mir.Syntax.{w32}
use Rattle.numbers.proofs.Refused.{refused_ne0, handed_on}
use Rattle.table.specs.Links.{place_now}
use Rattle.table.specs.Lent.{ints_now}
use Rattle.table.proofs.Laws.{Room, room_ints_lem}
use Rattle.table.proofs.Stores.{seen_place, GoesInts, slot_ints, put_kept, put_stored}
use Rattle.table.proofs.put.Goals as goal
use Rattle.table.proofs.put.Goals.{In_ok-place}

-- what the search gave is the place of the record among the links
place : (w : In_ok-place)
    → let v = w.args in
    let p = w.in_ok-place.place in
    GoesInts v.map.directed v.map.bound v.marks.now v.a v.b v.map.count v.from.now v.to.now v.costs.now (place_now 0 p.count p.slot p.fresh)
place w =
    let v = w.args in
    record {
      goes =
          seen_place v.map.directed v.map.bound v.marks.now v.a v.b v.map.count v.from.now v.to.now v.costs.now
          (room_ints_lem v.from.now v.to.now v.costs.now).in_costs w.room-most.ensures w.in_ok-place.ensures;
    }

-- the room lies in the slices of ends
pub find_place-requires : goal.find_place-requires
find_place-requires c =
    let v = c.args in
    let r = room_ints_lem v.from.now v.to.now v.costs.now in
    let e = c.room-most.ensures in
    (omega (arith, e, r.in_from), omega (arith, e, r.in_to))

-- refused
pub returns-in_err-place : goal.returns-in_err-place
returns-in_err-place c =
    let v = c.args in
    rw (handed_on _ _ c.from_residual.ensures.1)
    (put_kept (record {
      goes =
          seen_place v.map.directed v.map.bound v.marks.now v.a v.b v.map.count v.from.now v.to.now v.costs.now
          (room_ints_lem v.from.now v.to.now v.costs.now).in_costs c.room-most.ensures c.in_err-place.ensures;
    }) v.cost (refused_ne0 c.in_err-place.field-0.0))

-- the place lies in every slice
slot : (w : In_ok-place)
    → let v = w.args in
    Room (w.in_ok-place.place.slot + 1) v.from.now v.to.now (length v.costs.now)
slot w = slot_ints (place w) refl

pub offset_bounds-costs-place : goal.offset_bounds-costs-place
offset_bounds-costs-place c = search (rules, (slot c).few)

pub bounds-costs-place : goal.bounds-costs-place
bounds-costs-place c = omega (arith, (slot c).in_costs)

pub put_ends-requires : goal.put_ends-requires
put_ends-requires c = let s = slot (goal.at.put_ends-requires c).In_ok-place in (omega (arith, s.in_from), omega (arith, s.in_to))

-- stored
pub returns : goal.returns
returns c =
    let p = c.in_ok-place.place in
    let q = c.put_ends in
    ap (λ (z : ℤ). ints_now 0 p.count q.new.from q.new.to (set c.args.costs.now p.slot z)) (to_z-of_z w32 c.args.cost c.ranges.cost)
    ∙ put_stored (place (goal.at.returns c).In_ok-place) c.args.cost _ _ refl q.ensures.0 q.ensures.1
