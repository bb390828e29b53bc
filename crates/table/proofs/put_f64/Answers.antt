use borrow.Author.Rules.{rules}
use mathlib.Core.Path.{refl}
use Prim.Native.Nat.{◌+◌, ◌≤◌}
use native.Mathlib.Omega.{arith}
use lib.ListN.{length}
use Rattle.numbers.proofs.Refused.{refused_ne0, handed_on}
use Rattle.table.specs.Links.{place_now}
use Rattle.table.specs.Lent.{float_costs}
use Rattle.table.proofs.Laws.{Room, room_bits, room_floats_lem}
use Rattle.table.proofs.Stores.{seen_place, GoesFloats, slot_floats, put_f64_kept, put_f64_stored}
use Rattle.table.proofs.put_f64.Goals as goal
use Rattle.table.proofs.put_f64.Goals.{In_ok-place}

-- what the search gave is the place of the record among the links
place : (w : In_ok-place)
    → let v = w.args in
    let p = w.in_ok-place.place in
    GoesFloats v.map.directed v.map.bound v.marks.now v.a v.b v.map.count v.from.now v.to.now v.bits.now v.opens.now (place_now 0 p.count p.slot p.fresh)
place w =
    let v = w.args in
    record {
      goes =
          seen_place v.map.directed v.map.bound v.marks.now v.a v.b v.map.count v.from.now v.to.now (float_costs v.bits.now v.opens.now)
          (room_floats_lem v.from.now v.to.now v.bits.now v.opens.now).in_costs w.room_f64-most.ensures w.in_ok-place.ensures;
    }

-- the room lies in the slices of ends
pub find_place-requires : goal.find_place-requires
find_place-requires c =
    let v = c.args in
    let r = room_bits v.from.now v.to.now v.bits.now v.opens.now in
    let e = c.room_f64-most.ensures in
    (omega (arith, e, r.in_from), omega (arith, e, r.in_to))

-- refused
pub returns-in_err-place : goal.returns-in_err-place
returns-in_err-place c =
    let v = c.args in
    rw (handed_on _ _ c.from_residual.ensures.1)
    (put_f64_kept (record {
      goes =
          seen_place v.map.directed v.map.bound v.marks.now v.a v.b v.map.count v.from.now v.to.now (float_costs v.bits.now v.opens.now)
          (room_floats_lem v.from.now v.to.now v.bits.now v.opens.now).in_costs c.room_f64-most.ensures c.in_err-place.ensures;
    }) v.pattern v.opened (refused_ne0 c.in_err-place.field-0.0))

-- the place lies in every slice
slot : (w : In_ok-place)
    → let v = w.args in
    Room (w.in_ok-place.place.slot + 1) v.from.now v.to.now (length v.bits.now) × (w.in_ok-place.place.slot + 1 ≤ length v.opens.now)
slot w = slot_floats (place w) refl

pub offset_bounds-bits-place : goal.offset_bounds-bits-place
offset_bounds-bits-place c = search (rules, (slot c).0.few)

pub bounds-bits-place : goal.bounds-bits-place
bounds-bits-place c = omega (arith, (slot c).0.in_costs)

pub bounds-opens-place : goal.bounds-opens-place
bounds-opens-place c = omega (arith, (slot (goal.at.bounds-opens-place c).In_ok-place).1)

pub put_ends-requires : goal.put_ends-requires
put_ends-requires c = let s = slot (goal.at.put_ends-requires c).In_ok-place in (omega (arith, s.0.in_from), omega (arith, s.0.in_to))

-- stored
pub returns : goal.returns
returns c =
    let q = c.put_ends in
    put_f64_stored (place (goal.at.returns c).In_ok-place) c.args.pattern c.args.opened _ _ refl q.ensures.0 q.ensures.1
