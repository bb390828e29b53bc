-- `floyd_warshall::fill` meets its contract. Before each turn, pouring the links that are left gives what pouring all gave at first.
-- The link of a turn has present ends, since the map is not refused, so both have a row in the matrix (`link_at`), and the two entries that it may lower lie within
-- it. Its cost was read from an i32, which bounds it; the bounds of the costs read so far are collected as they are read.
-- Assumes nothing.
use mathlib.Core.Path.{◌∙◌}
use Prim.Native.Nat.{◌≤◌}
use native.Mathlib.Omega.{arith}
use lib.IntN.{ℤ, pos}
use lib.ListN.{length, get_or}
use mir.Syntax.{w32}
use mir.Val.{SFits}
use mir.ValLaws.{to_z-of_z}
use Rattle.std.proofs.Common.{rules}
use Rattle.whole.specs.Zed.{fits_in}
use Rattle.net.specs.Net.{Net, int_net, width}
use Rattle.net.proofs.Bounds.{Whole, whole_ints, long_ints}
use Rattle.floyd_warshall.proofs.Filled.{LinkAt, link_at}
use Rattle.floyd_warshall.proofs.Stores.{pouring_more}
use Rattle.floyd_warshall.proofs.fill.Goals as goal
use Rattle.floyd_warshall.proofs.fill.Goals.{In-loop-e, Start}

-- the link of a turn
module _ (h : In-loop-e) where
  abbrev start : Start
  start = (goal.at.In-loop-e h).Start

  abbrev lent : Net ℤ
  lent = int_net start.args.net

  longs : (lent.count ≤ length start.args.net.from.now) × (lent.count ≤ length start.args.net.to.now) × (lent.count ≤ length start.args.net.costs.costs.now)
  longs = long_ints lent.bound _ lent.directed lent.marks _ _ _ start.requires.0.whole

  map_whole : Whole lent
  map_whole = whole_ints _ _ _ _ _ _ _ start.requires.0.whole

  link : LinkAt start.args.ranks.now (width lent) (get_or start.args.net.from.now h.loop-e.e 0) (get_or start.args.net.to.now h.loop-e.e 0)
  link = link_at lent.bound lent.count lent.directed lent.marks _ _ _ start.args.ranks.now start.requires.0 start.requires.1 h.loop-e.e h.loop-e-test.true

pub offset_bounds-net-e : goal.offset_bounds-net-e
offset_bounds-net-e c = omega (arith, (map_whole c).links)

pub bounds-net-e : goal.bounds-net-e
bounds-net-e c = omega (arith, longs (goal.at.bounds-net-e c).In-loop-e)

pub offset_bounds-net-e-in-loop-e : goal.offset_bounds-net-e-in-loop-e
offset_bounds-net-e-in-loop-e c = omega (arith, (map_whole (goal.at.offset_bounds-net-e-in-loop-e c).In-loop-e).links)

pub bounds-net-e-in-loop-e : goal.bounds-net-e-in-loop-e
bounds-net-e-in-loop-e c = omega (arith, longs (goal.at.bounds-net-e-in-loop-e c).In-loop-e)

pub bounds-ranks-a : goal.bounds-ranks-a
bounds-ranks-a c = omega (arith, (link (goal.at.bounds-ranks-a c).In-loop-e).tail, c.from-a.ensures)

pub bounds-ranks-b : goal.bounds-ranks-b
bounds-ranks-b c = omega (arith, (link (goal.at.bounds-ranks-b c).In-loop-e).head, c.from-b.ensures)

pub offset_bounds-net-e-in-loop-e-2 : goal.offset_bounds-net-e-in-loop-e-2
offset_bounds-net-e-in-loop-e-2 c = omega (arith, (map_whole (goal.at.offset_bounds-net-e-in-loop-e-2 c).In-loop-e).links)

pub bounds-net-e-in-loop-e-2 : goal.bounds-net-e-in-loop-e-2
bounds-net-e-in-loop-e-2 c = omega (arith, longs (goal.at.bounds-net-e-in-loop-e-2 c).In-loop-e)

pub put_link-requires : goal.put_link-requires
put_link-requires c =
    let s = start (goal.at.put_link-requires c).In-loop-e in
    let k = link (goal.at.put_link-requires c).In-loop-e in (
      record { few = s.requires.3.few; size = c.loop-e.invariant.size ∙ s.requires.3.size },
      rw c.from-a.ensures (omega (arith, s.requires.2, k.row)),
      rw c.from-b.ensures (omega (arith, s.requires.2, k.column)),
    )

pub loop-e-preserved : goal.loop-e-preserved
loop-e-preserved c =
    let s = start (goal.at.loop-e-preserved c).In-loop-e in
    let f : SFits w32 (get_or s.args.net.costs.costs.now c.loop-e.e (pos 0)) = search rules in
    pouring_more c.loop-e.invariant c.loop-e-test.true (longs (goal.at.loop-e-preserved c).In-loop-e) c.put_link.auto.cells (to_z-of_z w32 _ f) (fits_in w32 _ f)
    (rw (c.from-a.ensures, c.from-b.ensures) at c.put_link.ensures)
