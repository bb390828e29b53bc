-- `floyd_warshall::fill` meets its contract. Before each turn, pouring the links that are left gives what pouring all gave at first.
-- The link of a turn has present ends, since the map is not refused, so both have a row in the matrix (`link_at`), and the two entries that it may lower lie within
-- it. Its cost was read from an i32, which bounds it; the bounds of the costs read so far are collected as they are read.
-- Assumes nothing.
use Rattle.floyd_warshall.proofs.Stores.{Pouring}
use Rattle.floyd_warshall.proofs.fill.Given as goal

abbrev pub invariant-loop-e : goal.invariant-loop-e
invariant-loop-e l = Pouring l.net.map.directed l.p l.ranks l.net.map.count l.net.from.now l.net.to.now l.net.costs.costs.now l.initial.cells l.e l.cells
