-- The neighbour list holds the map's arcs, so the search over it solves the map.
-- Assumes nothing.
use mathlib.Core.List.{List}
use Prim.Native.Nat.{ℕ, ◌≤◌}
use native.Mathlib.Omega.{arith}
use lib.IntN.{ℤ}
use lib.ListN.{length}
use Rattle.whole.specs.Zed.{Cost32}
use Rattle.table.specs.Links.{Link, links, arcs, Arc}
use Rattle.walks.specs.Costs.{Costs32}
use Rattle.net.specs.declared.Lent.{Lent}
use Rattle.net.specs.declared.Ints.{Ints}
use Rattle.net.specs.Net.{Net, int_net, ArcOf, most_arcs_of}
use Rattle.rows.specs.Rows.{Lists, Ready, EnoughFor, Rows}
use Rattle.rows.specs.RowArc.{RowArc}
use Rattle.rows.specs.Kept.{KeptLists}
use Rattle.rows.proofs.Maps.{ready_ints, arcs_are, net_sound, net_kept, net_room, row_small}
use Rattle.turns.specs.Memory.{Memory}
use Rattle.turns.specs.Firsts.{KeptMemory}
use Rattle.search.specs.Runs.{Cheap, ToAll}
use Rattle.search.proofs.Runs.{reached_over}
use Rattle.dijkstra.specs.Promise.{Buffers, memory}
use Rattle.dijkstra.proofs.Refusals.{Passed}

-- the map solved, the list nb made and M left by the search: the answer, the range that the costs were read in, and what is not used as before
pub record Solved (g : Net ℤ) (s : ℕ) (b : Buffers) (nb : Lists ℤ) (M : Memory ℤ) (number : ℕ) : Type 0 where
  pub answer : ToAll (ArcOf g) g.bound s b.dist M.dist number
  pub costs : Costs32 (ArcOf g)
  pub rows : KeptLists g.bound (most_arcs_of g) b.scratch.rows nb
  pub rest : KeptMemory g.bound (memory b) M

module _ (net : Lent Ints) {s : ℕ} {b : Buffers} (ok : Passed (int_net net) s b) where
  abbrev g : Net ℤ
  g = int_net net

  abbrev ls : List (Link ℤ)
  ls = links net.map.count net.from.now net.to.now net.costs.costs.now

  -- its links name indices below m
  pub ready : Ready net.map.bound net.map.count net.from.now net.to.now × (net.map.count ≤ length net.costs.costs.now)
  ready = ready_ints net.map.bound net.map.count net.map.directed net.marks.now net.from.now net.to.now net.costs.costs.now ok.whole ok.inside

  -- there is room for its arcs
  pub list_room : EnoughFor (arcs net.map.directed ls) net.map.bound b.scratch.rows
  list_room = net_room g ok.rows

  module _ {nb : Lists ℤ} (r : Rows (arcs net.map.directed ls) net.map.bound b.scratch.rows nb) (f : Costs32 (Arc net.map.directed ls)) where
    -- a cost in -2^31 ..= 2^31 is cheap
    pub cheap : Cheap net.map.bound nb
    cheap = record {
      rows = net_sound g ok.inside r ready.0.indices list_room;
      cheap = λ u v c a. let k : Cost32 c = row_small net.map.directed ls r f u v c a in omega arith;
    }

    -- the search over the list answers over the map's arcs
    pub solved : {M : Memory ℤ} {number : ℕ} → ToAll (RowArc net.map.bound nb) net.map.bound s b.dist M.dist number → KeptMemory net.map.bound (memory b) M → Solved g s b nb M number
    solved w k = record { answer = reached_over (λ u v c. (arcs_are g ok.inside r u v c).0) (λ u v c. (arcs_are g ok.inside r u v c).1) w; costs = f; rows = net_kept g ok.inside r; rest = k }
