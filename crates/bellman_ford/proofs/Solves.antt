-- The neighbour list holds the map's arcs, so the search over it solves the map.
-- Assumes nothing.
use mathlib.Core.Path.{◌≡◌, sym}
use mathlib.Core.Bool.{Bool}
use Prim.Native.Nat.{ℕ, ◌≤◌}
use native.Mathlib.Omega.{arith}
use lib.IntN.{ℤ}
use lib.ListN.{length}
use Rattle.table.specs.Links.{arcs}
use Rattle.table.proofs.Laws as table
use Rattle.net.specs.Net.{Net, ArcOf, links_of, nodes_of, width}
use Rattle.net.proofs.Nodes.{has_below, width_most, present_in}
use Rattle.net.proofs.Same.{arc_has}
use Rattle.net.proofs.Totals.{total_within}
use Rattle.walks.specs.Costs.{Costs32}
use Rattle.walks.proofs.Over.{entry_of, total_over, noneg_over, negative_from_over}
use Rattle.rows.specs.Rows.{Lists, EnoughFor, Rows}
use Rattle.rows.specs.RowArc.{RowArc}
use Rattle.rows.proofs.Maps.{arcs_are, net_sound, net_kept, net_room}
use Rattle.bellman_ford.specs.Promise.{Buffers}
use Rattle.bellman_ford.specs.Search.{Fit, Memory, Searched}
use Rattle.bellman_ford.specs.Parts.{Ripe, Solved, memory}

module _ {g : Net ℤ} {s : ℕ} {b : Buffers} (ripe : Ripe g s b) where
  limits : table.Whole g.bound g.count g.room g.marks
  limits = table.whole g.bound g.count g.room g.marks ripe.whole

  pub marked : g.bound ≤ length g.marks
  marked = limits.marked

  pub list_room : EnoughFor (arcs g.directed (links_of g)) g.bound b.scratch.rows
  list_room = net_room g ripe.rows

  module _ {nb : Lists ℤ} (r : Rows (arcs g.directed (links_of g)) g.bound b.scratch.rows nb) where
    over : (u v : ℕ) (c : ℤ) → RowArc g.bound nb u v c → ArcOf g u v c
    over u v c = (arcs_are g ripe.inside r u v c).0

    back : (u v : ℕ) (c : ℤ) → ArcOf g u v c → RowArc g.bound nb u v c
    back u v c = (arcs_are g ripe.inside r u v c).1

    pub fit_of : {p : ℕ} → p ≡ width g → Costs32 (ArcOf g) → Fit g.bound p s nb
    fit_of e small = record {
      sound = net_sound g ripe.inside r limits.indices list_room;
      indices = nodes_of g;
      many = sym e;
      few = omega (arith, e, width_most g, limits.indices);
      source = present_in g s ripe.source;
      below = has_below g s ripe.source;
      ends = λ u v c a. let h = arc_has g ripe.inside u v c (over u v c a) in (present_in g u h.0, present_in g v h.1);
      small = λ u v c a. small u v c (over u v c a);
    }

    -- the totals are the map's, and each lies in its range
    pub solved_of : {M' : Memory} {t : Bool} → Costs32 (ArcOf g) → Searched g.bound s nb (memory b) M' t
        → Solved g s b (record { dist = M'.dist; scratch = record { rows = nb; queue = M'.queue; queued = M'.queued; lengths = M'.lengths } }) t
    solved_of small w = record {
      yes = λ e. negative_from_over over (w.yes e);
      no = λ e.
          let n = noneg_over over back (w.no e).0 in
          (n, λ v h. entry_of (total_within g s v _ ripe.inside ripe.source (omega (arith, width_most g, limits.indices)) small n) (total_over over back ((w.no e).1 v h)));
      rows = net_kept g ripe.inside r;
      rest = w.rest;
    }
