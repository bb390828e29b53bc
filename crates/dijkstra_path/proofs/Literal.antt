-- The search of the promise, 01's bag over the open rows of the map, ends as the bag with one place per index does over the open arcs: the two bags end alike, and an
-- open arc is a member of an open row.
-- Assumes nothing.
use mathlib.Core.Logic.{◌↔◌}
use mathlib.Core.Option.{none}
use Prim.Native.Nat.{ℕ}
use Rattle.float.specs.Cutoff.{Cutoff, past}
use Rattle.table.specs.declared.FloatCost.{FloatCost}
use Rattle.net.specs.Net.{Net, links_of, OpenArcOf}
use Rattle.rows.specs.Rows.{open_links, open_rows}
use Rattle.rows.proofs.Maps.{open_arcs_lem}
use Rattle.rows.proofs.Members.{arcs_rows}
use Rattle.pending.specs.Setting.{End, ArcOf}
use Rattle.pending.specs.Floats.{search64}
use Rattle.pending.proofs.Floats.{laws64}
use Rattle.pending.proofs.Same.{literal_ends}
use Rattle.pending.proofs.Cutoff64.{Ends64}
use Rattle.dijkstra_path.specs.Promise.{EndsIn}

-- the open arcs are the members of the open rows
pub open_rows_lem : (g : Net FloatCost) (u v c : ℕ) → OpenArcOf g u v c ↔ ArcOf (open_rows g) u v c
open_rows_lem g u v c =
    let o = open_arcs_lem g.directed (links_of g) u v c in
    let a = arcs_rows g.directed (open_links (links_of g)) u v c in
    (λ y. a.0 (o.1 y), λ y. o.0 (a.1 y))

-- the two bags end alike
pub literal_exactly : {g : Net FloatCost} {s : ℕ} {k : Cutoff} {x : End ℕ} → EndsIn g s k x ↔ Ends64 (OpenArcOf g) k s x
literal_exactly {g} {s} {k} {x} =
    let same = literal_ends (search64 (past k) none s) (laws64 (past k) none s) (OpenArcOf g) (open_rows g) (open_rows_lem g) x in
    (λ r. same.1 r.run, λ r. record { run = same.0 r })
