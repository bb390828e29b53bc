-- The search of the promise, 01's bag over the rows of the map, ends as the bag with one place per index does over its arcs: the two bags end alike, and an arc is a
-- member of a row.
-- Assumes nothing.
use mathlib.Core.Logic.{◌↔◌}
use mathlib.Core.Option.{some}
use lib.IntN.{ℤ, pos}
use lib.ListN.{get_or}
use Rattle.whole.specs.Zed.{◌⊕◌}
use Rattle.pending.specs.Setting.{End}
use Rattle.pending.specs.OnePlace.{begin, Ends}
use Rattle.pending.proofs.Ints.{whole_laws}
use Rattle.pending.proofs.Same.{literal_ends}
use Rattle.net.specs.Net.{Net, links_of, ArcOf}
use Rattle.rows.specs.Rows.{rows_of}
use Rattle.rows.proofs.Members.{arcs_rows}
use Rattle.a_star.specs.Promise.{Question, search_of, EndsIn}

-- the two bags end alike
pub literal_exactly : {g : Net ℤ} {q : Question} {x : End ℤ} → EndsIn g q x ↔ Ends (search_of q) (ArcOf g) (begin (search_of q)) 0 x
literal_exactly {g} {q} {x} =
    let laws = whole_laws (λ d v. d ⊕ get_or q.guess v (pos 0)) (some q.target) q.source in
    let same = literal_ends (search_of q) laws (ArcOf g) (rows_of g) (arcs_rows g.directed (links_of g)) x in
    (λ r. same.1 r.run, λ r. record { run = same.0 r })
