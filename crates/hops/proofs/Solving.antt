-- The neighbour list holds the arcs of the links, whatever their costs, so the searches over it solve the map.
-- Assumes nothing.
use mathlib.Core.Path.{◌≡◌, sym, ap, ◌∙◌, subst}
use mathlib.Core.Bool.{Bool}
use mathlib.Core.List.{List, ◌++◌}
use Prim.Native.Nat.{ℕ, ◌+◌, ◌*◌, ◌<◌}
use native.Mathlib.Omega.{arith}
use lib.ListN.{length, get_or, drop, take, length-append, length-drop, get_or-append}
use lib.Seq.{ext_get_or, get_or-drop}
use Rattle.table.specs.Links.{ends, present}
use Rattle.net.specs.Net.{Net, LeadsOf, nodes_of, width, most_arcs_of}
use Rattle.net.proofs.Nodes.{node_marked, width_most}
use Rattle.net.proofs.Same.{leads_below}
use Rattle.rows.specs.Rows.{end_lists, arcs_ends, EnoughFor, Rows}
use Rattle.rows.specs.RowArc.{Sound}
use Rattle.rows.specs.Kept.{KeptLists}
use Rattle.rows.proofs.Graph.{arc_of, row_of, sound}
use Rattle.rows.proofs.Kept.{rows_kept}
use Rattle.rows.proofs.Maps.{links_room, room_of}
use Rattle.rows.proofs.Places.{units_long}
use Rattle.hops.specs.Steps.{Entry}
use Rattle.hops.specs.Search.{RowLeads, CanFill, Filled}
use Rattle.hops.specs.Promise.{Buffers, buffers_of, Matrix}
use Rattle.hops.specs.Parts.{net_ends, Ripe, Solved}
use Rattle.hops.proofs.Steps.{entry_over}

module _ {m n : ℕ} {d : Bool} {marks xs ys : List ℕ} {b : Buffers} (ripe : Ripe m n d marks xs ys b) where
  -- the map without its costs
  abbrev g : Net Unit
  g = net_ends m n d marks xs ys

  pub list_room : EnoughFor (arcs_ends d n xs ys) m (end_lists b.offsets b.heads)
  list_room =
      room_of (arcs_ends d n xs ys) m (most_arcs_of g) (end_lists b.offsets b.heads) (links_room d n (ends xs ys)) (omega (arith, ripe.fits.offsets)) ripe.fits.heads
      (omega (arith, units_long b.heads, ripe.fits.heads))

  module _ {ns : List ℕ} (is : ns ≡ nodes_of g ++ drop (width g) b.nodes) where
    node_at : (j : ℕ) → j < width g → get_or ns j 0 ≡ get_or (nodes_of g) j 0
    node_at j h = ap (λ (l : List ℕ). get_or l j 0) is ∙ get_or-append (nodes_of g) (drop (width g) b.nodes) 0 j h

    nodes_long : length ns ≡ length b.nodes
    nodes_long = ap length is ∙ (length-append (nodes_of g) (drop (width g) b.nodes) ∙ omega (arith, length-drop (width g) b.nodes, ripe.fits.nodes))

    pub can_fill_lem : {p : ℕ} → p ≡ width g → CanFill m p ns b.labels b.queue b.matrix
    can_fill_lem {p} e = subst (λ (w : ℕ). CanFill m w ns b.labels b.queue b.matrix) (sym e) (record {
      room_l = ripe.fits.labels;
      room_q = omega (arith, ripe.fits.queue);
      nodes = omega (arith, nodes_long, ripe.fits.nodes);
      few = omega (arith, width_most g, ripe.ready.indices);
      room = ripe.fits.matrix;
      each = λ j h. omega (arith, node_at j h, (node_marked (present m marks) m j h).0);
    })

  module _ {os hs : List ℕ} (r : Rows (arcs_ends d n xs ys) m (end_lists b.offsets b.heads) (end_lists os hs)) where
    -- the arcs of the neighbour list are the map's
    leads_of : (u v : ℕ) → RowLeads m os hs u v → LeadsOf g u v
    leads_of u v a = (tt, arc_of d (take n (ends xs ys)) r u v tt a)

    row_leads : (u v : ℕ) → LeadsOf g u v → RowLeads m os hs u v
    row_leads u v w = row_of d (take n (ends xs ys)) r u v tt (leads_below g ripe.inside u v w).0 w.1

    pub fit_of : Sound m (end_lists os hs)
    fit_of = sound d (take n (ends xs ys)) r ripe.ready.indices list_room (λ u v c a. (leads_below g ripe.inside u v (c, a)).1)

    rests : KeptLists m (most_arcs_of g) (end_lists b.offsets b.heads) (end_lists os hs)
    rests = rows_kept (links_room d n (ends xs ys)) r

    module _ {ns : List ℕ} (is : ns ≡ nodes_of g ++ drop (width g) b.nodes) {p : ℕ} (many : p ≡ width g) {l' q' x' : List ℕ}
        (f : Filled m p p (RowLeads m os hs) ns b.labels b.queue b.matrix l' q' x') where
      full : Filled m (width g) (width g) (RowLeads m os hs) ns b.labels b.queue b.matrix l' q' x'
      full = subst (λ (w : ℕ). Filled m w w (RowLeads m os hs) ns b.labels b.queue b.matrix l' q' x') many f

      entry_at : (i j : ℕ) → i < width g → j < width g → Entry (LeadsOf g) (get_or (nodes_of g) i 0) (get_or (nodes_of g) j 0) (get_or x' (i * width g + j) 0)
      entry_at i j h k =
          subst (λ (u : ℕ). Entry (LeadsOf g) u (get_or (nodes_of g) j 0) (get_or x' (i * width g + j) 0)) (node_at is i h)
          (subst (λ (v : ℕ). Entry (LeadsOf g) (get_or ns i 0) v (get_or x' (i * width g + j) 0)) (node_at is j k) (entry_over leads_of row_leads (full.entry i j h k)))

      hops_of : Matrix g b.matrix x'
      hops_of = record {
        long = full.long;
        each = entry_at;
        rest =
            ext_get_or 0 (drop (width g * width g) x') (drop (width g * width g) b.matrix) (omega (arith, length-drop (width g * width g) x', length-drop (width g * width g) b.matrix, full.long))
            (λ i h. get_or-drop (width g * width g) x' i 0 ∙ (full.other (width g * width g + i) (omega arith) ∙ sym (get_or-drop (width g * width g) b.matrix i 0)));
      }

      pub solved_of : Solved g b (buffers_of ns x' os hs l' q') p
      solved_of = record {
        count = many;
        nodes = is;
        matrix = hops_of;
        long_o = rests.offsets.long;
        long_h = rests.heads.long;
        long_l = full.rest.long_l;
        long_q = full.rest.long_q;
        offsets = rests.offsets.rest;
        heads = rests.heads.rest;
        labels = full.rest.labels;
        queue = full.rest.queue;
      }
