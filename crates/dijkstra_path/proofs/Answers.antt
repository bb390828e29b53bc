-- From what the parts gave to the promise, over plain lists.
-- Each part changes nothing past the part used of a buffer. So wiping and blanking at the end leave what they would have left of the buffers as they were lent, as
-- the promise says. The search ran over the neighbour list, whose arcs are the open arcs of the map, with the cutoff as a number, which cuts the same totals: so its
-- end is the end of the pending bag that the promise names.
-- Assumes nothing.
use mathlib.Core.Path.{◌≡◌, refl, sym, ap, ◌∙◌, subst}
use mathlib.Core.List.{List}
use mathlib.Core.Option.{none}
use Prim.Native.Nat.{ℕ, ◌≤◌, ◌<◌}
use lib.Ieee.{Float}
use lib.ListN.{length}
use lib.Seq.{get_or-take}
use Rattle.numbers.specs.Numbers as numbers
use Rattle.clean.specs.Fill.{filled, Settled}
use Rattle.clean.specs.None.{none_f64, none_u32, shown}
use Rattle.clean.proofs.Filled.{settle}
use Rattle.float.specs.Cutoff.{Cutoff, past, limit_of}
use Rattle.std.specs.Prelude.{Some}
use Rattle.float.proofs.Past.{past_limit}
use Rattle.pending.proofs.Cutoff64.{same_cutoff64}
use Rattle.table.specs.Links.{Link, arcs}
use Rattle.table.specs.declared.FloatCost.{FloatCost}
use Rattle.table.proofs.Laws.{whole}
use Rattle.net.specs.Net.{Net, links_of, OpenArcOf, most_arcs_of}
use Rattle.net.proofs.Nodes.{has_below}
use Rattle.rows.specs.Rows.{Lists, open_links, EnoughFor, Rows}
use Rattle.rows.specs.RowArc.{RowArc, Sound}
use Rattle.rows.specs.Kept.{EnoughLists}
use Rattle.rows.specs.Scratch.{wiped}
use Rattle.rows.proofs.Kept.{kept_same, lists_kept, wiped_rows, lists_for}
use Rattle.rows.proofs.Maps.{open_room, open_are, open_sound, open_kept}
use Rattle.pending.specs.Floats.{search64}
use Rattle.pending.proofs.One.{ends_map}
use Rattle.turns.specs.Memory.{Memory, memory_of}
use Rattle.turns.specs.Firsts.{EnoughMemory, Ran}
use Rattle.turns.proofs.Firsts.{memory_enough}
use Rattle.search.specs.Floats.{kind64}
use Rattle.search.specs.Lists.{bag_wiped}
use Rattle.dijkstra_path.specs.Promise.{Buffers, left, EndsIn, Promise}
use Rattle.dijkstra_path.proofs.Literal.{literal_exactly}
use Rattle.dijkstra_path.proofs.Refusals.{Passed}
use Rattle.dijkstra_path.proofs.Settles.{split}

module _ {g : Net FloatCost} {s : ℕ} {b : Buffers} (ok : Passed g s b) where
  abbrev m : ℕ
  m = g.bound

  -- the open arcs
  abbrev A : List (Link ℕ)
  A = arcs g.directed (open_links (links_of g))

  -- what the parts ask
  pub room : EnoughFor A m b.rows
  room = lists_for (open_room g.directed g.count g.table) ok.rows

  pub source_below : s < m
  source_below = has_below g s ok.source

  module _ {nb : Lists ℕ} (r : Rows A m b.rows nb) where
    pub list_sound : Sound m nb
    list_sound = open_sound g ok.inside r (whole m g.count g.room g.marks ok.whole).indices room

    -- the search done, and the number a that the code computed
    module _ (limit : Float) {M : Memory ℕ} {number takes : ℕ} (v : Ran (kind64 limit) m none s nb b.memory M number takes) {a : ℕ} (is : a ≡ most_arcs_of g) where
      -- the lists may be wiped, and the answers blanked
      pub wipes : EnoughLists m a nb × EnoughMemory m M
      wipes = (subst (λ (j : ℕ). EnoughLists m j nb) (sym is) (lists_kept ok.rows (open_kept g ok.inside r)), memory_enough ok.memory v.kept)

      -- the answers stand in the part used, the rest is as before
      dists : number ≡ 0 → Settled m (λ x y. y ≡ shown none_f64 (v.searched.end.dist x)) b.memory.dist M.dist
      dists e = settle none_f64 ok.memory.dist v.kept.dist.long (λ x h. sym (get_or-take m M.dist x none_f64 h) ∙ (v.searched.shows e).dist x) v.kept.dist.rest

      names : number ≡ 0 → Settled m (λ x y. y ≡ shown none_u32 (v.searched.end.pred x)) b.memory.preds M.preds
      names e = settle none_u32 ok.memory.preds v.kept.preds.long (λ x h. sym (get_or-take m M.preds x none_u32 h) ∙ (v.searched.shows e).preds x) v.kept.preds.rest

      -- the end over the open arcs of the map, where the limit is a cutoff's value
      ends_in : {k : Cutoff} → limit ≡ limit_of k → EndsIn g s k v.searched.end
      ends_in {k} cut =
          let are = open_are g ok.inside r in
          literal_exactly.1
          (ends_map (search64 (past k) none s) (RowArc m nb) (OpenArcOf g) (λ u w x. (are u w x).0) (λ u w x. (are u w x).1)
          (same_cutoff64 (Some limit) k (λ x d. ap (λ (c : Float). past (Some c) x) cut ∙ past_limit k x) s (RowArc m nb) v.searched.end v.searched.ends))

      -- the bag is wiped: the answers stay
      module _ {M' : Memory ℕ} (me : M' ≡ bag_wiped 0 m M) where
        dist_kept : M'.dist ≡ M.dist
        dist_kept = ap (λ (x : Memory ℕ). x.dist) me

        preds_kept : M'.preds ≡ M.preds
        preds_kept = ap (λ (x : Memory ℕ). x.preds) me

        pub dist_room : m ≤ length M'.dist
        dist_room = rw dist_kept wipes.1.dist

        pub preds_room : m ≤ length M'.preds
        preds_room = rw preds_kept wipes.1.preds

        -- so are the lists
        module _ {l : Lists ℕ} (le : l ≡ wiped m a 0 nb) where
          abbrev after : List ℕ → List ℕ → Buffers
          after x p = record { rows = l; memory = memory_of x p M'.peaks M'.words M'.keys }

          all_wiped : (x p : List ℕ) → after x p ≡ left g b x p
          all_wiped x p =
              let rows = le ∙ ap (λ (j : ℕ). wiped m j 0 nb) is ∙ wiped_rows 0 (open_kept g ok.inside r) in
              let peaks = ap (λ (y : Memory ℕ). y.peaks) me ∙ kept_same 0 v.kept.peaks in
              let words = ap (λ (y : Memory ℕ). y.words) me ∙ kept_same 0 v.kept.words in
              let keys = ap (λ (y : Memory ℕ). y.keys) me ∙ kept_same 0 v.kept.keys in
              λ j. record { rows = rows j; memory = memory_of x p (peaks j) (words j) (keys j) }

          -- done
          pub answer_done : {k : Cutoff} → limit ≡ limit_of k → number ≡ 0 → Promise g s k b (after M'.dist M'.preds) 0
          answer_done cut e =
              let zero : v.searched.end.number ≡ 0 = sym v.searched.is ∙ e in
              let d = subst (Settled m (λ x y. y ≡ shown none_f64 (v.searched.end.dist x)) b.memory.dist) (sym dist_kept) (dists e) in
              let p = subst (Settled m (λ x y. y ≡ shown none_u32 (v.searched.end.pred x)) b.memory.preds) (sym preds_kept) (names e) in
              record {
                follows = numbers.past ok.long (numbers.past ok.inside (numbers.past ok.source (numbers.past (λ y. split y.1 y.2 (ends_in cut) zero)
                    (numbers.here tt (refl, (v.searched.end, ends_in cut, zero, record { dist = d; preds = p }, all_wiped M'.dist M'.preds))))));
              }

          -- a bad cost
          pub answer_bad : {k : Cutoff} → limit ≡ limit_of k → number ≡ 6 → {x p : List ℕ} → x ≡ filled m none_f64 M'.dist → p ≡ filled m none_u32 M'.preds
              → {n : ℕ} → n ≡ 6 → Promise g s k b (after x p) n
          answer_bad cut e {x} {p} ex ep q =
              let dist = ex ∙ ap (filled m none_f64) dist_kept ∙ kept_same none_f64 v.kept.dist in
              let preds = ep ∙ ap (filled m none_u32) preds_kept ∙ kept_same none_u32 v.kept.preds in
              record {
                follows = numbers.past ok.long (numbers.past ok.inside (numbers.past ok.source
                    (numbers.here (v.searched.end, ends_in cut, sym v.searched.is ∙ e) (q, all_wiped x p ∙ (λ j. left g b (dist j) (preds j))))));
              }
