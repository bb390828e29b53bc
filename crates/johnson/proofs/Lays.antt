-- From a map that is not refused to its shifted neighbour list: the potentials may be asked for, the list may be made and shifted,
-- and its arcs are then the map's arcs shifted.
-- What stands at a place of the list is an arc of the map, so its cost is small and its head below m, and it may be shifted; every arc of the map stands there, so the
-- shifted list has exactly the shifted arcs (Shifted). No arc lowers a potential, and none is far from 0: so its weights are from 0 to 2^41 (Shifts).
-- Assumes nothing.
use mathlib.Core.Path.{◌≡◌, refl, sym, ap, ◌∙◌, subst}
use mathlib.Core.Bool.{Bool, true, false}
use mathlib.Core.List.{List, [], ◌∷◌}
use Prim.Native.Nat.{ℕ, zero, suc, ◌+◌, ◌≤◌, ◌<◌, ◌^◌}
use native.Mathlib.Numerals.{add-one}
use native.Mathlib.Omega.{arith}
use native.Mathlib.Decide.{dec_lt}
use lib.IntN.{ℤ, pos, negsuc}
use lib.Signed.{◌≤ℤ◌}
use lib.ListN.{length, get_or, drop, length-drop}
use lib.Seq.{ext_get_or, get_or-drop}
use Rattle.whole.specs.Zed.{P, zed}
use Rattle.whole.proofs.Cases.{clash}
use Rattle.clean.specs.Fill.{filled}
use Rattle.clean.proofs.Filled.{filled_length, filled_at}
use Rattle.table.specs.Links.{Link, links, arcs, starts, Arc}
use Rattle.walks.proofs.Shift.{shifted_over}
use Rattle.walks.specs.Costs.{Costs32}
use Rattle.net.specs.Net.{Net, net_of, ArcOf, most_arcs_of, nodes_of, width}
use Rattle.net.proofs.Bounds.{whole_ints, width_small, size_most}
use Rattle.net.proofs.Same.{arc_has, arc_below}
use Rattle.net.proofs.Nodes.{present_in}
use Rattle.rows.specs.Rows.{Lists, lists_of, Ready, Rows}
use Rattle.rows.specs.Rows as rows
use Rattle.rows.specs.RowArc.{RowArc, Sound}
use Rattle.rows.proofs.Segments.{starts_mono, starts_le}
use Rattle.rows.proofs.Graph.{here}
use Rattle.rows.proofs.Kept.{kept_none, kept_more}
use Rattle.rows.proofs.Maps.{links_room, ready_ints, net_room, arcs_are, net_sound, net_kept, row_small}
use Rattle.johnson.specs.Rounds.{label, table_of, Deep}
use Rattle.johnson.specs.Potentials.{Ask, Potentials, Answered}
use Rattle.johnson.specs.Shifting.{Listed, ShiftedTo}
use Rattle.johnson.specs.Parts.{Even, Ripe, Laid, Prepared}
use Rattle.johnson.proofs.Shifts.{shifted_low, shifted_high}
use Rattle.johnson.proofs.Shifted.{row_shifted, shifted_row}

-- what is the same from n on is the same rest
pub same_rest : (n : ℕ) (l l' : List ℤ) → length l' ≡ length l → ((x : ℕ) → n ≤ x → get_or l' x (pos 0) ≡ get_or l x (pos 0)) → drop n l' ≡ drop n l
same_rest n l l' e f =
    ext_get_or (pos 0) (drop n l') (drop n l) (omega (arith, length-drop n l', length-drop n l))
    (λ x h. get_or-drop n l' x (pos 0) ∙ (f (n + x) (omega arith) ∙ sym (get_or-drop n l x (pos 0))))

-- potentials do not go far
pub pot_deep : {Arc : ℕ → ℕ → ℤ → Type 0} {p : ℕ} {h : List ℤ} → p ≤ 1024 → Potentials Arc p h → (v : ℕ) → Deep (2 ^ 59) (label h v)
pot_deep few pot v = record { high = pot.high v; low = omega (arith, pot.low v) }

-- the row of a place
record InRow (A : List (Link ℤ)) (m j : ℕ) : Type 0 where
  pub row : ℕ
  pub below : row < m
  pub from : starts A row ≤ j
  pub to : j < starts A (row + 1)

row_of_place : (A : List (Link ℤ)) (m j : ℕ) → j < starts A m → InRow A m j
row_of_place A zero j l = absurd (omega arith)
row_of_place A (suc m) j l = go (dec_lt j (starts A m)) (λ k. row_of_place A m j k)
  where
    go : Dec (j < starts A m) → (j < starts A m → InRow A m j) → InRow A (suc m) j
    go (yes k) g = let r = g k in record { row = r.row; below = omega (arith, r.below); from = r.from; to = r.to }
    go (no f) g = record { row = m; below = omega arith; from = omega (arith, f); to = subst (λ (x : ℕ). j < starts A x) (sym (add-one m)) l }

-- all zero
zeros : (m : ℕ) (h h' : List ℤ) → length h ≡ m → h' ≡ filled m (pos 0) h → (v : ℕ) → label h' v ≡ pos 0
zeros m h h' long e v = go (dec_lt v m)
  where
    go : Dec (v < m) → label h' v ≡ pos 0
    go (yes k) = ap (λ (l : List ℤ). get_or l v (pos 0)) e ∙ filled_at m (pos 0) (pos 0) h v k
    go (no f) = past h' v (omega (arith, f, ap length e ∙ filled_length m (pos 0) h (omega arith)))
      where
        past : (l : List ℤ) (v : ℕ) → length l ≤ v → get_or l v (pos 0) ≡ pos 0
        past [] v k = refl
        past (x ∷ l) zero k = absurd (omega arith)
        past (x ∷ l) (suc v) k = past l v (omega arith)

module _ (m n : ℕ) (d : Bool) (marks xs ys : List ℕ) (cs : List ℤ) {s : Lists ℤ} {h : List ℤ} (ripe : Ripe (net_of m n d marks xs ys cs) s h) where
  abbrev g : Net ℤ
  g = net_of m n d marks xs ys cs

  ready : Ready m n xs ys × (n ≤ length cs)
  ready = ready_ints m n d marks xs ys cs ripe.whole ripe.inside

  few : width g ≤ 1024
  few = width_small (whole_ints m n d marks xs ys cs ripe.whole)

  pub marked : m ≤ length marks
  marked = (whole_ints m n d marks xs ys cs ripe.whole).marked

  -- the potentials may be asked for
  pub ask : {p : ℕ} {h' : List ℤ} → p ≡ width g → h' ≡ filled m (pos 0) h → Ask (table_of d xs ys cs) n p h'
  ask {p} {h'} is e =
      let long : length h' ≡ m = ap length e ∙ (filled_length m (pos 0) h (omega (arith, ripe.heights)) ∙ ripe.heights) in
      record {
        sound = record {
          few = ready.0.few;
          room_a = ready.0.in_from;
          room_b = ready.0.in_to;
          room_c = ready.1;
          tails = λ k l. rw long (ready.0.tails k l);
          heads = λ k l. rw long (ready.0.heads k l);
        };
        few = omega (arith, is, few);
        indices = nodes_of g;
        many = sym is;
        ends = λ u v c a. let q = arc_has g ripe.inside u v c a in (present_in g u q.0, present_in g v q.1);
        zeros = zeros m h h' ripe.heights e;
      }

  abbrev A : List (Link ℤ)
  A = arcs d (links n xs ys cs)

  -- the list may be made
  room : rows.EnoughFor A m s
  room = net_room g ripe.rows

  pub can_list : (Ready m n xs ys × (n ≤ length cs)) × rows.EnoughFor A m s
  can_list = (ready, room)

  -- where the answer is 7 no list is made: offsets, heads and weights are as they were, potentials were written
  pub prepared_yes : {h' h'' : List ℤ} {p : ℕ} {r : Bool} → h' ≡ filled m (pos 0) h → Answered (table_of d xs ys cs) n p h' h'' r → r ≡ true → Prepared g s s h'' true
  prepared_yes e a f = record {
    long = a.long ∙ (ap length e ∙ (filled_length m (pos 0) h (omega (arith, ripe.heights)) ∙ ripe.heights));
    kept = record { offsets = kept_none; heads = kept_none; weights = kept_none };
    yes = λ q. a.yes f;
    no = λ q. absurd (clash refl q);
  }

  module _ {p : ℕ} {h' h'' : List ℤ} {t : Bool} (is : p ≡ width g) (e : h' ≡ filled m (pos 0) h) (a : Answered (table_of d xs ys cs) n p h' h'' t) (f : t ≡ false) where
    pot : Potentials (ArcOf g) (width g) h''
    pot = subst (λ (q : ℕ). Potentials (ArcOf g) q h'') is (a.no f)

    long : length h'' ≡ m
    long = a.long ∙ (ap length e ∙ (filled_length m (pos 0) h (omega (arith, ripe.heights)) ∙ ripe.heights))

    module _ {os hs : List ℕ} {ws : List ℤ} (r : Rows A m s (lists_of os hs ws)) (small : Costs32 (Arc d (links n xs ys cs))) where
      abbrev nb : Lists ℤ
      nb = lists_of os hs ws

      start_is : (u : ℕ) → u ≤ m → get_or os u 0 ≡ starts A u
      start_is u k = r.start u k

      room_w : get_or os m 0 ≤ length ws
      room_w = omega (arith, start_is m (omega arith), starts_le A m, room.weights, r.long_w)

      -- what stands at a place of the list is an arc
      at : (j : ℕ) → j < get_or os m 0 → (u : ℕ) × RowArc m nb u (get_or hs j 0) (get_or ws j (pos 0))
      at j l =
          let q = row_of_place A m j (omega (arith, start_is m (omega arith))) in (
            q.row,
            here m nb q.row j (pos 0) q.below (omega (arith, start_is q.row (omega (arith, q.below)), q.from)) (omega (arith, start_is (q.row + 1) (omega (arith, q.below)), q.to))
                (omega (arith, room_w)),
          )

      -- the list may be shifted
      pub listed : Listed m 0 nb h''
      listed = record {
        starts = omega (arith, r.long_o, room.offsets);
        rising = λ v w k l. omega (arith, start_is v (omega arith), start_is w l, starts_mono A v w k);
        few = omega (arith, start_is m (omega arith), starts_le A m, links_room d n g.table, size_most (whole_ints m n d marks xs ys cs ripe.whole));
        room_h = omega (arith, start_is m (omega arith), starts_le A m, room.heads, r.long_h);
        room_w = room_w;
        inside = λ j l. (arc_below g ripe.inside _ _ _ ((arcs_are g ripe.inside r _ _ _).0 (at j l).1)).1;
        small = λ j k l. row_small d (links n xs ys cs) r small (at j l).0 (get_or hs j 0) (get_or ws j (pos 0)) (at j l).1;
        long = long;
        deep = pot_deep few pot;
      }

      -- and is then laid
      module _ {ws' : List ℤ} (to : ShiftedTo m nb h'' ws' (get_or os m 0)) where
        sound : Sound m nb
        sound = net_sound g ripe.inside r ready.0.indices room

        pub laid : Laid g (lists_of os hs ws') h''
        laid = record {
          rows = record {
            bounded = sound.bounded;
            starts = sound.starts;
            heads = sound.heads;
            weights = λ u k. omega (arith, sound.weights u k, to.long);
            inside = λ u v c b. let q = row_shifted listed to u v c b in sound.inside u v q.0 q.1;
          };
          potentials = pot;
          shifted = λ u v c b. shifted_over (label h'') (λ x y z k. (arcs_are g ripe.inside r x y z).0 k) u v c (row_shifted listed to u v c b);
          back = λ u v c b. shifted_row listed to u v c (shifted_over (label h'') (λ x y z k. (arcs_are g ripe.inside r x y z).1 k) u v c b);
        }

        pub prepared_no : Prepared g s (lists_of os hs ws') h'' false
        prepared_no =
            let k = net_kept g ripe.inside r in
            record {
              long = long;
              kept = record {
                offsets = k.offsets;
                heads = k.heads;
                weights =
                    kept_more k.weights
                    (record {
                      long = to.long;
                      rest = same_rest (most_arcs_of g) ws ws' to.long (λ x q. to.rest x (omega (arith, start_is m (omega arith), starts_le A m, links_room d n g.table)));
                    });
              };
              yes = λ q. absurd (clash q refl);
              no = λ q. laid;
            }

-- a list that is laid has weights from 0 to 2^41
pub laid_even : {g : Net ℤ} {nb : Lists ℤ} {h : List ℤ} → width g ≤ 1024 → Laid g nb h → Even g.bound nb
laid_even {g} {nb} {h} few w = record {
  rows = w.rows;
  up = λ u v c a. let q = w.shifted u v c a in subst (λ (x : ℤ). pos 0 ≤ℤ x) (sym q.2) (shifted_low h w.potentials q.1);
  cheap = λ u v c a.
      let q = w.shifted u v c a in
      let k : c ≤ℤ pos (2 ^ 41) = subst (λ (x : ℤ). x ≤ℤ pos (2 ^ 41)) (sym q.2) (shifted_high h w.potentials few q.1) in
      let l : pos 0 ≤ℤ c = subst (λ (x : ℤ). pos 0 ≤ℤ x) (sym q.2) (shifted_low h w.potentials q.1) in
      up_to c k l;
}
  where
    up_to : (c : ℤ) → c ≤ℤ pos (2 ^ 41) → pos 0 ≤ℤ c → P c ≤ 2 ^ 41
    up_to (pos i) k l = omega (arith, zed)
    up_to (negsuc i) k l = omega arith
