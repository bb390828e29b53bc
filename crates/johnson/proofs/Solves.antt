-- From the shifted list and the rows to the map's matrix, on the part used of each slice.
-- A total over the shifted list, with both potentials taken off again, is a total over the map's arcs, so an entry that is found and shifted back is the least total
-- there; it is in its range, since a least total has fewer arcs than the map has indices. With potentials no shifted arc is below zero, so no closed walk of the map
-- is. Lent slices may be longer than the part used: what holds of the first entries is carried over to them.
-- Assumes nothing.
use mathlib.Core.Path.{◌≡◌, refl, sym, ap, subst}
use mathlib.Core.Bool.{Bool, true, false}
use mathlib.Core.List.{List, [], ◌∷◌, ◌++◌}
use Prim.Native.Nat.{ℕ, zero, suc, ◌+◌, ◌*◌, ◌≤◌, ◌<◌}
use native.Mathlib.Omega.{arith}
use lib.IntN.{ℤ, pos}
use lib.ListN.{length, get_or, take, drop, length-append, length-drop}
use lib.Seq.{drop_at, length-take-le}
use Rattle.whole.proofs.Cases.{clash}
use Rattle.walks.specs.Walk.{Negative, Entry, Total}
use Rattle.walks.proofs.Over.{entry_of, total_over}
use Rattle.net.specs.Net.{Net, ArcOf, inside_net, has, nodes_of, width}
use Rattle.net.proofs.Nodes.{node_marked, rank_of_rising, width_most}
use Rattle.net.proofs.Totals.{total_within}
use Rattle.rows.specs.Rows.{Lists, lists_of}
use Rattle.rows.specs.Kept.{Kept}
use Rattle.turns.specs.Memory.{memory_of}
use Rattle.turns.specs.Firsts.{KeptMemory}
use Rattle.matrix.specs.Matrix.{square, Matrix}
use Rattle.matrix.proofs.Matrix.{closed_up}
use Rattle.johnson.specs.Promise.{Scratch, scratch_of}
use Rattle.johnson.specs.Parts.{rank, CanFill, EntryShown, Filled, Laid, Prepared, Passed, Solved}
use Rattle.johnson.proofs.Sweeps.{none_below}
use Rattle.johnson.proofs.Shifts.{total_back}
use Rattle.johnson.proofs.Lays.{same_rest, pot_deep, laid_even}

-- ---- the matrix
module _ {g : Net ℤ} {nb : Lists ℤ} {h : List ℤ} (laid : Laid g nb h) (inside : inside_net g ≡ true) (few : width g ≤ 1024) where
  pub no_negative : Negative (ArcOf g) → ⊥
  no_negative = none_below h laid.potentials.resting

  -- what is shown is the map's total, in its range
  shown_entry : (u v : ℕ) (x : ℤ) → has g u ≡ true → EntryShown g.bound nb h u v x → Entry (ArcOf g) u v x
  shown_entry u v x i w =
      entry_of (total_within g u v x inside i few laid.potentials.small (λ y a t r o. closed_up no_negative o))
      (subst (Total (ArcOf g) u v) (sym w.is) (total_back h laid.potentials u v w.found (total_over laid.shifted laid.back w.total)))

  pub matrix_of : {before after : List ℤ} → Filled g.bound (width g) g.bound g.marks nb h before after → Matrix g before after
  matrix_of {before} {after} w = record { long = w.long; each = each; rest = same_rest (square g) before after w.long w.rest }
    where
      each : (i j : ℕ) → i < width g → j < width g → Entry (ArcOf g) (get_or (nodes_of g) i 0) (get_or (nodes_of g) j 0) (get_or after (i * width g + j) (pos 0))
      each i j a b =
          let k = node_marked (has g) g.bound i a in
          let l = node_marked (has g) g.bound j b in
          subst (λ (x : ℕ). Entry (ArcOf g) (get_or (nodes_of g) i 0) (get_or (nodes_of g) j 0) (get_or after (x * width g + j) (pos 0))) (rank_of_rising (has g) g.bound i a)
          (subst (λ (y : ℕ). Entry (ArcOf g) (get_or (nodes_of g) i 0) (get_or (nodes_of g) j 0) (get_or after (rank g.bound g.marks (get_or (nodes_of g) i 0) * width g + y) (pos 0)))
          (rank_of_rising (has g) g.bound j b)
          (shown_entry _ _ _ k.1 (w.each (get_or (nodes_of g) i 0) (get_or (nodes_of g) j 0) k.0 l.0 k.1 l.1)))

-- ---- the part used of a slice
module _ {X : Type 0} where
  pub part_long : (m : ℕ) (l : List X) → m ≤ length l → m ≡ length (take m l)
  part_long m l h = sym (length-take-le m l h)

  part_back : (m : ℕ) (l r : List X) → length l ≡ m → take m (l ++ r) ≡ l
  part_back zero [] r e = refl
  part_back zero (x ∷ l) r e = absurd (omega arith)
  part_back (suc m) [] r e = absurd (omega arith)
  part_back (suc m) (x ∷ l) r e = ap (λ (k : List X). x ∷ k) (part_back m l r (omega arith))

  whole_long : (m : ℕ) (l part : List X) → m ≤ length l → length part ≡ m → length (part ++ drop m l) ≡ length l
  whole_long m l part h e = omega (arith, length-append part (drop m l), length-drop m l)

  kept_part : (m : ℕ) (l part : List X) → m ≤ length l → length part ≡ m → Kept m l (part ++ drop m l)
  kept_part m l part h e = record { long = whole_long m l part h e; rest = drop_at part (drop m l) m e }

-- ---- the map solved
module _ {g : Net ℤ} {matrix : List ℤ} {s : Scratch} (p : Passed g matrix s) where
  abbrev m : ℕ
  m = g.bound

  module _ {os hs : List ℕ} {ws part : List ℤ} {r : Bool} (w : Prepared g s.rows (lists_of os hs ws) part r) where
    abbrev heights : List ℤ
    heights = part ++ drop m s.heights

    pub heights_long : m ≡ length (take m heights)
    heights_long = part_long m heights (omega (arith, whole_long m s.heights part p.room.heights w.long, p.room.heights))

    module _ (e : r ≡ false) {k : ℕ} (is : k ≡ width g) where
      few : width g ≤ 1024
      few = omega (arith, width_most g, p.room.bounded)

      laid : Laid g (lists_of os hs ws) (take m heights)
      laid = subst (Laid g (lists_of os hs ws)) (sym (part_back m part (drop m s.heights) w.long)) (w.no e)

      pub can_fill_lem : m ≤ length g.marks → CanFill m k g.marks (lists_of os hs ws) (take m heights) matrix
      can_fill_lem marked = record {
        width = is;
        marked = marked;
        even = laid_even few laid;
        long = sym heights_long;
        deep = pot_deep few laid.potentials;
        room = subst (λ (x : ℕ). x * x ≤ length matrix) (sym is) p.output;
      }

      pub solved_no : {matrix' ds : List ℤ} {ps hp pl : List ℕ} {ks : List ℤ} → Filled m k m g.marks (lists_of os hs ws) (take m heights) matrix matrix'
          → KeptMemory m s.memory (memory_of ds ps hp pl ks)
          → Solved g matrix s matrix' (scratch_of os hs ws heights ds ps hp pl ks) false
      solved_no {matrix'} f z =
          let f' = subst (λ (x : ℕ). Filled m x m g.marks (lists_of os hs ws) (take m heights) matrix matrix') is f in
          let x = matrix_of laid p.inside few f' in
          record {
            kept = record { rows = w.kept; heights = kept_part m s.heights part p.room.heights w.long; memory = z };
            output = record { long = x.long; rest = x.rest };
            yes = λ q. absurd (clash q refl);
            no = λ q. (no_negative laid p.inside few, x);
          }
