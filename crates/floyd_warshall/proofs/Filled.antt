-- The matrix of a sound map before the rounds: what `Totals` asks of it, and what the rounds ask.
-- Rows are the present indices in rising order, and `ranks` leads from an index to its row and back. An entry is 0 on the diagonal, or 2^50, or the cost of an arc
-- between the indices of its row and column, and it is no more than the cost of any such arc (Poured). So each entry but 2^50 is the total of a walk, of no arcs or
-- of one, and all lie in -2^50 ..= 2^50.
-- Assumes nothing.
use mathlib.Core.Path.{◌≡◌, sym, ap, ◌∙◌, subst}
use mathlib.Core.Bool.{Bool, true}
use mathlib.Core.List.{List, [], ◌∷◌}
use mathlib.Core.Logic.{◌⊎◌, inl, inr, ⊎_elim}
use Prim.Native.Nat.{ℕ, ◌*◌, ◌^◌, ◌≤◌, ◌<◌}
use native.Mathlib.Decide.{ℕ_discrete}
use native.Mathlib.Omega.{arith}
use lib.IntN.{ℤ, pos}
use lib.ListN.{length, get_or}
use lib.Signed.{◌≤ℤ◌}
use Rattle.whole.specs.Zed.{zed, Within}
use Rattle.whole.proofs.Cases.{and_left, and_right}
use Rattle.table.specs.Links.{Link, links, present, present_both, inside, all_inside}
use Rattle.walks.specs.Walk.{Walk, stay}
use Rattle.walks.proofs.Walk.{arc}
use Rattle.net.specs.Net.{Net, net_of, ArcOf, has, nodes_of, width}
use Rattle.net.proofs.Nodes.{has_below, node_ranked, node_has, present_in, rank_of_rising, one_place, member}
use Rattle.net.proofs.Bounds.{whole_ints, long_ints, width_small}
use Rattle.net.proofs.Same.{arc_has}
use Rattle.floyd_warshall.specs.Rounds.{cell, Begun}
use Rattle.floyd_warshall.specs.Filling.{Sound, Ranked, Started, Costs32Below, poured}
use Rattle.floyd_warshall.proofs.Poured.{ends_present_lem, arc_fits, RowsBelow, ArcIn, poured_size, poured_le, poured_low, poured_new}
use Rattle.floyd_warshall.proofs.Totals.{Filled, Rowed}

-- a link that is poured: its ends have rows in the matrix
pub record LinkAt (ranks : List ℕ) (p a b : ℕ) : Type 0 where
  pub small : (a < 1024) × (b < 1024)
  pub tail : a < length ranks
  pub head : b < length ranks
  pub row : get_or ranks a 0 < p
  pub column : get_or ranks b 0 < p

module _ (m n : ℕ) (d : Bool) (marks xs ys : List ℕ) (cs : List ℤ) (ranks : List ℕ) (S : Sound (net_of m n d marks xs ys cs)) (R : Ranked (net_of m n d marks xs ys cs) ranks) where
  abbrev g : Net ℤ
  g = net_of m n d marks xs ys cs

  -- the row of a present index, and the index of a row
  row_in : (u : ℕ) → has g u ≡ true → get_or ranks u 0 < width g
  row_in u e = let r = node_ranked g u e in omega (arith, R.each u (has_below g u e), r.within)

  row_of : (u : ℕ) → has g u ≡ true → get_or (nodes_of g) (get_or ranks u 0) 0 ≡ u
  row_of u e = ap (λ (x : ℕ). get_or (nodes_of g) x 0) (R.each u (has_below g u e)) ∙ (node_ranked g u e).at

  of_row : (i : ℕ) → i < width g → get_or ranks (get_or (nodes_of g) i 0) 0 ≡ i
  of_row i h = R.each (get_or (nodes_of g) i 0) (has_below g _ (node_has g i h)) ∙ rank_of_rising (has g) m i h

  pub link_at : (e : ℕ) → e < n → LinkAt ranks (width g) (get_or xs e 0) (get_or ys e 0)
  link_at e h =
      let l = long_ints m n d marks xs ys cs S.whole in
      let k = ends_present_lem m n e marks xs ys cs h l.0 l.1 l.2 S.inside in
      let w = (whole_ints m n d marks xs ys cs S.whole).indices in
      record {
        small = (omega (arith, w, has_below g _ k.0), omega (arith, w, has_below g _ k.1));
        tail = omega (arith, has_below g _ k.0, R.long);
        head = omega (arith, has_below g _ k.1, R.long);
        row = row_in _ k.0;
        column = row_in _ k.1;
      }

  within_all : (ls : List (Link ℤ)) → all_inside m marks ls ≡ true → RowsBelow d (width g) ranks ls
  unfolding present_both
  within_all [] e = tt
  within_all (x ∷ ls) e =
      let k = and_left (inside m marks x) _ e in (row_in _ (and_left (present m marks x.a) _ k), row_in _ (and_right (present m marks x.a) _ k), within_all ls (and_right (inside m marks x) _ e))

  pub few : width g ≤ 1024
  few = width_small (whole_ints m n d marks xs ys cs S.whole)

  module _ (F : Costs32Below cs n) where
    pub rowed : Rowed (ArcOf g) (nodes_of g)
    rowed =
        record {
          few = few;
          leave = λ u v c a. let e = (arc_has g S.inside u v c a).0 in (get_or ranks u 0, row_in u e, row_of u e);
          lead = λ u v c a. let e = (arc_has g S.inside u v c a).1 in (get_or ranks v 0, row_in v e, row_of v e);
          into = λ u v c a. present_in g v (arc_has g S.inside u v c a).1;
          row = member (nodes_of g);
          one = one_place (has g) m;
          cost = arc_fits d n xs ys cs F;
        }

    module _ (l : List ℤ) (T : Started (width g) l) where
      abbrev l' : List ℤ
      l' = poured d (width g) ranks (links n xs ys cs) l

      in_all : RowsBelow d (width g) ranks (links n xs ys cs)
      in_all = within_all (links n xs ys cs) S.inside

      pub filled_size : length l' ≡ width g * width g
      filled_size = poured_size d (width g) ranks (links n xs ys cs) l in_all T.square.size

      -- an entry is 0 on the diagonal, or 2^50, or the cost of an arc
      origin : (i j : ℕ) → i < width g → j < width g
          → (((i ≡ j) × (cell (width g) l' i j ≡ pos 0)) ⊎ (cell (width g) l' i j ≡ pos (2 ^ 50))) ⊎ ArcIn d (width g) ranks (links n xs ys cs) i j (cell (width g) l' i j)
      origin i j h k = ⊎_elim (λ e. inl (go (ℕ_discrete i j) e)) inr (poured_new d (width g) ranks (links n xs ys cs) l in_all T.square.size i j k)
        where
          go : Dec (i ≡ j) → cell (width g) l' i j ≡ cell (width g) l i j → ((i ≡ j) × (cell (width g) l' i j ≡ pos 0)) ⊎ (cell (width g) l' i j ≡ pos (2 ^ 50))
          go (yes q) e = inl (q, e ∙ (ap (cell (width g) l i) (sym q) ∙ T.zero i h))
          go (no q) e = inr (e ∙ T.far i j h k q)

      arc_of : (i j : ℕ) {c : ℤ} → ArcIn d (width g) ranks (links n xs ys cs) i j c → ArcOf g (get_or (nodes_of g) i 0) (get_or (nodes_of g) j 0) c
      arc_of i j {c} a =
          let e = arc_has g S.inside a.u a.v c a.arc in
          subst (λ (y : ℕ). ArcOf g (get_or (nodes_of g) i 0) y c) (sym (row_of a.v e.1) ∙ ap (λ (x : ℕ). get_or (nodes_of g) x 0) a.column)
          (subst (λ (y : ℕ). ArcOf g y a.v c) (sym (row_of a.u e.0) ∙ ap (λ (x : ℕ). get_or (nodes_of g) x 0) a.row) a.arc)

      pub matrix_filled : Filled (ArcOf g) (nodes_of g) (cell (width g) l')
      matrix_filled =
          record {
            diag = λ i h.
                let e : cell (width g) l i i ≡ pos 0 = T.zero i h in
                let f : cell (width g) l' i i ≤ℤ cell (width g) l i i = poured_le d (width g) ranks (links n xs ys cs) l in_all T.square.size i i h in
                omega (arith, zed);
            low = low;
            real = λ i j h k. ⊎_elim (⊎_elim (λ e. inr (still i j e.0 e.1)) (λ e. inl e)) (λ a. inr (arc (arc_of i j a))) (origin i j h k);
          }
        where
          still : (i j : ℕ) → i ≡ j → cell (width g) l' i j ≡ pos 0 → Walk (ArcOf g) (get_or (nodes_of g) i 0) (get_or (nodes_of g) j 0) (cell (width g) l' i j)
          still i j q e = subst (λ (x : ℕ). Walk (ArcOf g) (get_or (nodes_of g) i 0) (get_or (nodes_of g) x 0) (cell (width g) l' i j)) q (stay e)

          low : (i j v : ℕ) (c : ℤ) → i < width g → j < width g → get_or (nodes_of g) j 0 ≡ v → ArcOf g (get_or (nodes_of g) i 0) v c → cell (width g) l' i j ≤ℤ c
          low i j v c h k e a =
              let r : get_or ranks v 0 ≡ j = ap (λ (x : ℕ). get_or ranks x 0) (sym e) ∙ of_row j k in
              let s : get_or ranks (get_or (nodes_of g) i 0) 0 ≡ i = of_row i h in
              subst (λ (x : ℕ). cell (width g) l' i x ≤ℤ c) r
              (subst (λ (x : ℕ). cell (width g) l' x (get_or ranks v 0) ≤ℤ c) s
              (poured_low d (width g) ranks (links n xs ys cs) l in_all T.square.size (get_or (nodes_of g) i 0) v c (omega (arith, r)) a))

      pub begun : ((i : ℕ) → i < width g → pos 0 ≤ℤ cell (width g) l' i i) → Begun (width g) l'
      begun up = record { few = few; size = filled_size; near = near; up = up }
        where
          near : (i j : ℕ) → i < width g → j < width g → Within (2 ^ 50) (cell (width g) l' i j)
          near i j h k =
              ⊎_elim (⊎_elim (λ e. rw e.1 (omega arith)) (λ e. rw e (omega arith))) (λ a. let b = arc_fits d n xs ys cs F a.u a.v (cell (width g) l' i j) a.arc in omega arith)
              (origin i j h k)
