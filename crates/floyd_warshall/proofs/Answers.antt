-- From what the parts gave to the answer: the map solved, and the promise.
-- The entries that the rounds begin with are those of the map's arcs (Filled). So a diagonal entry below zero, before the rounds or in one, is a closed walk below
-- zero; and where all rounds are done without one, an entry below 2^49 is the least total, any other has no walk and is shown as none, and there is no closed walk
-- below zero (Totals). The part of the matrix that was worked on is put back in front of the rest, which was never touched, and the ranks are wiped.
-- Assumes nothing.
use mathlib.Core.Path.{◌≡◌, refl, sym, ap, ◌∙◌, subst}
use mathlib.Core.Bool.{Bool, true, false}
use mathlib.Core.List.{List, ◌++◌}
use mathlib.Core.Logic.{inl, inr}
use Prim.Native.Nat.{ℕ, ◌+◌, ◌*◌, ◌^◌, ◌<◌}
use native.Mathlib.Omega.{arith}
use lib.IntN.{ℤ, pos}
use lib.ListN.{length, get_or, drop, length-drop, length-append, get_or-append}
use lib.Seq.{drop_at}
use lib.Signed.{lt_z, ◌≤ℤ◌, ◌<ℤ◌}
use Rattle.whole.specs.Zed.{zed}
use Rattle.numbers.specs.Numbers.{here, past}
use Rattle.clean.specs.Fill.{filled}
use Rattle.clean.specs.None.{none_i64}
use Rattle.clean.proofs.Filled.{filled_same}
use Rattle.table.specs.Links.{links}
use Rattle.walks.specs.Walk.{Least, Negative, Entry, Total}
use Rattle.walks.proofs.Over.{entry_of as entry_within}
use Rattle.net.specs.Net.{Net, net_of, ArcOf, has, nodes_of, width}
use Rattle.net.specs.Ranks.{Ranks}
use Rattle.net.proofs.Nodes.{node_marked}
use Rattle.net.proofs.Totals.{total_within}
use Rattle.matrix.specs.Matrix.{square, Matrix, buffers_of}
use Rattle.matrix.proofs.Matrix.{place_in, closed_up}
use Rattle.floyd_warshall.specs.Promise.{Promise}
use Rattle.floyd_warshall.specs.Rounds.{pick_z, cell, after, any_below, Begun, Refused, Complete, Rounded}
use Rattle.floyd_warshall.specs.Filling.{refusal_no, Sound, Ranked, Started, Costs32Below, poured, shown, MatrixShown, Solved}
use Rattle.floyd_warshall.proofs.Turns.{none_below, some_below}
use Rattle.floyd_warshall.proofs.Totals.{refused, never, near_entry, far_entry}
use Rattle.floyd_warshall.proofs.Poured.{arc_fits}
use Rattle.floyd_warshall.proofs.Filled.{few, rowed, filled_size, matrix_filled, begun}
use Rattle.floyd_warshall.proofs.Refusals.{passed}

-- a diagonal entry, in steps of p + 1
diagonal_place : (p i : ℕ) → 0 + i * (p + 1) ≡ i * p + i
diagonal_place p i = omega arith

module _ (m n : ℕ) (d : Bool) (marks xs ys : List ℕ) (cs : List ℤ) (ranks : List ℕ) (S : Sound (net_of m n d marks xs ys cs)) (R : Ranked (net_of m n d marks xs ys cs) ranks)
    (F : Costs32Below cs n) where
  abbrev g : Net ℤ
  g = net_of m n d marks xs ys cs

  -- the matrix with p columns that the links filled
  pub record Prepared (p : ℕ) (l : List ℤ) : Type 0 where
    pub first : List ℤ
    pub started : Started p first
    pub is : l ≡ poured d p ranks (links n xs ys cs) first

  -- with as many columns as there are nodes
  module _ {l : List ℤ} (q : Prepared (width g) l) where
    size_of : length l ≡ square g
    size_of = ap length q.is ∙ filled_size m n d marks xs ys cs ranks S R F q.first q.started

    -- a diagonal entry below zero, before the rounds or in one
    below_rounds : Refused (width g) (cell (width g) l) → Negative (ArcOf g)
    below_rounds r =
        let t = subst (λ (x : List ℤ). after (cell (width g) x) r.k r.u r.u <ℤ pos 0) q.is r.low in
        refused (rowed m n d marks xs ys cs ranks S R F) (matrix_filled m n d marks xs ys cs ranks S R F q.first q.started) r.k r.u r.turn r.within t

    below_first : any_below l 0 (width g + 1) (width g) ≡ true → Negative (ArcOf g)
    unfolding after
    below_first e =
        let b = some_below l 0 (width g + 1) (width g) e in
        below_rounds (record { k = 0; u = b.i; turn = omega arith; within = b.within; low = subst (λ (x : ℕ). get_or l x (pos 0) <ℤ pos 0) (diagonal_place (width g) b.i) b.low })

    may_begin : any_below l 0 (width g + 1) (width g) ≡ false → Begun (width g) l
    may_begin e =
        subst (Begun (width g)) (sym q.is)
        (begun m n d marks xs ys cs ranks S R F q.first q.started (λ i h.
        subst (λ (x : List ℤ). pos 0 ≤ℤ cell (width g) x i i) q.is (subst (λ (x : ℕ). pos 0 ≤ℤ get_or l x (pos 0)) (diagonal_place (width g) i) (none_below l 0 (width g + 1) (width g) e i h))))

    -- every round is done, and each entry is shown
    module _ {l' l'' : List ℤ} (C : Complete (width g) l l') (s : length l' ≡ length l) (H : MatrixShown l' l'') where
      all_done : Complete (width g) (poured d (width g) ranks (links n xs ys cs) q.first) l'
      all_done = subst (λ (x : List ℤ). Complete (width g) x l') q.is C

      -- a least total lies in its range
      in_range_lem : (i j : ℕ) → i < width g → (x : ℤ) → Total (ArcOf g) (get_or (nodes_of g) i 0) (get_or (nodes_of g) j 0) x → Entry (ArcOf g) (get_or (nodes_of g) i 0) (get_or (nodes_of g) j 0) x
      in_range_lem i j h x =
          entry_within (total_within g (get_or (nodes_of g) i 0) (get_or (nodes_of g) j 0) x S.inside (node_marked (has g) m i h).1 (few m n d marks xs ys cs ranks S R) (arc_fits d n xs ys cs F)
          (λ y a t r o. closed_up (never (rowed m n d marks xs ys cs ranks S R F) (matrix_filled m n d marks xs ys cs ranks S R F q.first q.started) all_done.up) o))

      entry_shown : (i j : ℕ) → i < width g → j < width g → (b : Bool) → lt_z (cell (width g) l' i j) (pos (2 ^ 49)) ≡ b
          → Entry (ArcOf g) (get_or (nodes_of g) i 0) (get_or (nodes_of g) j 0) (pick_z b (cell (width g) l' i j) none_i64)
      entry_shown i j h k true e =
          let z = all_done.all i j h k in
          in_range_lem i j h _
          (inl (subst (Least (ArcOf g) (get_or (nodes_of g) i 0) (get_or (nodes_of g) j 0)) (sym z)
          (near_entry (rowed m n d marks xs ys cs ranks S R F) (matrix_filled m n d marks xs ys cs ranks S R F q.first q.started) all_done.up i j h k (omega (arith, zed)))))
      entry_shown i j h k false e =
          let z = all_done.all i j h k in
          inr (refl, far_entry (rowed m n d marks xs ys cs ranks S R F) (matrix_filled m n d marks xs ys cs ranks S R F q.first q.started) all_done.up i j h k (omega (arith, zed)))

      entry_of : (i j : ℕ) → i < width g → j < width g → Entry (ArcOf g) (get_or (nodes_of g) i 0) (get_or (nodes_of g) j 0) (cell (width g) l'' i j)
      unfolding shown
      entry_of i j h k =
          subst (Entry (ArcOf g) (get_or (nodes_of g) i 0) (get_or (nodes_of g) j 0)) (sym (H.at (i * width g + j) (omega (arith, s, size_of, place_in (width g) i j h k))))
          (entry_shown i j h k (lt_z (cell (width g) l' i j) (pos (2 ^ 49))) refl)

      solved_done : Solved g false l''
      solved_done = (never (rowed m n d marks xs ys cs ranks S R F) (matrix_filled m n d marks xs ys cs ranks S R F q.first q.started) all_done.up, entry_of)

  -- with the number of columns that was counted
  module _ {p : ℕ} (w : p ≡ width g) {l : List ℤ} (q : Prepared p l) where
    there : Prepared (width g) l
    there = subst (λ (x : ℕ). Prepared x l) w q

    pub solved_first : {b : Bool} → b ≡ any_below l 0 (p + 1) p → b ≡ true → Negative (ArcOf g)
    solved_first e t = below_first there (subst (λ (x : ℕ). any_below l 0 (x + 1) x ≡ true) w (sym e ∙ t))

    pub ask_rounds : {b : Bool} → b ≡ any_below l 0 (p + 1) p → b ≡ false → Begun p l
    ask_rounds e t = subst (λ (x : ℕ). Begun x l) (sym w) (may_begin there (subst (λ (x : ℕ). any_below l 0 (x + 1) x ≡ false) w (sym e ∙ t)))

    pub solved_rounds : (b : Bool) (l' : List ℤ) → Rounded p l l' b → b ≡ true → Negative (ArcOf g)
    solved_rounds b l' r t = below_rounds there (subst (λ (x : ℕ). Refused x (cell x l)) w (subst (Rounded p l l') t r))

    pub solved_all : (b : Bool) {l' l'' : List ℤ} → Rounded p l l' b → b ≡ false → length l' ≡ length l → MatrixShown l' l'' → Solved g false l''
    solved_all b {l'} r t s H = solved_done there (subst (λ (x : ℕ). Complete x l l') w (subst (Rounded p l l') t r)) s H

-- ---- the promise
module _ (g : Net ℤ) (matrix : List ℤ) (ranks : List ℕ) (ok : refusal_no g matrix ranks ≡ 0) where
  pub sound : Sound g
  sound = let k = passed g matrix ranks ok in record { whole = k.whole; inside = k.inside }

  pub ranked_of : {r : List ℕ} → Ranks (has g) g.bound ranks r → Ranked g r
  ranked_of q = record { long = omega (arith, (passed g matrix ranks ok).scratch, q.long); each = q.each }

  -- the scratch written and cleared
  cleared : {r : List ℕ} → Ranks (has g) g.bound ranks r → filled g.bound 0 r ≡ filled g.bound 0 ranks
  cleared {r} q = filled_same g.bound 0 r ranks q.rest

  -- the part used is put back in front of the rest
  module _ {p : ℕ} (w : p ≡ width g) (l : List ℤ) (s : length l ≡ p * p) {r : List ℕ} (q : Ranks (has g) g.bound ranks r) {matrix' : List ℤ} {ranks' : List ℕ}
      (e : ranks' ≡ filled g.bound 0 r) where
    pub answer_negative : (b : Bool) → Solved g b l → b ≡ true → matrix' ≡ filled (p * p) none_i64 (l ++ drop (p * p) matrix) → Promise g matrix ranks matrix' ranks' 7
    answer_negative b v t f =
        let k = passed g matrix ranks ok in
        let m : matrix' ≡ filled (square g) none_i64 matrix =
        f ∙ (filled_same (p * p) none_i64 (l ++ drop (p * p) matrix) matrix (drop_at l (drop (p * p) matrix) (p * p) s) ∙ ap (λ (x : ℕ). filled (x * x) none_i64 matrix) w) in
        record { follows = past k.enough (past k.inside (here (subst (λ (b : Bool). Solved g b l) t v) (refl, λ i. buffers_of (m i) ((e ∙ cleared q) i)))) }

    pub answer_done : (b : Bool) → Solved g b l → b ≡ false → matrix' ≡ l ++ drop (p * p) matrix → Promise g matrix ranks matrix' ranks' 0
    answer_done b v t f =
        let k = passed g matrix ranks ok in
        let u : Solved g false l = subst (λ (b : Bool). Solved g b l) t v in
        let z : square g ≡ p * p = ap (λ (x : ℕ). x * x) (sym w) in
        let m : Matrix g matrix matrix' =
        record {
          long = omega (arith, ap length f, length-append l (drop (p * p) matrix), length-drop (p * p) matrix, s, z, k.output);
          each = λ i j a c.
              subst (Entry (ArcOf g) (get_or (nodes_of g) i 0) (get_or (nodes_of g) j 0))
              (sym (ap (λ (x : List ℤ). get_or x (i * width g + j) (pos 0)) f ∙ get_or-append l (drop (p * p) matrix) (pos 0) (i * width g + j) (omega (arith, s, z, place_in (width g) i j a c))))
              (u.1 i j a c);
          rest = rw z (ap (drop (p * p)) f ∙ drop_at l (drop (p * p) matrix) (p * p) s);
        } in
        record { follows = past k.enough (past k.inside (past u.0 (here tt (refl, (m, e ∙ cleared q))))) }
