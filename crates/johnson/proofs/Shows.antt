-- The rows of the matrix: the row of one source, written from what was found, and all rows in the order of the nodes.
-- What is found is not far from 0: no weight is below 0, and a least total has fewer arcs than there are indices.
-- Assumes nothing.
use mathlib.Core.Path.{◌≡◌, refl, sym, ap, ◌∙◌, subst}
use mathlib.Core.Bool.{true}
use mathlib.Core.List.{List}
use mathlib.Core.Logic.{inl, inr}
use Prim.Native.Nat.{ℕ, ◌+◌, ◌*◌, ◌≤◌, ◌<◌, ◌^◌}
use native.Mathlib.Nat.{mul-le-mul_right}
use native.Mathlib.Omega.{arith}
use native.Mathlib.Decide.{ℕ_discrete}
use lib.IntN.{ℤ, pos}
use lib.Signed.{◌≤ℤ◌, ◌<ℤ◌}
use lib.ListN.{length, get_or, set, length-set}
use lib.Seq.{get_or-set_same, get_or-set_other}
use Rattle.whole.specs.Zed.{zed, Within}
use Rattle.whole.proofs.Cases.{clash}
use Rattle.clean.specs.None.{none_i64}
use Rattle.table.specs.Links.{present}
use Rattle.walks.specs.Pigeon.{In}
use Rattle.walks.specs.Walk.{Total}
use Rattle.walks.proofs.Walk.{walk_up}
use Rattle.walks.proofs.Cheap.{least_within}
use Rattle.walks.specs.Costs.{Costs}
use Rattle.net.specs.Net.{rising}
use Rattle.net.proofs.Nodes.{count_most, ranked, rising_in, present_yes, present_no}
use Rattle.net.proofs.Lists.{count_yes, count_no}
use Rattle.rows.specs.Rows.{Lists}
use Rattle.rows.specs.RowArc.{RowArc}
use Rattle.turns.specs.Memory.{Memory}
use Rattle.turns.specs.Firsts.{KeptMemory}
use Rattle.search.specs.Runs.{ToAll, done, bad}
use Rattle.matrix.proofs.Matrix.{square_small, row_in, row_before}
use Rattle.johnson.specs.Shifting.{shifted_back}
use Rattle.johnson.specs.Parts.{Even, Found, rank, Moderate, CanShow, RowShown, CanFill, EntryShown, Filled, RowMade}

-- ---- one row
-- while it is written: v indices are passed, j of them present
pub record Showing (m at s : ℕ) (marks : List ℕ) (h ds before after : List ℤ) (j v : ℕ) : Type 0 where
  pub within : v ≤ m
  pub count : j ≡ rank m marks v
  pub row : RowShown m at s v marks h ds before after

module _ {m at s : ℕ} {marks : List ℕ} {h ds before : List ℤ} where
  module _ (can : CanShow m at s marks h ds before) {after : List ℤ} {j v : ℕ} (r : Showing m at s marks h ds before after j v) (l : v < m) where
    pub show_room : (get_or marks v 0 ≡ 0 → ⊥) → at + j < length after
    show_room f = omega (arith, r.count, r.row.long, can.room, (ranked (present m marks) m v l (present_yes m marks v l f)).within)

    pub show_next : (y : ℤ) → (get_or marks v 0 ≡ 0 → ⊥) → y ≡ shifted_back h s v (get_or ds v (pos 0)) → Showing m at s marks h ds before (set after (at + j) y) (j + 1) (v + 1)
    show_next y f e = record {
      within = omega arith;
      count = omega (arith, r.count, count_yes m marks v l f);
      row = record {
        long = length-set after (at + j) y ∙ r.row.long;
        each = λ x k q. go x k q (ℕ_discrete x v);
        ahead = λ x k. get_or-set_other after (at + j) x y (pos 0) (λ q. omega arith) ∙ r.row.ahead x k;
        past = λ x k. get_or-set_other after (at + j) x y (pos 0) (λ q. omega (arith, r.count, count_yes m marks v l f)) ∙ r.row.past x (omega (arith, count_yes m marks v l f));
      };
    }
      where
        go : (x : ℕ) → x < v + 1 → present m marks x ≡ true → Dec (x ≡ v) → get_or (set after (at + j) y) (at + rank m marks x) (pos 0) ≡ shifted_back h s x (get_or ds x (pos 0))
        go x k q (yes z) =
            let w : at + rank m marks v ≡ at + j = omega (arith, r.count) in
            subst (λ (i : ℕ). get_or (set after (at + j) y) (at + rank m marks i) (pos 0) ≡ shifted_back h s i (get_or ds i (pos 0))) (sym z)
            (ap (λ (i : ℕ). get_or (set after (at + j) y) i (pos 0)) w ∙ (get_or-set_same after (at + j) y (pos 0) (show_room f) ∙ e))
        go x k q (no z) =
            get_or-set_other after (at + j) (at + rank m marks x) y (pos 0) (λ i. omega (arith, r.count, (ranked (present m marks) v x (omega (arith, z)) q).within))
            ∙ r.row.each x (omega (arith, z)) q

    pub show_skip : get_or marks v 0 ≡ 0 → Showing m at s marks h ds before after j (v + 1)
    show_skip e = record {
      within = omega arith;
      count = r.count ∙ sym (count_no m marks v l e);
      row = record {
        long = r.row.long;
        each = λ x k q. go x k q (ℕ_discrete x v);
        ahead = r.row.ahead;
        past = λ x k. r.row.past x (omega (arith, count_no m marks v l e));
      };
    }
      where
        go : (x : ℕ) → x < v + 1 → present m marks x ≡ true → Dec (x ≡ v) → get_or after (at + rank m marks x) (pos 0) ≡ shifted_back h s x (get_or ds x (pos 0))
        go x k q (yes z) = absurd (clash (sym (ap (present m marks) z) ∙ q) (present_no m marks v l e))
        go x k q (no z) = r.row.each x (omega (arith, z)) q

-- ---- what is found is not far from 0
pub total_moderate : {m : ℕ} {nb : Lists ℤ} → Even m nb → (s v : ℕ) (d : ℤ) → s < m → Total (RowArc m nb) s v d → Moderate d
total_moderate {m} {nb} w s v d l (inl q) t =
    let k = least_within all (2 ^ 42) (λ x y c a. inside y (w.rows.inside x y c a)) (inside s l) costs (λ x a z r o. walk_up w.up o) q in
    let n : k.0 ≤ 1024 = omega (arith, k.1, count_most (λ (i : ℕ). true) m, w.rows.bounded) in
    let h : k.0 * 2 ^ 42 ≤ 1024 * 2 ^ 42 = mul-le-mul_right (2 ^ 42) n in
    let z : Within (k.0 * 2 ^ 42) d = k.2 in
    omega arith
  where
    all : List ℕ
    all = rising (λ (i : ℕ). true) m

    inside : (y : ℕ) → y < m → In y all
    inside y h = rising_in (λ (i : ℕ). true) m y h refl

    costs : Costs (2 ^ 42) (RowArc m nb)
    costs x y c a = let p : pos 0 ≤ℤ c = w.up x y c a in omega (arith, zed, w.cheap x y c a)
total_moderate w s v d l (inr q) t = let e : d ≡ none_i64 = q.0 in absurd (omega (arith, zed))

pub found : {m s : ℕ} {nb : Lists ℤ} {before after : List ℤ} {number : ℕ} → Even m nb → ToAll (RowArc m nb) m s before after number → Found m s nb after
found w (done e n d) v h = d.each v (pos 0) h
found w (bad e b) v h =
    let p : pos 0 ≤ℤ b.c = w.up b.u b.v b.c b.arc_is in
    let q : b.c <ℤ pos 0 = b.below in
    absurd (omega (arith, zed))

-- ---- all rows
module _ {m p : ℕ} {marks : List ℕ} {nb : Lists ℤ} {h matrix : List ℤ} (can : CanFill m p marks nb h matrix) where
  few : p ≤ 1024
  few = omega (arith, can.width, count_most (present m marks) m, can.even.rows.bounded)

  module _ {u i : ℕ} (l : u < m) (is : i ≡ rank m marks u) where
    pub row_small : i + 1 ≤ 1024 + 1
    row_small = omega (arith, is, count_most (present m marks) u, can.even.rows.bounded)

    module _ (f : get_or marks u 0 ≡ 0 → ⊥) where
      below : i < p
      below = omega (arith, is, can.width, (ranked (present m marks) m u l (present_yes m marks u l f)).within)

      pub place_small : i * p ≤ 1048576
      place_small = omega (arith, row_in p i below, square_small p few)

      pub can_show : {ds : List ℤ} → Found m u nb ds → m ≤ length ds → CanShow m (i * p) u marks h ds matrix
      can_show {ds} found long = record {
        bounded = can.even.rows.bounded;
        marked = can.marked;
        source = l;
        long = can.long;
        long_d = long;
        small = place_small;
        room = omega (arith, row_in p i below, can.room, can.width);
        deep = can.deep;
        moderate = λ v k. total_moderate can.even u v (get_or ds v (pos 0)) l (found v k);
      }

      pub row_made : {ds matrix' : List ℤ} → Found m u nb ds → RowShown m (i * p) u m marks h ds matrix matrix' → RowMade m p u marks nb h matrix matrix'
      row_made {ds} {matrix'} found r before w = record {
        long = r.long ∙ w.long;
        each = λ x v k b q e. go x v k b q e (ℕ_discrete x u);
        rest = λ x k. r.past x (omega (arith, row_in p i below, can.width)) ∙ w.rest x k;
      }
        where
          go : (x v : ℕ) → x < u + 1 → v < m → present m marks x ≡ true → present m marks v ≡ true → Dec (x ≡ u) → EntryShown m nb h x v (get_or matrix' (rank m marks x * p + rank m marks v) (pos 0))
          go x v k b q e (yes z) =
              subst (λ (y : ℕ). EntryShown m nb h y v (get_or matrix' (rank m marks y * p + rank m marks v) (pos 0))) (sym z)
              (subst (λ (y : ℕ). EntryShown m nb h u v (get_or matrix' (y * p + rank m marks v) (pos 0))) is (record { found = get_or ds v (pos 0); total = found v b; is = r.each v b e }))
          go x v k b q e (no z) =
              let a : rank m marks v < p = omega (arith, can.width, (ranked (present m marks) m v b e).within) in
              let c : rank m marks x < i = omega (arith, is, (ranked (present m marks) u x (omega (arith, z)) q).within) in
              subst (EntryShown m nb h x v) (sym (r.ahead (rank m marks x * p + rank m marks v) (row_before p (rank m marks x) i (rank m marks v) c a))) (w.each x v (omega (arith, z)) b q e)

      pub row_counted : i + 1 ≡ rank m marks (u + 1)
      row_counted = omega (arith, is, count_yes m marks u l f)

    -- an absent index has no row
    module _ (e : get_or marks u 0 ≡ 0) where
      pub row_skipped : RowMade m p u marks nb h matrix matrix
      row_skipped before w = record { long = w.long; each = λ x v k b q t. go x v k b q t (ℕ_discrete x u); rest = w.rest }
        where
          go : (x v : ℕ) → x < u + 1 → v < m → present m marks x ≡ true → present m marks v ≡ true → Dec (x ≡ u) → EntryShown m nb h x v (get_or matrix (rank m marks x * p + rank m marks v) (pos 0))
          go x v k b q t (yes z) = absurd (clash (sym (ap (present m marks) z) ∙ q) (present_no m marks u l e))
          go x v k b q t (no z) = w.each x v (omega (arith, z)) b q t

      pub row_not_counted : i ≡ rank m marks (u + 1)
      row_not_counted = is ∙ sym (count_no m marks u l e)

-- while the rows are made: u indices are passed, i of them present
pub record Filling (m p : ℕ) (marks : List ℕ) (nb : Lists ℤ) (h before after : List ℤ) (M M' : Memory ℤ) (i u : ℕ) : Type 0 where
  pub within : u ≤ m
  pub count : i ≡ rank m marks u
  pub filled : Filled m p u marks nb h before after
  pub kept : KeptMemory m M M'

module _ {m p : ℕ} {marks : List ℕ} {nb : Lists ℤ} {h before : List ℤ} (can : CanFill m p marks nb h before) where
  -- the rows may go on
  pub can_next : {after : List ℤ} → length after ≡ length before → CanFill m p marks nb h after
  can_next e = record { width = can.width; marked = can.marked; even = can.even; long = can.long; deep = can.deep; room = omega (arith, can.room) }
