-- What the proofs of the shifting functions cite, and that the arcs of the shifted list are the shifted arcs.
-- Rows do not overlap, so a place belongs to one row, and the store at it is the shift by the potentials of that row's index and of the head there. The weights
-- before a place are shifted and those from it on are as they were, row after row; so in the end each arc of the list is one of the list before, with its cost
-- shifted, and each of those is there.
-- Assumes nothing.
use mathlib.Core.Path.{◌≡◌, sym, ap, ◌∙◌, subst}
use mathlib.Core.List.{List}
use Prim.Native.Nat.{ℕ, ◌+◌, ◌≤◌, ◌<◌}
use native.Mathlib.Omega.{arith}
use native.Mathlib.Decide.{ℕ_discrete, dec_lt}
use lib.IntN.{ℤ, pos}
use lib.ListN.{length, get_or, set, length-set}
use lib.Seq.{get_or-set_same, get_or-set_other}
use Rattle.whole.specs.Zed.{Cost32}
use Rattle.clean.proofs.Filled.{no_default}
use Rattle.rows.specs.Rows.{Lists, lists_of}
use Rattle.rows.specs.RowArc.{RowArc}
use Rattle.walks.specs.Shift.{Shifted}
use Rattle.johnson.specs.Rounds.{label}
use Rattle.johnson.specs.Shifting.{shifted_cost, start, Listed, ShiftedTo}

-- rows that follow one another
abbrev Rising : ℕ → Lists ℤ → Type 0
Rising m nb = (v w : ℕ) → v ≤ w → w ≤ m → start nb v ≤ start nb w

-- a place lies in one row
one_row : (m : ℕ) (nb : Lists ℤ) → Rising m nb → (u w j : ℕ) → u < m → w < m → start nb u ≤ j → j < start nb (u + 1) → start nb w ≤ j → j < start nb (w + 1) → w ≡ u
one_row m nb rising u w j a b p q r s = go (dec_lt w u) (dec_lt u w)
  where
    go : Dec (w < u) → Dec (u < w) → w ≡ u
    go (yes l) k = absurd (omega (arith, rising (w + 1) u (omega arith) (omega arith)))
    go (no f) (yes l) = absurd (omega (arith, rising (u + 1) w (omega arith) (omega arith)))
    go (no f) (no g) = omega (arith, f, g)

module _ {m : ℕ} {nb : Lists ℤ} {h : List ℤ} where
  -- one place more of the row of u
  pub shift_next : {ws : List ℤ} {i : ℕ} (u : ℕ) → Rising m nb → u < m → start nb u ≤ i → i < start nb (u + 1) → i < length ws
      → ShiftedTo m nb h ws i → ShiftedTo m nb h (set ws i (shifted_cost h u (get_or nb.heads i 0) (get_or ws i (pos 0)))) (i + 1)
  shift_next {ws} {i} u rising l from to room w = record {
    long = length-set ws i new ∙ w.long;
    each = λ x j a p q k. pick x j a p q k (ℕ_discrete j i);
    rest = λ j k. get_or-set_other ws i j new (pos 0) (λ q. omega arith) ∙ w.rest j (omega arith);
  }
    where
      new : ℤ
      new = shifted_cost h u (get_or nb.heads i 0) (get_or ws i (pos 0))

      pick : (x j : ℕ) → x < m → start nb x ≤ j → j < start nb (x + 1) → j < i + 1 → Dec (j ≡ i)
          → get_or (set ws i new) j (pos 0) ≡ shifted_cost h x (get_or nb.heads j 0) (get_or nb.weights j (pos 0))
      pick x j a p q k (yes f) =
          let g : x ≡ u = one_row m nb rising u x i l a from to (subst (λ (y : ℕ). start nb x ≤ y) f p) (subst (λ (y : ℕ). y < start nb (x + 1)) f q) in
          rw (f, g) (get_or-set_same ws i new (pos 0) room ∙ ap (shifted_cost h u (get_or nb.heads i 0)) (w.rest i (omega arith)))
      pick x j a p q k (no f) = get_or-set_other ws i j new (pos 0) f ∙ w.each x j a p q (omega (arith, f))

-- a row of the list, from its start to the place i
pub record Shifting (m u : ℕ) (os hs : List ℕ) (h ws ws' : List ℤ) (i : ℕ) : Type 0 where
  pub from : get_or os u 0 ≤ i
  pub some : i ≤ get_or os (u + 1) 0
  pub long : length ws' ≡ length ws
  pub still : (j : ℕ) → i ≤ j → get_or ws' j (pos 0) ≡ get_or ws j (pos 0)
  pub next : (ws₀ : List ℤ) → ShiftedTo m (lists_of os hs ws₀) h ws (get_or os u 0) → ShiftedTo m (lists_of os hs ws₀) h ws' i

module _ {m u : ℕ} {os hs : List ℕ} {h ws ws' : List ℤ} {i : ℕ} (l : u < m) (w : Listed m u (lists_of os hs ws) h) (q : Shifting m u os hs h ws ws' i) where
  -- what a turn of the row's loop needs
  module _ (k : i < get_or os (u + 1) 0) where
    pub row_place : i < get_or os m 0
    row_place = omega (arith, w.rising (u + 1) m (omega arith) (omega arith))

    pub row_weight : i < length ws'
    row_weight = omega (arith, q.long, w.room_w, row_place)

    pub row_head : (i < length hs) × (get_or hs i 0 < length h)
    row_head = (omega (arith, w.room_h, row_place), omega (arith, w.inside i row_place, w.long))

    pub row_small : Cost32 (get_or ws' i (pos 0))
    row_small = subst Cost32 (sym (q.still i (omega arith))) (w.small i q.from row_place)

    stored : Shifting m u os hs h ws (set ws' i (shifted_cost h u (get_or hs i 0) (get_or ws' i (pos 0)))) (i + 1)
    stored = record {
      from = omega (arith, q.from);
      some = omega arith;
      long = length-set ws' i new ∙ q.long;
      still = λ j b. get_or-set_other ws' i j new (pos 0) (λ e. omega arith) ∙ q.still j (omega arith);
      next = λ ws₀ z. shift_next {nb = lists_of os hs ws₀} {ws = ws'} u w.rising l q.from k row_weight (q.next ws₀ z);
    }
      where
        new : ℤ
        new = shifted_cost h u (get_or hs i 0) (get_or ws' i (pos 0))

    pub row_next : {ws'' : List ℤ} → ws'' ≡ set ws' i (shifted_cost h u (get_or hs i 0) (get_or ws' i (pos 0))) → Shifting m u os hs h ws ws'' (i + 1)
    row_next e = subst (λ (x : List ℤ). Shifting m u os hs h ws x (i + 1)) (sym e) stored

-- ---- the arcs of the shifted list are the shifted arcs
module _ {m : ℕ} {os hs : List ℕ} {h ws ws' : List ℤ} (w : Listed m 0 (lists_of os hs ws) h) (to : ShiftedTo m (lists_of os hs ws) h ws' (get_or os m 0)) where
  -- the place of an arc lies in the weights
  at_most : (u j : ℕ) → u < m → j < get_or os (u + 1) 0 → (j < get_or os m 0) × (j < length ws) × (j < length ws')
  at_most u j l b =
      let k : j < get_or os m 0 = omega (arith, w.rising (u + 1) m (omega arith) (omega arith)) in
      (k, omega (arith, w.room_w), omega (arith, w.room_w, to.long))

  pub row_shifted : (u v : ℕ) (c : ℤ) → RowArc m (lists_of os hs ws') u v c → Shifted (RowArc m (lists_of os hs ws)) (label h) u v c
  row_shifted u v c a =
      let k = at_most u a.at a.index a.to in
      let e = to.each u a.at a.index a.from a.to k.0 in (
        get_or ws a.at (pos 0),
        record { at = a.at; index = a.index; from = a.from; to = a.to; head = a.head; cost = λ o. no_default ws a.at o (pos 0) k.1 },
        sym (a.cost (pos 0)) ∙ (e ∙ ap (λ (x : ℕ). shifted_cost h u x (get_or ws a.at (pos 0))) a.head),
      )

  pub shifted_row : (u v : ℕ) (c : ℤ) → Shifted (RowArc m (lists_of os hs ws)) (label h) u v c → RowArc m (lists_of os hs ws') u v c
  shifted_row u v c s =
      let a = s.1 in
      let k = at_most u a.at a.index a.to in
      let e = to.each u a.at a.index a.from a.to k.0 in
      record {
        at = a.at;
        index = a.index;
        from = a.from;
        to = a.to;
        head = a.head;
        cost = λ o. no_default ws' a.at o (pos 0) k.2 ∙ (e ∙ (ap (λ (x : ℕ). shifted_cost h u x (get_or ws a.at (pos 0))) a.head ∙ (ap (shifted_cost h u v) (a.cost (pos 0)) ∙ sym s.2)));
      }
