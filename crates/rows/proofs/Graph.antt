-- The arcs of the neighbour list are those of the links it was made of, and it fits a search.
-- Assumes nothing.
use mathlib.Core.Path.{◌≡◌, refl, sym, ap, ◌∙◌, subst}
use mathlib.Core.Bool.{Bool}
use mathlib.Core.List.{List, map}
use Prim.Native.Nat.{ℕ, suc, ◌+◌, ◌-◌, ◌≤◌, ◌<◌}
use native.Mathlib.Numerals.{add-one}
use native.Mathlib.Omega.{arith}
use lib.ListN.{length, get_or, take, drop, get_or-map}
use lib.Seq.{get_or-take, get_or-drop}
use Rattle.table.specs.Links.{Link, link_of, row, starts, arcs, Arc}
use Rattle.clean.proofs.Filled.{no_default}
use Rattle.rows.specs.Rows.{Lists, EnoughFor, Rows}
use Rattle.rows.specs.RowArc.{RowArc, Sound}
use Rattle.rows.proofs.Segments.{starts_le}
use Rattle.rows.proofs.Members.{arc_row}

-- what a list holds at a place of a row
read : {X C : Type 0} (f : Link C → X) (A : List (Link C)) (u j : ℕ) (l : List X) (o : Link C) → j < length (row u A) → take (starts A (suc u) - starts A u) (drop (starts A u) l) ≡ map f (row u A)
    → get_or l (starts A u + j) (f o) ≡ f (get_or (row u A) j o)
read f A u j l o h e =
    sym (get_or-drop (starts A u) l j (f o))
    ∙ (sym (get_or-take (starts A (suc u) - starts A u) (drop (starts A u) l) j (f o) (omega arith))
    ∙ (ap (λ x. get_or x j (f o)) e ∙ get_or-map f (row u A) j o))

-- the place of u's row that was read is an arc
pub here : {C : Type 0} (m : ℕ) (nb : Lists C) (u at : ℕ) (o : C) → u < m → get_or nb.offsets u 0 ≤ at → at < get_or nb.offsets (u + 1) 0 → at < length nb.weights
    → RowArc m nb u (get_or nb.heads at 0) (get_or nb.weights at o)
here m nb u at o h p q l = record { at = at; index = h; from = p; to = q; head = refl; cost = λ x. no_default nb.weights at x o l }

module _ {C : Type 0} {m : ℕ} {s₀ nb : Lists C} where
  module _ {A : List (Link C)} (r : Rows A m s₀ nb) where
    head_at : (u j : ℕ) (o : C) → u < m → j < length (row u A) → get_or nb.heads (starts A u + j) 0 ≡ (get_or (row u A) j (link_of 0 0 o)).b
    head_at u j o h k = read (λ (x : Link C). x.b) A u j nb.heads (link_of 0 0 o) k (r.heads u h)

    cost_at : (u j : ℕ) (o : C) → u < m → j < length (row u A) → get_or nb.weights (starts A u + j) o ≡ (get_or (row u A) j (link_of 0 0 o)).cost
    cost_at u j o h k = read (λ (x : Link C). x.cost) A u j nb.weights (link_of 0 0 o) k (r.weights u h)

    start_next : (u : ℕ) → starts A (u + 1) ≡ starts A u + length (row u A)
    start_next u = ap (starts A) (add-one u)

    -- a row starts no later than the next
    pub rising : (u : ℕ) → u < m → get_or nb.offsets u 0 ≤ get_or nb.offsets (u + 1) 0
    rising u h = omega (arith, r.start u (omega arith), r.start (u + 1) (omega arith), start_next u)

    -- a row lies in the lists
    pub rows_inside : EnoughFor A m s₀ → (u : ℕ) → u < m → (get_or nb.offsets (u + 1) 0 ≤ length nb.heads) × (get_or nb.offsets (u + 1) 0 ≤ length nb.weights)
    rows_inside w u h =
        let k = r.start (u + 1) (omega arith) in
        (omega (arith, k, starts_le A (u + 1), w.heads, r.long_h), omega (arith, k, starts_le A (u + 1), w.weights, r.long_w))

  module _ (d : Bool) (ls : List (Link C)) (r : Rows (arcs d ls) m s₀ nb) where
    abbrev A : List (Link C)
    A = arcs d ls

    pub arc_of : (u v : ℕ) (c : C) → RowArc m nb u v c → Arc d ls u v c
    arc_of u v c a =
        let lo : starts A u ≤ a.at = subst (λ (x : ℕ). x ≤ a.at) (r.start u (omega (arith, a.index))) a.from in
        let hi : a.at < starts A (u + 1) = subst (λ (x : ℕ). a.at < x) (r.start (u + 1) (omega (arith, a.index))) a.to in
        let j : ℕ = a.at - starts A u in
        let e : starts A u + j ≡ a.at = omega arith in
        let k : j < length (row u A) = omega (arith, start_next r u) in
        (arc_row d ls u v c).1 (record {
          at = j;
          within = k;
          head = λ o. ap (λ (x : Link C). x.b) (no_default (row u A) j o (link_of 0 0 c) k) ∙ (sym (head_at r u j c a.index k) ∙ (ap (λ (i : ℕ). get_or nb.heads i 0) e ∙ a.head));
          cost = λ o. ap (λ (x : Link C). x.cost) (no_default (row u A) j o (link_of 0 0 c) k) ∙ (sym (cost_at r u j c a.index k) ∙ (ap (λ (i : ℕ). get_or nb.weights i c) e ∙ a.cost c));
        })

    pub row_of : (u v : ℕ) (c : C) → u < m → Arc d ls u v c → RowArc m nb u v c
    row_of u v c h w =
        let i = (arc_row d ls u v c).0 w in
        record {
          at = starts A u + i.at;
          index = h;
          from = subst (λ (x : ℕ). x ≤ starts A u + i.at) (sym (r.start u (omega arith))) (omega arith);
          to = subst (λ (x : ℕ). starts A u + i.at < x) (sym (r.start (u + 1) (omega arith))) (omega (arith, start_next r u, i.within));
          head = head_at r u i.at c h i.within ∙ i.head (link_of 0 0 c);
          cost = λ o. cost_at r u i.at o h i.within ∙ i.cost (link_of 0 0 o);
        }

    -- a list whose arcs lead to indices fits a search
    pub sound : m ≤ 1024 → EnoughFor A m s₀ → ((u v : ℕ) (c : C) → Arc d ls u v c → v < m) → Sound m nb
    sound h w f = record {
      bounded = h;
      starts = omega (arith, w.offsets, r.long_o);
      heads = λ u q. (rows_inside r w u q).0;
      weights = λ u q. (rows_inside r w u q).1;
      inside = λ u v c a. f u v c (arc_of u v c a);
    }
