-- A row, arc by arc: one arc is `look_at` of the pending bag, and a row looked through is one turn.
-- The test of the code is the bag's, so what one arc leaves in the lists is what `look_at` makes of what they said before; a better total has no
-- greater key than a pending one, so it may be pushed. The arcs looked at so far, in the order of the list, come to the turn that has no order (pending, Row).
-- Assumes nothing.
use mathlib.Core.Path.{◌≡◌, refl, sym, ap, ◌∙◌, subst}
use mathlib.Core.Bool.{Bool, true, false, not, ◌&&◌, true≢false}
use mathlib.Core.Logic.{inl, inr}
use mathlib.Core.Option.{Option, some}
use Prim.Native.Nat.{ℕ, ◌+◌, ◌≤◌, ◌<◌}
use native.Mathlib.Omega.{arith}
use native.Mathlib.Decide.{ℕ_discrete}
use lib.ListN.{length, get_or, set}
use Rattle.clean.proofs.Filled.{no_default}
use Rattle.rows.specs.Rows.{Lists}
use Rattle.rows.specs.RowArc.{RowArc}
use Rattle.bag.specs.Content.{content_of}
use Rattle.bag.specs.Bag.{Bag, NotAbove}
use Rattle.pending.specs.Literal.{better}
use Rattle.pending.specs.OnePlace.{Cell, out, has, dist_of, NewCell, stays, Turned}
use Rattle.pending.specs.Laws.{OkCell}
use Rattle.pending.proofs.Row.{Also, look_at, look_turned, new_map, look_cut, look_worse, look_store}
use Rattle.pending.proofs.One.{cell_ok}
use Rattle.turns.specs.Kind.{Kind, turn_of}
use Rattle.turns.specs.Asks.{Asks, InRange, RowInRange}
use Rattle.turns.specs.Memory.{Memory, cells_of, Good}
use Rattle.turns.specs.Row.{better_at, worth, Safe, Looked, past, kept, stored, Passed, Row, Opens, BadArc, RowDone}
use Rattle.turns.proofs.Lawful.{Lawful}
use Rattle.turns.proofs.Cells.{cells_dist, entry_is, pred_back, stored_cells, stored_good}

-- ---- one arc as the code looks at it
not_and : (a b : Bool) → (not a && b) ≡ true → (a ≡ false) × (b ≡ true)
not_and false true z = (refl, refl)
not_and false false z = absurd (true≢false (sym z))
not_and true b z = absurd (true≢false (sym z))

module _ {K C : Type 0} {Y : Kind K C} {u : ℕ} {d : K} {v : ℕ} {c : C} {n : ℕ} {M : Memory K} {said : Bool} (test : said ≡ worth Y (Y.plus d c) (get_or M.dist v Y.blank)) where
  -- no: nothing is stored
  pub arc_left : said ≡ false → Looked Y u d v c n M M n
  arc_left f = go (Y.cut (Y.plus d c)) (better_at Y (Y.plus d c) (get_or M.dist v Y.blank)) refl refl (sym test ∙ f)
    where
      go : (a b : Bool) → Y.cut (Y.plus d c) ≡ a → better_at Y (Y.plus d c) (get_or M.dist v Y.blank) ≡ b → (not a && b) ≡ false → Looked Y u d v c n M M n
      go true b p q z = past p refl refl
      go false false p q z = kept p q refl refl
      go false true p q z = absurd (true≢false z)

  -- yes: the sum x and the key k that the code made are stored
  module _ (f : said ≡ true) {x k : K} (sum : x ≡ Y.plus d c) (key : k ≡ Y.key (Y.plus d c) v) where
    -- the key may be pushed
    pub arc_lower : Safe Y u d v c n M → NotAbove Y.order (content_of M.words M.keys) v k
    arc_lower s = subst (NotAbove Y.order (content_of M.words M.keys) v) (sym key) (s.lower (not_and (Y.cut (Y.plus d c)) _ (sym test ∙ f)).1)

    pub arc_stored : {M' : Memory K} {n' : ℕ} → M'.dist ≡ set M.dist v x → M'.preds ≡ set M.preds v u
        → Bag Y.order M'.peaks M'.words M'.keys n' × (content_of M'.words M'.keys ≡ set (content_of M.words M.keys) v (some k)) → Looked Y u d v c n M M' n'
    arc_stored dist preds bag =
        let b = not_and (Y.cut (Y.plus d c)) (better_at Y (Y.plus d c) (get_or M.dist v Y.blank)) (sym test ∙ f) in
        stored b.0 b.1 (dist ∙ ap (set M.dist v) sum) preds bag.0 (bag.1 ∙ ap (λ (z : K). set (content_of M.words M.keys) v (some z)) key)

module _ {K C : Type 0} {Y : Kind K C} {ok : K → Type 0} (W : Lawful Y ok) where
  -- the test of the code is the pending bag's
  pub better_is : (n : K) (M : Memory K) (v : ℕ) → better_at Y n (get_or M.dist v Y.blank) ≡ better (turn_of Y) n (dist_of (cells_of Y M v))
  better_is n M v = ap (better (turn_of Y) n) (sym (cells_dist Y M.dist M.preds (content_of M.words M.keys) v))

  -- every cell is good for the laws
  all_ok : {m : ℕ} {M : Memory K} {n : ℕ} → Good Y m M n → (v : ℕ) → OkCell ok (cells_of Y M v)
  all_ok {M = M} g v = go (cells_of Y M v) (g.oks v)
    where
      go : (c : Cell K) → OkCell Y.good c → OkCell ok c
      go out x = tt
      go (has d p b) x = W.good_ok d x

  -- ---- one arc
  module _ {m : ℕ} {M : Memory K} {n : ℕ} (g : Good Y m M n) (u : ℕ) (d : K) (v : ℕ) (c : C) (fine : Y.good d) (cost : Y.bad c ≡ false) where
    -- a total that is better has no greater key than the pending one
    pub not_above_lem : better_at Y (Y.plus d c) (get_or M.dist v Y.blank) ≡ true → NotAbove Y.order (content_of M.words M.keys) v (Y.key (Y.plus d c) v)
    not_above_lem b = record { lower = λ j e. at j (g.holds.held v j e) }
      where
        at : (j : K) → (x : K) × (p : Option ℕ) × (cells_of Y M v ≡ has x p true) × (j ≡ Y.key x v) → Y.order.lt j (Y.key (Y.plus d c) v) ≡ false
        at j w =
            let less : Y.order.lt (Y.plus d c) w.0 ≡ true = ap (λ (z : Cell K). better (turn_of Y) (Y.plus d c) (dist_of z)) (sym w.2) ∙ sym (better_is (Y.plus d c) M v) ∙ b in
            ap (λ (z : K). Y.order.lt z (Y.key (Y.plus d c) v)) w.3 ∙ W.lower (Y.plus d c) w.0 v (W.good_plus d c fine cost) (cell_ok Y.good w.2 (g.oks v)) less

    -- an arc looked at
    pub looked : v < m → u < 1024 → {M' : Memory K} {n' : ℕ} → Looked Y u d v c n M M' n' → length M'.words ≡ m → Good Y m M' n' × (cells_of Y M' ≡ look_at (turn_of Y) u d v c (cells_of Y M))
    looked inside few {M'} {n'} (past k e f) long = (
      subst (λ (z : Memory K). Good Y m z n') (sym f) (subst (λ (k : ℕ). Good Y m M k) (sym e) g),
      ap (cells_of Y) f ∙ sym (look_cut (turn_of Y) u d v c (cells_of Y M) k),
    )
    looked inside few {M'} {n'} (kept k b e f) long = (
      subst (λ (z : Memory K). Good Y m z n') (sym f) (subst (λ (k : ℕ). Good Y m M k) (sym e) g),
      ap (cells_of Y) f ∙ sym (look_worse (turn_of Y) u d v c (cells_of Y M) k (sym (better_is (Y.plus d c) M v) ∙ b)),
    )
    looked inside few {M'} {n'} (stored k b dd pp bb cc) long =
        let x = W.good_plus d c fine cost in (
          stored_good W g v inside (Y.plus d c) x (some u) (pred_back u (omega arith)) dd pp bb cc long,
          stored_cells W g v inside (Y.plus d c) x (some u) (pred_back u (omega arith)) dd pp bb cc long ∙ sym (look_store (turn_of Y) u d v c (cells_of Y M) k (sym (better_is (Y.plus d c) M v) ∙ b)),
        )

  -- ---- a row
  module _ {m : ℕ} {nb : Lists C} {u : ℕ} where
    -- nothing of it yet
    pub row_first : {n : ℕ} {M : Memory K} {d : K} → Good Y m M n → Row Y m nb u d (get_or nb.offsets u 0) n M M
    row_first g = record {
      good = g;
      turned = λ v. stays (λ c a. absurd (omega (arith, a.from, a.below))) refl;
      fine = λ v c a. absurd (omega (arith, a.from, a.below));
      from = omega arith;
    }

    -- u was taken with the distance d, which the code read
    module _ {k : ℕ} {M₀ : Memory K} (o : Opens Y m nb u k M₀) (x : K) {d : K} (di : d ≡ get_or M₀.dist u x) where
      -- it is u's, whatever stands for a missing one
      pub entry_read : d ≡ get_or M₀.dist u Y.blank
      entry_read = di ∙ no_default M₀.dist u x Y.blank (omega (arith, o.index, o.good.long_d))

      d_good : Y.good d
      d_good = subst Y.good (sym entry_read) o.dist

      -- the arc at place i, and what the code read of its cost
      module _ {i n : ℕ} {M : Memory K} (r : Row Y m nb u d i n M₀ M) (l : i < get_or nb.offsets (u + 1) 0) {v : ℕ} (vi : v ≡ get_or nb.heads i 0)
          (y : C) {c : C} (ci : c ≡ get_or nb.weights i y) {said : Bool} (test : said ≡ Y.bad c) where
        cost : (z : C) → get_or nb.weights i z ≡ c
        cost z = no_default nb.weights i z y (omega (arith, o.rows.weights u o.index)) ∙ sym ci

        -- it is one of the list
        pub arc_read : RowArc m nb u v c
        arc_read = record { at = i; index = o.index; from = r.from; to = l; head = sym vi; cost = cost }

        -- what an arc that is not bad asks
        pub row_safe : said ≡ false → Safe Y u d v c n M
        row_safe f = let inside : v < m = o.rows.inside u v c arc_read in let b : Y.bad c ≡ false = sym test ∙ f in record {
          tail = omega (arith, o.index, o.rows.bounded);
          in_d = omega (arith, r.good.long_d);
          in_p = omega (arith, r.good.long_p);
          in_b = omega (arith, r.good.long_b);
          dist = d_good;
          cost = b;
          entry = entry_is r.good v;
          bag = r.good.bag;
          lower = not_above_lem r.good u d v c d_good b;
        }

        -- its sum and its key are in range where those of the row are
        pub row_in_range : (A : Asks K C) → RowInRange Y A m nb u (get_or M₀.dist u Y.blank) → said ≡ false → InRange Y A d v c
        row_in_range A w f = subst (λ (z : K). InRange Y A z v c) (sym entry_read) (w v c arc_read (sym test ∙ f))

        -- one arc more
        pub row_next : said ≡ false → {M' : Memory K} {n' : ℕ} → Looked Y u d v c n M M' n' → length M'.words ≡ length M.words → Row Y m nb u d (i + 1) n' M₀ M'
        row_next f {M'} {n'} w long = record {
          good = both.0;
          turned = λ x. new_map (turn_of Y) (to x) (fro x) (subst (λ (s : ℕ → Cell K). Turned (turn_of Y) (Also (Passed nb u i) v c) u d (cells_of Y M₀) s) (sym both.1) more x);
          fine = λ x y a. by_fine x y (fro x y a);
          from = omega (arith, r.from);
        }
          where
            b : Y.bad c ≡ false
            b = sym test ∙ f

            both : Good Y m M' n' × (cells_of Y M' ≡ look_at (turn_of Y) u d v c (cells_of Y M))
            both = looked r.good u d v c d_good b (o.rows.inside u v c arc_read) (omega (arith, o.index, o.rows.bounded)) w (long ∙ r.good.long_b)

            more : Turned (turn_of Y) (Also (Passed nb u i) v c) u d (cells_of Y M₀) (look_at (turn_of Y) u d v c (cells_of Y M))
            more = look_turned (turn_of Y) W.laws u d (W.good_ok d d_good) (Passed nb u i) v c r.fine b (all_ok o.good) r.turned

            to : (x : ℕ) (y : C) → Also (Passed nb u i) v c x y → Passed nb u (i + 1) x y
            to x y (inl a) = record { at = a.at; from = a.from; to = a.to; below = omega (arith, a.below); head = a.head; cost = a.cost }
            to x y (inr e) = record { at = i; from = r.from; to = l; below = omega arith; head = sym vi ∙ sym e.0; cost = λ z. cost z ∙ sym e.1 }

            fro : (x : ℕ) (y : C) → Passed nb u (i + 1) x y → Also (Passed nb u i) v c x y
            fro x y a = go (ℕ_discrete a.at i)
              where
                go : Dec (a.at ≡ i) → Also (Passed nb u i) v c x y
                go (yes e) = inr (sym a.head ∙ ap (λ (z : ℕ). get_or nb.heads z 0) e ∙ sym vi, sym (a.cost y) ∙ ap (λ (z : ℕ). get_or nb.weights z y) e ∙ cost y)
                go (no e) = inl (record { at = a.at; from = a.from; to = a.to; below = omega (arith, a.below, e); head = a.head; cost = a.cost })

            by_fine : (x : ℕ) (y : C) → Also (Passed nb u i) v c x y → Y.bad y ≡ false
            by_fine x y (inl a) = r.fine x y a
            by_fine x y (inr e) = ap Y.bad e.1 ∙ b

        -- a bad cost
        pub row_stops : said ≡ true → BadArc Y m nb u
        row_stops f = record { v = v; c = c; arc = arc_read; bad = sym test ∙ f }

      -- all of it
      pub row_ends : {i n : ℕ} {M : Memory K} → Row Y m nb u d i n M₀ M → get_or nb.offsets (u + 1) 0 ≤ i → RowDone Y m nb u M₀ M n
      row_ends {i} {n} {M} r l = record {
        good = r.good;
        fine = λ v c a. r.fine v c (pass a);
        turned = λ v. new_map (turn_of Y) (λ c a. arc a) (λ c a. pass a) (subst (λ (z : K). NewCell (turn_of Y) (Passed nb u i v) u z (cells_of Y M₀ v) (cells_of Y M v)) entry_read (r.turned v));
      }
        where
          pass : {v : ℕ} {c : C} → RowArc m nb u v c → Passed nb u i v c
          pass a = record { at = a.at; from = a.from; to = a.to; below = omega (arith, l, a.to); head = a.head; cost = a.cost }

          arc : {v : ℕ} {c : C} → Passed nb u i v c → RowArc m nb u v c
          arc a = record { at = a.at; index = o.index; from = a.from; to = a.to; head = a.head; cost = a.cost }
