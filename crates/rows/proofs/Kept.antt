-- Slices of which only the part used changed: one change after another, by a store, by filling, by a neighbour list that was made; and wiped.
-- Assumes nothing.
use mathlib.Core.Path.{◌≡◌, refl, sym, ap, ◌∙◌}
use mathlib.Core.Bool.{true}
use mathlib.Core.List.{List}
use Prim.Native.Nat.{ℕ, ◌+◌, ◌-◌, ◌≤◌, ◌<◌}
use native.Mathlib.Omega.{arith}
use borrow.Author.Tests.{leb-true}
use lib.Dec.{leb}
use lib.ListN.{length, drop, set, length-set}
use lib.Seq.{drop-set-lt, drop-drop}
use Rattle.whole.proofs.Cases.{and_left, and_right}
use Rattle.clean.specs.Fill.{filled, Settled}
use Rattle.clean.proofs.Filled.{filled_length, filled_rest, filled_same, filled_twice}
use Rattle.table.specs.Links.{Link, starts}
use Rattle.rows.specs.Rows.{Lists, lists_of, EnoughFor, Rows}
use Rattle.rows.specs.Scratch.{has_lists, wiped}
use Rattle.rows.specs.Kept.{Kept, KeptLists, EnoughLists}
use Rattle.rows.proofs.Segments.{starts_le}

module _ {A : Type 0} where
  -- nothing changed, and one change after another
  pub kept_none : {n : ℕ} {l : List A} → Kept n l l
  kept_none = record { long = refl; rest = refl }

  pub kept_more : {n : ℕ} {a b c : List A} → Kept n a b → Kept n b c → Kept n a c
  kept_more p q = record { long = q.long ∙ p.long; rest = q.rest ∙ p.rest }

  -- with more of it in the part used
  pub kept_wider : {n m : ℕ} {a b : List A} → n ≤ m → Kept n a b → Kept m a b
  kept_wider {n} {m} {a} {b} h k =
      let e : n + (m - n) ≡ m = omega arith in
      let by : (l : List A) → drop m l ≡ drop (m - n) (drop n l) = λ l. ap (λ (i : ℕ). drop i l) (sym e) ∙ sym (drop-drop (m - n) n l) in
      record { long = k.long; rest = by b ∙ (ap (drop (m - n)) k.rest ∙ sym (by a)) }

  -- a store, and a part filled
  pub kept_set : {n : ℕ} (l : List A) (i : ℕ) (x : A) → i < n → Kept n l (set l i x)
  kept_set {n} l i x h = record { long = length-set l i x; rest = drop-set-lt n l i x h }

  pub kept_settled : {n : ℕ} {E : ℕ → A → Type 0} {a b : List A} → Settled n E a b → Kept n a b
  kept_settled s = record { long = s.long; rest = s.rest }

  pub kept_filled : {n : ℕ} (x : A) {a b : List A} → n ≤ length a → b ≡ filled n x a → Kept n a b
  kept_filled {n} x {a} h e = record { long = ap length e ∙ filled_length n x a h; rest = ap (drop n) e ∙ filled_rest n x a }

  -- filling shows nothing of what the part used held
  pub kept_same : {n : ℕ} (x : A) {a b : List A} → Kept n a b → filled n x b ≡ filled n x a
  kept_same {n} x {a} {b} k = filled_same n x b a k.rest

  -- filled, used, and filled again
  pub kept_twice : {n : ℕ} (x : A) (l : List A) {a b c : List A} → a ≡ filled n x l → Kept n a b → c ≡ filled n x b → c ≡ filled n x l
  kept_twice {n} x l {a} {b} {c} p q r = filled_twice n x l a b c p q.rest r

-- the slices of a neighbour list
module _ {C : Type 0} where
  -- what the test of the lengths says
  pub has_lists_lem : (m a : ℕ) (s : Lists C) → has_lists m a s ≡ true → EnoughLists m a s
  unfolding has_lists
  has_lists_lem m a s e =
      let f = and_right (leb (m + 1) (length s.offsets)) _ e in
      record {
        offsets = leb-true _ _ (and_left (leb (m + 1) (length s.offsets)) _ e);
        heads = leb-true _ _ (and_left (leb a (length s.heads)) _ f);
        weights = leb-true _ _ (and_right (leb a (length s.heads)) _ f);
      }

  module _ {m a : ℕ} where
    pub lists_kept : {s t : Lists C} → EnoughLists m a s → KeptLists m a s t → EnoughLists m a t
    lists_kept n k = record { offsets = rw k.offsets.long n.offsets; heads = rw k.heads.long n.heads; weights = rw k.weights.long n.weights }

    pub lists_wiped : (z : C) {s t : Lists C} → EnoughLists m a s → t ≡ wiped m a z s → KeptLists m a s t
    lists_wiped z n e = record {
      offsets = kept_filled 0 n.offsets (ap (λ (l : Lists C). l.offsets) e);
      heads = kept_filled 0 n.heads (ap (λ (l : Lists C). l.heads) e);
      weights = kept_filled z n.weights (ap (λ (l : Lists C). l.weights) e);
    }

    -- wiping shows nothing of what the parts used held
    pub wiped_rows : (z : C) {s t : Lists C} → KeptLists m a s t → wiped m a z t ≡ wiped m a z s
    wiped_rows z k = λ i. lists_of (kept_same 0 k.offsets i) (kept_same 0 k.heads i) (kept_same z k.weights i)

    -- room for arcs that are no more than a, and what making their list keeps
    module _ {A : List (Link C)} (few : length A ≤ a) where
      pub lists_for : {s : Lists C} → EnoughLists m a s → EnoughFor A m s
      lists_for n = record { offsets = omega (arith, n.offsets); heads = omega (arith, n.heads); weights = omega (arith, n.weights) }

      pub rows_kept : {s t : Lists C} → Rows A m s t → KeptLists m a s t
      rows_kept r =
          let h : starts A m ≤ a = omega (arith, starts_le A m) in
          record {
            offsets = record { long = r.long_o; rest = r.rest_o };
            heads = kept_wider h (record { long = r.long_h; rest = r.rest_h });
            weights = kept_wider h (record { long = r.long_w; rest = r.rest_w });
          }
