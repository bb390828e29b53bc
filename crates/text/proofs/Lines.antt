-- A loop that prints: after i turns the text of i turns stands there, no turn over `most` bytes. Once for any such text; then the two that are printed,
-- a line for each index that the map has, and the entries of a row.
-- Assumes nothing.
use mathlib.Core.Path.{◌≡◌, refl, sym, ap, ◌∙◌}
use mathlib.Core.Bool.{Bool, true, false, cond}
use mathlib.Core.List.{List, [], ◌∷◌, ◌++◌, map, append-nil, append_assoc}
use Prim.Native.Nat.{ℕ, zero, suc, ◌+◌, ◌*◌, ◌≤◌, ◌<◌}
use native.Mathlib.Nat.{mul-le-mul_right}
use native.Mathlib.Numerals.{add-one}
use native.Mathlib.Omega.{arith}
use lib.ListN.{length, get_or, take, length-append}
use Rattle.lines.specs.Text.{Printed}
use Rattle.lines.proofs.Places.{no_byte, printed_more, printed_length}
use Rattle.text.specs.Text.{field, with_fields, entries, each_index}

-- what holds before each turn
pub record Listing (text : ℕ → List ℕ) (most : ℕ) (out₀ : List ℕ) (at m : ℕ) (out : List ℕ) (next i : ℕ) : Type 0 where
  pub within : i ≤ m
  pub fits : at + m * most ≤ length out₀
  pub printed : Printed out₀ at (text i) out next
  pub even : length out ≡ length out₀
  pub small : length (text i) ≤ i * most

-- before the first turn
pub listing_start : (text : ℕ → List ℕ) {most : ℕ} {out₀ : List ℕ} {at m : ℕ} → text 0 ≡ [] → at + m * most ≤ length out₀ → Listing text most out₀ at m out₀ at 0
listing_start text {most} {out₀} {at} {m} e h = record { within = omega arith; fits = h; printed = rw e (no_byte out₀ at (omega arith)); even = refl; small = rw e (omega arith) }

module _ {text : ℕ → List ℕ} {most : ℕ} {out₀ : List ℕ} {at m : ℕ} {out : List ℕ} {next i : ℕ} (l : Listing text most out₀ at m out next i) where
  -- there is room for a turn more
  pub listing_room : i < m → next + most ≤ length out
  listing_room h = omega (arith, l.fits, l.printed.ends, l.even, l.small, mul-le-mul_right most h)

  -- a turn that prints nothing
  pub listing_skip : i < m → text (i + 1) ≡ text i → Listing text most out₀ at m out next (i + 1)
  listing_skip h e = record { within = omega arith; fits = l.fits; printed = rw e l.printed; even = l.even; small = omega (arith, ap length e, l.small) }

  -- a turn that prints t
  pub listing_more : {t two : List ℕ} {r : ℕ} → i < m → text (i + 1) ≡ text i ++ t → Printed out next t two r → r ≤ next + most → Listing text most out₀ at m two r (i + 1)
  listing_more {t} {two} {r} h e q n =
      let room = listing_room h in
      record {
        within = omega arith;
        fits = l.fits;
        printed = rw e (printed_more out₀ at (text i) (omega (arith, room, l.printed.ends, l.even, q.ends, n)) t out two next r l.printed q);
        even = printed_length out next t two r (omega (arith, room, q.ends, n)) q ∙ l.even;
        small = omega (arith, ap length e, length-append (text i) t, l.small, q.ends, n);
      }

-- a line for each index that the map has
module _ (has : ℕ → Bool) (f : ℕ → List ℕ) (i : ℕ) where
  pub each_yes : has i ≡ true → each_index has f (i + 1) ≡ each_index has f i ++ f i
  each_yes e = ap (each_index has f) (add-one i) ∙ ap (λ (b : Bool). each_index has f i ++ cond b (f i) []) e

  pub each_no : has i ≡ false → each_index has f (i + 1) ≡ each_index has f i
  each_no e = ap (each_index has f) (add-one i) ∙ (ap (λ (b : Bool). each_index has f i ++ cond b (f i) []) e ∙ append-nil (each_index has f i))

-- fields after a text stand after it
pub fields_after : (t u : List ℕ) (fs : List (List ℕ)) → with_fields (t ++ u) fs ≡ t ++ with_fields u fs
fields_after t u [] = refl
fields_after t u (f ∷ fs) = ap (λ (x : List ℕ). with_fields x fs) (append_assoc t u (field f)) ∙ fields_after t (u ++ field f) fs

module _ {A : Type 0} (show : A → List ℕ) where
  last_field : (t : List ℕ) (k : ℕ) (l : List A) (d : A) → k < length l → with_fields t (map show (take (suc k) l)) ≡ with_fields t (map show (take k l)) ++ field (show (get_or l k d))
  last_field t zero [] d h = absurd (omega arith)
  last_field t zero (x ∷ l) d h = refl
  last_field t (suc k) [] d h = absurd (omega arith)
  last_field t (suc k) (x ∷ l) d h = last_field (t ++ field (show x)) k l d (omega arith)

  -- one entry more
  pub entry_more : (l : List A) (k : ℕ) (d : A) → k < length l → with_fields [] (map show (take (k + 1) l)) ≡ with_fields [] (map show (take k l)) ++ field (show (get_or l k d))
  entry_more l k d h = ap (λ (n : ℕ). with_fields [] (map show (take n l))) (add-one k) ∙ last_field [] k l d h

-- a line from its first text and its further fields, each printed by itself
pub fields_split : (t : List ℕ) (fs : List (List ℕ)) → with_fields t fs ≡ t ++ with_fields [] fs
fields_split t fs = ap (λ (x : List ℕ). with_fields x fs) (sym (append-nil t)) ∙ fields_after t [] fs

-- n fields of at most w bytes each
pub entries_width : {A : Type 0} (show : A → List ℕ) (w : ℕ) → ((x : A) → length (show x) ≤ w) → (n : ℕ) (l : List A) → length (entries show n l) ≤ n * (w + 1)
entries_width {A} show w h n l = omega (arith, go [] n l)
  where
    go : (t : List ℕ) (n : ℕ) (l : List A) → length (with_fields t (map show (take n l))) ≤ length t + n * (w + 1)
    go t zero l = omega arith
    go t (suc n) [] = omega arith
    go t (suc n) (x ∷ l) = omega (arith, go (t ++ field (show x)) n l, length-append t (field (show x)), h x)
