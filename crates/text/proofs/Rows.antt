-- The loop that prints the rows of a matrix: it has printed those of the indices below i, and the rows of the others are the rest.
-- Assumes nothing.
use mathlib.Core.Path.{◌≡◌, sym, ap, ◌∙◌}
use mathlib.Core.Bool.{Bool, true, false}
use mathlib.Core.List.{List, [], ◌∷◌, ◌++◌, map}
use Prim.Native.Nat.{ℕ, ◌+◌, ◌*◌, ◌≤◌, ◌<◌}
use native.Mathlib.Nat.{mul-le-mul_right}
use native.Mathlib.Numerals.{add-one}
use native.Mathlib.Omega.{arith}
use lib.ListN.{length, take, drop, length-append, length-drop}
use lib.Seq.{drop-drop}
use Rattle.net.proofs.Nodes.{count_absent, count_present_lem, ranked}
use Rattle.lines.specs.Text.{Printed, decimal_text, newline_text, row_text}
use Rattle.lines.proofs.Digits.{decimal_text_length}
use Rattle.text.specs.Text.{field, with_fields, each_index, line, width, row_line}
use Rattle.text.proofs.Lines.{Listing, listing_skip, listing_more, each_yes, each_no, fields_split, entries_width}

module _ {A : Type 0} (show : A → List ℕ) (w : ℕ) (has : ℕ → Bool) (m : ℕ) (matrix : List A) where
  -- the line of an index, and how long it can be
  abbrev pub row_at : ℕ → List ℕ
  row_at i = row_line show (width has m) matrix (width has i) i

  abbrev pub most_row : ℕ
  most_row = width has m * (w + 1) + 25

  -- it is no longer, where no entry takes more than w bytes
  pub row_width : (slim : (x : A) → length (show x) ≤ w) (i : ℕ) → length (row_at i) ≤ most_row
  row_width slim i =
      let l = drop (width has i * width has m) matrix in
      let t = row_text ++ field (decimal_text i) in
      let fs = map show (take (width has m) l) in
      omega (
        arith,
        length-append (with_fields t fs) newline_text,
        ap length (fields_split t fs),
        length-append t (with_fields [] fs),
        length-append row_text (field (decimal_text i)),
        decimal_text_length i,
        entries_width show w slim (width has m) l,
      )

  -- what holds before each turn
  pub record Rowing (out₀ : List ℕ) (at : ℕ) (out : List ℕ) (next : ℕ) (rest : List A) (i : ℕ) : Type 0 where
    pub listing : Listing (each_index has row_at) most_row out₀ at m out next i
    pub left : rest ≡ drop (width has i * width has m) matrix

  module _ {out₀ : List ℕ} {at : ℕ} {out : List ℕ} {next : ℕ} {rest : List A} {i : ℕ} (q : Rowing out₀ at out next rest i) (h : i < m) where
    -- an index that the map has not
    pub rowing_skip : has i ≡ false → Rowing out₀ at out next rest (i + 1)
    rowing_skip e =
        record {
          listing = listing_skip q.listing h (each_no has row_at i e);
          left = q.left ∙ ap (λ (k : ℕ). drop (k * width has m) matrix) (sym (ap (width has) (add-one i) ∙ count_absent has i e));
        }

    -- the row of one that it has is left
    pub rowing_room : {p : ℕ} → p ≡ width has m → has i ≡ true → width has m * width has m ≤ length matrix → p ≤ length rest
    rowing_room {p} e y f =
        let b : width has i < width has m = (ranked has m i h y).within in
        rw (e, q.left) (omega (arith, length-drop (width has i * width has m) matrix, mul-le-mul_right (width has m) b, f))

    -- and is printed
    pub rowing_more : {p : ℕ} {row after : List A} {two : List ℕ} {x : ℕ} → p ≡ width has m → has i ≡ true → row ≡ take p rest → after ≡ drop p rest
        → Printed out next (line row_text (decimal_text i ∷ map show row)) two x → x ≤ next + (p * (w + 1) + 25) → Rowing out₀ at two x after (i + 1)
    rowing_more {p} {row} {after} {two} {x} e y r s o n =
        record {
          listing = listing_more q.listing h (each_yes has row_at i y) (rw (r, e, q.left) at o) (rw e at n);
          left =
              let k : width has i * width has m + width has m ≡ (width has i + 1) * width has m = omega arith in
              rw (s, e, q.left) (drop-drop (width has m) (width has i * width has m) matrix
              ∙ ap (λ (j : ℕ). drop j matrix) k
              ∙ ap (λ (j : ℕ). drop (j * width has m) matrix) (sym (ap (width has) (add-one i) ∙ count_present_lem has i y)));
        }
