-- How long an answer can be: a line has at most so many bytes, and there is a line for each of at most 64 indices. The longest answer is a matrix of distances.
-- Assumes nothing.
use mathlib.Core.Bool.{Bool, cond}
use mathlib.Core.List.{List, [], ◌∷◌, map}
use mathlib.Core.Path.{ap}
use Prim.Native.Nat.{ℕ, zero, suc, ◌+◌, ◌*◌, ◌≤◌}
use native.Mathlib.Omega.{arith}
use lib.IntN.{ℤ}
use lib.Signed.{lt_z}
use lib.ListN.{length, take, length-append}
use Rattle.clean.specs.None.{none_i64}
use Rattle.lines.specs.Text.{newline_text, signed_text, cost_text, path_text}
use Rattle.text.specs.Text.{index_text, each_index, line, with_fields, distance_line, distance_lines, path_lines, width, row_lines, tree_line, tree_lines}
use Rattle.text.proofs.Widths.{cond_width, index_width, distance_line_width, cost_line_width, tree_line_width}
use Rattle.text.proofs.Lines.{fields_split, entries_width}
use Rattle.text.proofs.Rows.{row_at, row_width}
use Rattle.answers.specs.Output.{most}
use Rattle.answers.proofs.Rooms.{rows_fit}

-- a line of at most w bytes for each index below k that the map has
each_width : (has : ℕ → Bool) (f : ℕ → List ℕ) (w : ℕ) → ((i : ℕ) → length (f i) ≤ w) → (k : ℕ) → length (each_index has f k) ≤ k * w
each_width has f w h zero = omega arith
each_width has f w h (suc k) =
    let t : length (cond (has k) (f k) []) ≤ w = cond_width (has k) _ _ (h k) (omega arith) in
    omega (arith, length-append (each_index has f k) (cond (has k) (f k) []), each_width has f w h k, t)

-- distances from a source
pub distances_short : (has : ℕ → Bool) (m : ℕ) (dist : List ℤ) → m ≤ 64 → length (distance_lines has m dist) ≤ most
distances_short has m dist h = omega (arith, each_width has (distance_line dist) 43 (distance_line_width dist) m)

-- f64 distances and predecessors
pub tree_short : (has : ℕ → Bool) (m : ℕ) (dist preds : List ℕ) → m ≤ 64 → length (tree_lines has m dist preds) ≤ most
tree_short has m dist preds h = omega (arith, each_width has (tree_line dist preds) 59 (tree_line_width dist preds) m)

-- the rows of a matrix, with entries of at most 21 bytes
module _ (has : ℕ → Bool) (m : ℕ) (h : m ≤ 64) where
  pub rows_short : {A : Type 0} (show : A → List ℕ) (w : ℕ) → ((x : A) → length (show x) ≤ w) → w ≤ 21 → (matrix : List A) → length (row_lines show has m matrix) ≤ most
  rows_short show w slim k matrix = omega (arith, each_width has (row_at show w has m matrix) (width has m * (w + 1) + 25) (row_width show w has m matrix slim) m, rows_fit has m h w k)

-- a path of at most 64 nodes
pub path_short : (c : ℤ) (n : ℕ) (path : List ℕ) → n ≤ 64 → length (path_lines c n path) ≤ most
path_short c n path h =
    let fs = map index_text (take n path) in
    cond_width
    (lt_z none_i64 c)
    _
    _
    (omega (
      arith,
      length-append (line cost_text (signed_text c ∷ [])) (line path_text fs),
      cost_line_width c,
      length-append (with_fields path_text fs) newline_text,
      ap length (fields_split path_text fs),
      length-append path_text (with_fields [] fs),
      entries_width index_text 20 index_width n path,
    ))
    (omega arith)
