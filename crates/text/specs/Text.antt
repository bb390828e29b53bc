-- What the program prints: lines of fields, one space between two fields, a newline after each line.
-- The answers stand here as plain data: lists of distances, of the entries of a matrix, of predecessors.
-- Assumes nothing.
use Rattle.std.specs.Prelude.{Bool, cond, List, [], ◌∷◌, ◌++◌, map, ℕ, zero, suc, ◌*◌, eqb, ℤ, pos, length, get_or, take, drop}
use Rattle.std.specs.Int.Signed.{lt_z}
use Rattle.clean.specs.None.{none_i64, none_u32, none_f64}
use Rattle.net.specs.Net.{rising}
use Rattle.lines.specs.Text.{space_text, newline_text, decimal_text, signed_text, hex_text, none_text}
use Rattle.lines.specs.Text.{refused_text, end_text, engine_text, cost_text, path_text, row_text, bad_map_text}

-- a distance, a cost or an entry of a matrix: none is the least number of 64 bits
unfoldable pub distance_text : ℤ → List ℕ
distance_text z = cond (lt_z none_i64 z) (signed_text z) none_text

-- a predecessor or a number of hops
unfoldable pub index_text : ℕ → List ℕ
index_text k = cond (eqb k none_u32) none_text (decimal_text k)

-- an f64 distance, by its pattern
unfoldable pub bits_text : ℕ → List ℕ
bits_text x = cond (eqb x none_f64) none_text (hex_text x)

-- a field after the first: a space, and what it says
abbrev pub field : List ℕ → List ℕ
field t = space_text ++ t

-- a text with further fields
abbrev pub with_fields : List ℕ → List (List ℕ) → List ℕ
with_fields t [] = t
with_fields t (f ∷ fs) = with_fields (t ++ field f) fs

-- the first n of some entries, as fields; show is how an entry is printed
abbrev pub entries : {A : Type 0} → (A → List ℕ) → ℕ → List A → List ℕ
entries show n l = with_fields [] (map show (take n l))

-- a line
abbrev pub line : List ℕ → List (List ℕ) → List ℕ
line t fs = with_fields t fs ++ newline_text

-- what f says of each index below k that the map has, in rising order
abbrev pub each_index : (ℕ → Bool) → (ℕ → List ℕ) → ℕ → List ℕ
each_index has f zero = []
each_index has f (suc k) = each_index has f k ++ cond (has k) (f k) []

-- engines 1 and 2: `index distance`
abbrev pub distance_line : List ℤ → ℕ → List ℕ
distance_line dist i = line (decimal_text i) (distance_text (get_or dist i (pos 0)) ∷ [])

-- the lines of engines 1 and 2
abbrev pub distance_lines : (ℕ → Bool) → ℕ → List ℤ → List ℕ
distance_lines has m dist = each_index has (distance_line dist) m

-- engine 3: `cost C` and `path i j ..`, the path of n nodes, or `none` without a cost
abbrev pub path_lines : ℤ → ℕ → List ℕ → List ℕ
path_lines c n path =
    cond (lt_z none_i64 c) (line cost_text (signed_text c ∷ []) ++ line path_text (map index_text (take n path))) (line none_text [])

-- engines 4 to 6: `row i` and the p entries of its row, the r-th
abbrev pub row_line : {A : Type 0} → (A → List ℕ) → ℕ → List A → ℕ → ℕ → List ℕ
row_line show p matrix r i = line row_text (decimal_text i ∷ map show (take p (drop (r * p) matrix)))

-- how many indices below k the map has
abbrev pub width : (ℕ → Bool) → ℕ → ℕ
width has k = length (rising has k)

-- the row of an index is the one at its place among the indices that the map has
abbrev pub row_lines : {A : Type 0} → (A → List ℕ) → (ℕ → Bool) → ℕ → List A → List ℕ
row_lines show has m matrix = each_index has (λ i. row_line show (width has m) matrix (width has i) i) m

-- engine 7: `index bits predecessor`
abbrev pub tree_line : List ℕ → List ℕ → ℕ → List ℕ
tree_line dist preds i = line (decimal_text i) (bits_text (get_or dist i 0) ∷ index_text (get_or preds i 0) ∷ [])

-- the lines of engine 7
abbrev pub tree_lines : (ℕ → Bool) → ℕ → List ℕ → List ℕ → List ℕ
tree_lines has m dist preds = each_index has (tree_line dist preds) m

-- an engine's refusal
abbrev pub refused_line : ℕ → List ℕ
refused_line n = line refused_text (decimal_text n ∷ [])

-- the answer of an engine: its lines after 0, else the refusal
unfoldable pub answer_text : ℕ → List ℕ → List ℕ
answer_text n answer = cond (eqb n 0) answer (refused_line n)

-- the first line of an answer
abbrev pub engine_line : ℕ → List ℕ
engine_line e = line engine_text (decimal_text e ∷ [])

-- the whole output for a sound map
abbrev pub sound_text : ℕ → List ℕ → List ℕ
sound_text engine answer = engine_line engine ++ answer ++ line end_text []

-- and for one that breaks a rule at k
abbrev pub bad_text : ℕ → List ℕ
bad_text k = line bad_map_text (decimal_text k ∷ [])
