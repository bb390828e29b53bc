-- How long the numbers of an answer can be, and the fields and lines that show them.
-- Assumes nothing.
use mathlib.Core.Bool.{Bool, true, false, cond}
use mathlib.Core.List.{List, [], ◌∷◌, ◌++◌}
use Prim.Native.Nat.{ℕ, suc, ◌≤◌}
use native.Mathlib.Omega.{arith}
use lib.Dec.{eqb}
use lib.IntN.{ℤ, pos, negsuc}
use lib.Signed.{lt_z}
use lib.ListN.{length, get_or, length-append}
use Rattle.clean.specs.None.{none_i64, none_u32, none_f64}
use Rattle.lines.specs.Text.{decimal_text, signed_text, hex_text, newline_text, cost_text}
use Rattle.lines.proofs.Digits.{decimal_text_length, hex_length}
use Rattle.text.specs.Text.{distance_text, index_text, bits_text, field, line, distance_line, tree_line}

-- one of two texts, neither longer than n
pub cond_width : (b : Bool) (x y : List ℕ) {n : ℕ} → length x ≤ n → length y ≤ n → length (cond b x y) ≤ n
cond_width true x y h k = h
cond_width false x y h k = k

pub decimal_width : (n : ℕ) → length (decimal_text n) ≤ 20
decimal_width n = decimal_text_length n

-- a signed number: a sign and at most 20 digits
pub signed_width : (z : ℤ) → length (signed_text z) ≤ 21
unfolding signed_text
signed_width (pos n) = omega (arith, decimal_text_length n)
signed_width (negsuc n) = omega (arith, decimal_text_length (suc n))

pub hex_width : (n : ℕ) → length (hex_text n) ≤ 16
unfolding hex_text
hex_width n = omega (arith, hex_length 16 n)

pub distance_width : (z : ℤ) → length (distance_text z) ≤ 21
unfolding distance_text
distance_width z = cond_width (lt_z none_i64 z) _ _ (signed_width z) (omega arith)

pub index_width : (k : ℕ) → length (index_text k) ≤ 20
unfolding index_text
index_width k = cond_width (eqb k none_u32) _ _ (omega arith) (decimal_width k)

-- a line of an index and a distance
pub distance_line_width : (dist : List ℤ) (i : ℕ) → length (distance_line dist i) ≤ 43
distance_line_width dist i =
    let t = field (distance_text (get_or dist i (pos 0))) in
    omega (arith, length-append (decimal_text i ++ t) newline_text, length-append (decimal_text i) t, decimal_text_length i, distance_width (get_or dist i (pos 0)))

-- the line of a cost
pub cost_line_width : (z : ℤ) → length (line cost_text (signed_text z ∷ [])) ≤ 27
cost_line_width z = omega (arith, length-append (signed_text z) newline_text, signed_width z)

-- an f64 distance: 16 digits
pub bits_width : (x : ℕ) → length (bits_text x) ≤ 16
unfolding bits_text
bits_width x = cond_width (eqb x none_f64) _ _ (omega arith) (hex_width x)

-- a line of an index, an f64 distance and a predecessor
pub tree_line_width : (dist preds : List ℕ) (i : ℕ) → length (tree_line dist preds i) ≤ 59
tree_line_width dist preds i =
    let x = field (bits_text (get_or dist i 0)) in
    let k = field (index_text (get_or preds i 0)) in
    omega (
      arith,
      length-append (decimal_text i ++ x ++ k) newline_text,
      length-append (decimal_text i ++ x) k,
      length-append (decimal_text i) x,
      decimal_text_length i,
      bits_width (get_or dist i 0),
      index_width (get_or preds i 0),
    )
