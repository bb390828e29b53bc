-- Places in a matrix with p columns, and entries after one is stored.
-- Assumes nothing.
use mathlib.Core.Path.{◌≡◌, sym}
use mathlib.Core.List.{List}
use Prim.Native.Nat.{ℕ, suc, ◌+◌, ◌*◌, ◌≤◌, ◌<◌}
use native.Mathlib.Decide.{dec_lt}
use native.Mathlib.Nat.{mul-le-mul_right}
use native.Mathlib.Omega.{arith}
use lib.IntN.{ℤ, pos}
use lib.ListN.{length, set}
use lib.Seq.{get_or-set_same, get_or-set_other}
use Rattle.matrix.proofs.Matrix.{place_in}
use Rattle.floyd_warshall.specs.Rounds.{cell}

-- entries of two rows lie apart
apart_row : (p u v i j : ℕ) → u < i → v < p → u * p + v ≡ i * p + j → ⊥
apart_row p u v i j h l e = let k : suc u * p ≤ i * p = mul-le-mul_right p h in omega arith

-- the entry that was stored, one of another row, one of another column
pub cell_same : (p : ℕ) (l : List ℤ) (i j : ℕ) (z : ℤ) → length l ≡ p * p → i < p → j < p → cell p (set l (i * p + j) z) i j ≡ z
cell_same p l i j z e h k = get_or-set_same l (i * p + j) z (pos 0) (omega (arith, place_in p i j h k))

pub cell_row : (p : ℕ) (l : List ℤ) (i j u v : ℕ) (z : ℤ) → j < p → v < p → (u ≡ i → ⊥) → cell p (set l (i * p + j) z) u v ≡ cell p l u v
cell_row p l i j u v z h k n = get_or-set_other l (i * p + j) (u * p + v) z (pos 0) (λ e. go (dec_lt u i) e)
  where
    go : Dec (u < i) → u * p + v ≡ i * p + j → ⊥
    go (yes q) e = apart_row p u v i j q k e
    go (no q) e = apart_row p i j u v (omega (arith, q, n)) h (sym e)

pub cell_column : (p : ℕ) (l : List ℤ) (i j v : ℕ) (z : ℤ) → (v ≡ j → ⊥) → cell p (set l (i * p + j) z) i v ≡ cell p l i v
cell_column p l i j v z n = get_or-set_other l (i * p + j) (i * p + v) z (pos 0) (λ e. n (omega arith))
