-- How long a matrix of at most 64 rows can be: the longest answer is one of distances.
-- Assumes nothing.
use mathlib.Core.Bool.{Bool}
use Prim.Native.Nat.{ℕ, ◌+◌, ◌*◌, ◌≤◌}
use native.Mathlib.Nat.{mul-le-mul_left, mul-le-mul_right}
use native.Mathlib.Omega.{arith}
use Rattle.net.proofs.Nodes.{count_most}
use Rattle.text.specs.Text.{width}
use Rattle.answers.specs.Output.{most}

module _ (has : ℕ → Bool) (m : ℕ) (h : m ≤ 64) where
  -- the matrix has at most 64 * 64 entries
  pub square_fits : width has m * width has m ≤ 4096
  square_fits = let k : width has m ≤ 64 = omega (arith, count_most has m) in omega (arith, mul-le-mul_right (width has m) k)

  -- its rows have room, with entries of at most 21 bytes
  pub rows_fit : (w : ℕ) → w ≤ 21 → m * (width has m * (w + 1) + 25) ≤ most
  rows_fit w k =
      let n : w + 1 ≤ 22 = omega arith in
      let r : width has m * (w + 1) + 25 ≤ 1433 = omega (arith, mul-le-mul_left (width has m) n, count_most has m) in
      omega (arith, mul-le-mul_left m r)

pub ruleset rooms = (square_fits, rows_fit)
