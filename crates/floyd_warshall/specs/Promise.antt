-- What `floyd_warshall` promises: the answer for all pairs (crate matrix), with m places of scratch.
-- Assumes nothing.
use Rattle.std.specs.Prelude.{Bool, ◌&&◌, List, ℕ, leb, ℤ, length}
use Rattle.numbers.specs.Numbers.{Row}
use Rattle.clean.specs.Fill.{filled}
use Rattle.net.specs.Net.{Net, whole_net}
use Rattle.matrix.specs.Matrix.{square, Buffers, buffers_of, AllPairs}
use Rattle.matrix.specs.Matrix as pairs

-- nothing that refusal 1 names: the map is whole, the scratch has m places, the matrix p * p
unfoldable pub enough : Net ℤ → List ℤ → List ℕ → Bool
enough g matrix ranks = whole_net g && (leb g.bound (length ranks) && leb (square g) (length matrix))

-- the table of the map g, the matrix and the scratch that were lent
abbrev pub table : Net ℤ → List ℤ → List ℕ → List (Row (Buffers (List ℕ)))
table g matrix ranks = pairs.table g (enough g matrix ranks) (filled g.bound 0 ranks) (buffers_of matrix ranks)

-- the matrix and the scratch that are left, and the number, follow it
abbrev pub Promise : Net ℤ → List ℤ → List ℕ → List ℤ → List ℕ → ℕ → Type 0
Promise g matrix ranks matrix' ranks' number =
    AllPairs g (enough g matrix ranks) (filled g.bound 0 ranks) (buffers_of matrix ranks) (buffers_of matrix' ranks') number
