-- What `floyd_warshall` and `johnson` promise, to be laid beside 01. They differ in their scratch alone.
-- Assumes nothing.
use Rattle.std.specs.Prelude.{◌≡◌, Bool, List, [], ◌∷◌, ℕ, ◌+◌, ◌*◌, ◌<◌, ℤ, pos, length, get_or, drop}
use Rattle.numbers.specs.Numbers.{Row, row, done, fails, holds, Follows}
use Rattle.clean.specs.Fill.{filled}
use Rattle.clean.specs.None.{none_i64}
use Rattle.walks.specs.Walk.{Negative, Entry}
use Rattle.net.specs.Net.{Net, ArcOf, nodes_of, width, inside_net}

-- the part of the matrix that is used: p * p entries
abbrev pub square : Net ℤ → ℕ
square g = width g * width g

-- the matrix of least totals: in row i and column j the least total of a walk from the i-th node to the j-th,
-- or none without a walk; entries past p * p as before
pub record Matrix (g : Net ℤ) (before after : List ℤ) : Type 0 where
  pub long : length after ≡ length before
  pub each : (i j : ℕ) → i < width g → j < width g
      → Entry (ArcOf g) (get_or (nodes_of g) i 0) (get_or (nodes_of g) j 0) (get_or after (i * width g + j) (pos 0))
  pub rest : drop (square g) after ≡ drop (square g) before

-- the lent buffers: the matrix and the scratch, of whatever kind
pub record Buffers (S : Type 0) : Type 0 where
  pub matrix : List ℤ
  pub scratch : S

-- such buffers from their parts
abbrev pub buffers_of : {S : Type 0} → List ℤ → S → Buffers S
buffers_of x s = record { matrix = x; scratch = s }

-- the table: what the call leaves is e, of the map g and the buffers b that it was lent. `enough` says that nothing is too short;
-- `clear` is the lent scratch with zero in the part needed and its rest as before
abbrev pub table : {S : Type 0} → Net ℤ → Bool → S → Buffers S → List (Row (Buffers S))
table g enough clear b =
    -- 1: a limit is passed, or a lent slice is shorter than the part used; untouched
    row 1 (fails enough) (λ e. e ≡ b)
    -- 2: a link names an index at or above m, or absent; untouched
    ∷ row 2 (fails (inside_net g)) (λ e. e ≡ b)
    -- 7: a closed walk below zero, anywhere; blank
    ∷ row 7 (holds (Negative (ArcOf g))) (λ e. e ≡ buffers_of (filled (square g) none_i64 b.matrix) clear)
    -- 0: the matrix of least totals
    ∷ done (λ e. Matrix g b.matrix e.matrix × (e.scratch ≡ clear))
    ∷ []

-- the `number` and the buffers `e` that the call leaves are those of the first row whose condition holds
pub record AllPairs {S : Type 0} (g : Net ℤ) (enough : Bool) (clear : S) (b e : Buffers S) (number : ℕ) : Type 0 where
  pub follows : Follows (table g enough clear b) e number
