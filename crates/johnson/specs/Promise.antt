-- What `johnson` promises: the answer for all pairs (crate matrix), and its scratch.
-- Assumes nothing.
use Rattle.std.specs.Prelude.{Bool, ◌&&◌, List, ℕ, ◌*◌, leb, ℤ, pos, length}
use Rattle.numbers.specs.Numbers.{Row}
use Rattle.clean.specs.Fill.{filled}
use Rattle.net.specs.Net.{Net, whole_net, most_arcs_of, width}
use Rattle.rows.specs.Rows.{Lists, lists_of}
use Rattle.rows.specs.Scratch.{has_lists, wiped}
use Rattle.turns.specs.Memory.{Memory, memory_of}
use Rattle.search.specs.Lists.{has_memory, wiped_memory}
use Rattle.matrix.specs.Matrix.{Buffers, buffers_of, AllPairs}
use Rattle.matrix.specs.Matrix as pairs

-- the lent scratch: neighbour list, potentials, and what one search writes
pub record Scratch : Type 0 where
  pub rows : Lists ℤ
  pub heights : List ℤ
  pub memory : Memory ℤ

-- the same, of its parts
abbrev pub scratch_of : List ℕ → List ℕ → List ℤ → List ℤ → List ℤ → List ℕ → List ℕ → List ℕ → List ℤ → Scratch
scratch_of o h w t d p q i k = record { rows = lists_of o h w; heights = t; memory = memory_of d p q i k }

-- of a neighbour list, the potentials and what a search writes
abbrev pub scratch : Lists ℤ → List ℤ → Memory ℤ → Scratch
scratch l h m = record { rows = l; heights = h; memory = m }

-- is each slice as long as the part used: p * p entries of the matrix, and 7m + 1 + 2a of scratch in all?
unfoldable pub long_enough : ℕ → ℕ → ℕ → List ℤ → Scratch → Bool
long_enough m a p matrix s =
    leb (p * p) (length matrix) && (has_lists m a s.rows && (leb m (length s.heights) && has_memory m s.memory))

-- nothing that refusal 1 names
abbrev pub enough : Net ℤ → List ℤ → Scratch → Bool
enough g matrix s = whole_net g && long_enough g.bound (most_arcs_of g) (width g) matrix s

-- zero in the part needed of each scratch slice, and the rest as before
abbrev pub wiped_all : ℕ → ℕ → Scratch → Scratch
wiped_all m a s = record { rows = wiped m a (pos 0) s.rows; heights = filled m (pos 0) s.heights; memory = wiped_memory m s.memory }

-- the table of the map g, the matrix and the scratch that were lent
abbrev pub table : Net ℤ → List ℤ → Scratch → List (Row (Buffers Scratch))
table g matrix s = pairs.table g (enough g matrix s) (wiped_all g.bound (most_arcs_of g) s) (buffers_of matrix s)

-- the matrix and the scratch that are left, and the number, follow it
abbrev pub Promise : Net ℤ → List ℤ → Scratch → List ℤ → Scratch → ℕ → Type 0
Promise g matrix s matrix' s' number =
    AllPairs g (enough g matrix s) (wiped_all g.bound (most_arcs_of g) s) (buffers_of matrix s) (buffers_of matrix' s') number
