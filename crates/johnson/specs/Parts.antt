-- What the parts of the public function promise each other: a row of the matrix, all rows, the shifted list, the map solved.
-- Assumes nothing.
use Rattle.std.specs.Prelude.{◌≡◌, Bool, true, false, List, ℕ, ◌+◌, ◌*◌, ◌≤◌, ◌<◌, ◌^◌, ℤ, pos, ◌≤ℤ◌, length, get_or}
use Rattle.std.specs.Int.Signed.{lt_z}
use Rattle.whole.specs.Zed.{P, Within}
use Rattle.numbers.specs.Tests.{first_no}
use Rattle.clean.specs.None.{none_i64}
use Rattle.table.specs.Links.{present}
use Rattle.walks.specs.Walk.{Negative, Total}
use Rattle.walks.specs.Shift.{Shifted}
use Rattle.net.specs.Net.{Net, ArcOf, whole_net, inside_net, most_arcs_of, rising, width}
use Rattle.rows.specs.Rows.{Lists}
use Rattle.rows.specs.RowArc.{RowArc, Sound}
use Rattle.rows.specs.Kept.{Kept, KeptLists, EnoughLists}
use Rattle.turns.specs.Firsts.{EnoughMemory, KeptMemory}
use Rattle.matrix.specs.Matrix.{square, Matrix}
use Rattle.johnson.specs.Rounds.{label, Deep}
use Rattle.johnson.specs.Potentials.{Potentials}
use Rattle.johnson.specs.Shifting.{shifted_back}
use Rattle.johnson.specs.Promise.{Scratch, table}

-- ---- what a search finds
-- a neighbour list of m indices whose weights are shifted: at least 0, and at most 2^41
pub record Even (m : ℕ) (nb : Lists ℤ) : Type 0 where
  pub rows : Sound m nb
  pub up : (u v : ℕ) (c : ℤ) → RowArc m nb u v c → pos 0 ≤ℤ c
  pub cheap : (u v : ℕ) (c : ℤ) → RowArc m nb u v c → P c ≤ 2 ^ 41

-- the distances found from s
abbrev pub Found : ℕ → ℕ → Lists ℤ → List ℤ → Type 0
Found m s nb ds = (v : ℕ) → v < m → Total (RowArc m nb) s v (get_or ds v (pos 0))

-- ---- one row of the matrix
-- the place of an index among the nodes: how many before it the map has
abbrev pub rank : ℕ → List ℕ → ℕ → ℕ
rank m marks u = length (rising (present m marks) u)

-- a distance that may be shifted: none, or not far from 0
abbrev pub Moderate : ℤ → Type 0
Moderate d = lt_z none_i64 d ≡ true → Within (2 ^ 60) d

-- what a row from s asks, which starts at a place of the matrix
pub record CanShow (m at s : ℕ) (marks : List ℕ) (h ds matrix : List ℤ) : Type 0 where
  pub bounded : m ≤ 1024
  pub marked : m ≤ length marks
  pub source : s < m
  pub long : length h ≡ m
  pub long_d : m ≤ length ds
  pub small : at ≤ 1048576
  pub room : at + rank m marks m ≤ length matrix
  pub deep : (v : ℕ) → Deep (2 ^ 59) (label h v)
  pub moderate : (v : ℕ) → v < m → Moderate (get_or ds v (pos 0))

-- the row holds what was found for the present ones of the first k indices, shifted back; all else is as it was
pub record RowShown (m at s k : ℕ) (marks : List ℕ) (h ds before after : List ℤ) : Type 0 where
  pub long : length after ≡ length before
  pub each : (v : ℕ) → v < k → present m marks v ≡ true
      → get_or after (at + rank m marks v) (pos 0) ≡ shifted_back h s v (get_or ds v (pos 0))
  pub ahead : (x : ℕ) → x < at → get_or after x (pos 0) ≡ get_or before x (pos 0)
  pub past : (x : ℕ) → at + rank m marks k ≤ x → get_or after x (pos 0) ≡ get_or before x (pos 0)

-- ---- all rows
-- what they ask
pub record CanFill (m p : ℕ) (marks : List ℕ) (nb : Lists ℤ) (h matrix : List ℤ) : Type 0 where
  pub width : p ≡ rank m marks m
  pub marked : m ≤ length marks
  pub even : Even m nb
  pub long : length h ≡ m
  pub deep : (v : ℕ) → Deep (2 ^ 59) (label h v)
  pub room : p * p ≤ length matrix

-- an entry: the total that a search from u finds for v, shifted back
pub record EntryShown (m : ℕ) (nb : Lists ℤ) (h : List ℤ) (u v : ℕ) (x : ℤ) : Type 0 where
  pub found : ℤ
  pub total : Total (RowArc m nb) u v found
  pub is : x ≡ shifted_back h u v found

-- the rows of the present ones of the first k indices; what is past the square is as it was
pub record Filled (m p k : ℕ) (marks : List ℕ) (nb : Lists ℤ) (h before after : List ℤ) : Type 0 where
  pub long : length after ≡ length before
  pub each : (u v : ℕ) → u < k → v < m → present m marks u ≡ true → present m marks v ≡ true
      → EntryShown m nb h u v (get_or after (rank m marks u * p + rank m marks v) (pos 0))
  pub rest : (x : ℕ) → p * p ≤ x → get_or after x (pos 0) ≡ get_or before x (pos 0)

-- the row of u added, if u is present
abbrev pub RowMade : ℕ → ℕ → ℕ → List ℕ → Lists ℤ → List ℤ → List ℤ → List ℤ → Type 0
RowMade m p u marks nb h matrix matrix' =
    (before : List ℤ) → Filled m p u marks nb h before matrix → Filled m p (u + 1) marks nb h before matrix'

-- ---- the shifted list
-- what a map and its neighbour list must be
pub record Ripe (g : Net ℤ) (s : Lists ℤ) (h : List ℤ) : Type 0 where
  pub whole : whole_net g ≡ true
  pub inside : inside_net g ≡ true
  pub rows : EnoughLists g.bound (most_arcs_of g) s
  pub heights : length h ≡ g.bound

-- potentials, and the map's arcs shifted by them in the neighbour list
pub record Laid (g : Net ℤ) (nb : Lists ℤ) (h : List ℤ) : Type 0 where
  pub rows : Sound g.bound nb
  pub potentials : Potentials (ArcOf g) (width g) h
  pub shifted : (u v : ℕ) (c : ℤ) → RowArc g.bound nb u v c → Shifted (ArcOf g) (label h) u v c
  pub back : (u v : ℕ) (c : ℤ) → Shifted (ArcOf g) (label h) u v c → RowArc g.bound nb u v c

-- is some closed walk below zero? If not, the list is laid
pub record Prepared (g : Net ℤ) (s s' : Lists ℤ) (h' : List ℤ) (negative : Bool) : Type 0 where
  pub long : length h' ≡ g.bound
  pub kept : KeptLists g.bound (most_arcs_of g) s s'
  pub yes : negative ≡ true → Negative (ArcOf g)
  pub no : negative ≡ false → Laid g s' h'

-- ---- the public function's parts
-- refusal 1, then 2, else 0
unfoldable pub refusal_no : Net ℤ → List ℤ → Scratch → ℕ
refusal_no g matrix s = first_no 2 (table g matrix s)

-- the scratch is as long as the part used
pub record EnoughScratch (m a : ℕ) (s : Scratch) : Type 0 where
  pub bounded : m ≤ 1024
  pub rows : EnoughLists m a s.rows
  pub heights : m ≤ length s.heights
  pub memory : EnoughMemory m s.memory

-- what a call that is not refused was lent
pub record Passed (g : Net ℤ) (matrix : List ℤ) (s : Scratch) : Type 0 where
  pub whole : whole_net g ≡ true
  pub inside : inside_net g ≡ true
  pub output : square g ≤ length matrix
  pub room : EnoughScratch g.bound (most_arcs_of g) s

-- the scratch past the parts used is as it was
pub record KeptAll (m a : ℕ) (s s' : Scratch) : Type 0 where
  pub rows : KeptLists m a s.rows s'.rows
  pub heights : Kept m s.heights s'.heights
  pub memory : KeptMemory m s.memory s'.memory

-- a map solved: is some closed walk below zero? If not, the matrix holds the least totals
pub record Solved (g : Net ℤ) (matrix : List ℤ) (s : Scratch) (matrix' : List ℤ) (s' : Scratch) (negative : Bool) : Type 0 where
  pub kept : KeptAll g.bound (most_arcs_of g) s s'
  pub output : Kept (square g) matrix matrix'
  pub yes : negative ≡ true → Negative (ArcOf g)
  pub no : negative ≡ false → (Negative (ArcOf g) → ⊥) × Matrix g matrix matrix'
