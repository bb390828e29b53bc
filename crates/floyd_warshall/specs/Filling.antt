-- What the parts of the public function promise it: the refusals, the matrix before the rounds, and the map solved.
-- Assumes nothing.
use Rattle.std.specs.Prelude.{◌≡◌, Bool, true, false, cond, List, [], ◌∷◌, ℕ, ◌+◌, ◌*◌, ◌^◌, ◌≤◌, ◌<◌, ℤ, pos, length, get_or, set}
use Rattle.std.specs.Int.Signed.{lt_z}
use Rattle.whole.specs.Zed.{Cost32}
use Rattle.numbers.specs.Tests.{first_no}
use Rattle.clean.specs.None.{none_i64}
use Rattle.table.specs.Links.{Link}
use Rattle.walks.specs.Walk.{Negative, Entry}
use Rattle.net.specs.Net.{Net, ArcOf, has, rising, nodes_of, width, whole_net, inside_net}
use Rattle.floyd_warshall.specs.Promise.{table}
use Rattle.floyd_warshall.specs.Rounds.{pick_z, lesser, cell}

-- refusal 1, then 2, else 0
unfoldable pub refusal_no : Net ℤ → List ℤ → List ℕ → ℕ
refusal_no g matrix ranks = first_no 2 (table g matrix ranks)

-- a map that is not refused
pub record Sound (g : Net ℤ) : Type 0 where
  pub whole : whole_net g ≡ true
  pub inside : inside_net g ≡ true

-- each index below m has its row: how many below it are present
pub record Ranked (g : Net ℤ) (ranks : List ℕ) : Type 0 where
  pub long : g.bound ≤ length ranks
  pub each : (u : ℕ) → u < g.bound → get_or ranks u 0 ≡ length (rising (has g) u)

-- p rows of p entries
pub record Square (p : ℕ) (l : List ℤ) : Type 0 where
  pub few : p ≤ 1024
  pub size : length l ≡ p * p

-- no arcs yet
pub record Started (p : ℕ) (l : List ℤ) : Type 0 where
  pub square : Square p l
  pub zero : (i : ℕ) → i < p → cell p l i i ≡ pos 0
  pub far : (i j : ℕ) → i < p → j < p → (i ≡ j → ⊥) → cell p l i j ≡ pos (2 ^ 50)

-- an entry lowered to a cost
unfoldable pub lowered : List ℤ → ℕ → ℤ → List ℤ
lowered l x c = set l x (lesser (get_or l x (pos 0)) c)

-- the arcs of one link between the rows i and j
unfoldable pub linked : Bool → ℕ → List ℤ → ℕ → ℕ → ℤ → List ℤ
linked d p l i j c = cond d (lowered l (i * p + j) c) (lowered (lowered l (i * p + j) c) (j * p + i) c)

-- the arcs of links, one after another; r has the rows
abbrev pub poured : Bool → ℕ → List ℕ → List (Link ℤ) → List ℤ → List ℤ
poured d p r [] l = l
poured d p r (x ∷ xs) l = poured d p r xs (linked d p l (get_or r x.a 0) (get_or r x.b 0) x.cost)

-- the first n costs are in -2^31 ..= 2^31, as every i32 is
abbrev pub Costs32Below : List ℤ → ℕ → Type 0
Costs32Below cs n = (x : ℕ) → x < n → Cost32 (get_or cs x (pos 0))

-- what is shown of an entry: none where it is far
unfoldable pub shown : ℤ → ℤ
shown z = pick_z (lt_z z (pos (2 ^ 49))) z none_i64

-- each entry as it is shown
pub record MatrixShown (l l' : List ℤ) : Type 0 where
  pub size : length l' ≡ length l
  pub at : (x : ℕ) → x < length l → get_or l' x (pos 0) ≡ shown (get_or l x (pos 0))

-- the answer to a sound map, in a matrix of just the entries used
abbrev pub Solved : Net ℤ → Bool → List ℤ → Type 0
Solved g true l = Negative (ArcOf g)
Solved g false l =
    (Negative (ArcOf g) → ⊥)
    × ((i j : ℕ) → i < width g → j < width g → Entry (ArcOf g) (get_or (nodes_of g) i 0) (get_or (nodes_of g) j 0) (cell (width g) l i j))
