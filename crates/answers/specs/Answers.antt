-- The answer of each engine as text, of a map of at most 64 indices and 512 links:
-- the engine's promise on fresh buffers, and the lines of what it leaves there.
-- A buffer has 64 entries, one more for offsets, two for each link in the neighbour list, and 64 * 64 for a matrix.
-- Assumes nothing.
use Rattle.std.specs.Prelude.{◌≡◌, List, ℕ, ℤ, pos, replicate}
use Rattle.lines.specs.Text.{Printed}
use Rattle.std.specs.Prelude.{None}
use Rattle.table.specs.declared.FloatCost.{FloatCost}
use Rattle.net.specs.Net.{Net, has}
use Rattle.text.specs.Text.{distance_text, index_text, distance_lines, path_lines, row_lines, tree_lines, answer_text}
use Rattle.dijkstra.specs.Promise as dijkstra
use Rattle.bellman_ford.specs.Promise as bellman
use Rattle.a_star.specs.Promise as star
use Rattle.floyd_warshall.specs.Promise as floyd
use Rattle.johnson.specs.Promise as johnson
use Rattle.hops.specs.Promise as hops
use Rattle.dijkstra_path.specs.Promise as path

-- a text that P allows was printed at a place
pub record Written (P : List ℕ → Type 0) (out : List ℕ) (at : ℕ) (after : List ℕ) (stop : ℕ) : Type 0 where
  pub text : List ℕ
  pub allowed : P text
  pub printed : Printed out at text after stop

-- n fresh entries
abbrev pub zeros : ℕ → List ℕ
zeros n = replicate n 0

abbrev pub zeros_i : ℕ → List ℤ
zeros_i n = replicate n (pos 0)

-- the text of what a question gives: a number and what it leaves, as its promise allows, then the lines of that, or the refusal
pub record Shown {X : Type 0} (gives : ℕ → X → Type 0) (lines : X → List ℕ) (text : List ℕ) : Type 0 where
  pub number : ℕ
  pub left : X
  pub promise : gives number left
  pub says : text ≡ answer_text number (lines left)

-- 1: the distances from the source
abbrev pub Dijkstra : Net ℤ → ℕ → List ℕ → Type 0
Dijkstra g source =
    Shown (λ number e.
    dijkstra.Promise g source
    (dijkstra.buffers_of (zeros_i 64) (zeros 65) (zeros 1024) (zeros_i 1024) (zeros 64) (zeros 64) (zeros 64) (zeros_i 64)) e number)
    (λ e. distance_lines (has g) g.bound e.dist)

-- 2: the distances from the source
abbrev pub BellmanFord : Net ℤ → ℕ → List ℕ → Type 0
BellmanFord g source =
    Shown (λ number e.
    bellman.Promise g source
    (bellman.buffers_of (zeros_i 64) (zeros 65) (zeros 1024) (zeros_i 1024) (zeros 64) (zeros 64) (zeros 64)) e number)
    (λ e. distance_lines (has g) g.bound e.dist)

-- 3: the cost and the path from the source to the target, with heuristic 0; x is the cost, the length of the path, and the buffers
abbrev pub AStar : Net ℤ → ℕ → ℕ → List ℕ → Type 0
AStar g source target =
    Shown (λ number (x : ℤ × ℕ × star.Buffers).
    star.Promise g
    (star.question_of source target (zeros_i 64))
    (star.buffers_of (zeros 64) (zeros 65) (zeros 1024) (zeros_i 1024) (zeros_i 64) (zeros 64) (zeros 64) (zeros 64) (zeros_i 64)) x.2
    (star.answer_of number x.0 x.1))
    (λ x. path_lines x.0 x.1 x.2.path)

-- 4: the matrix of least totals; x is the matrix and the scratch
abbrev pub FloydWarshall : Net ℤ → List ℕ → Type 0
FloydWarshall g =
    Shown (λ number (x : List ℤ × List ℕ). floyd.Promise g (zeros_i 4096) (zeros 64) x.0 x.1 number)
    (λ x. row_lines distance_text (has g) g.bound x.0)

-- 5: the matrix of least totals; x is the matrix and the scratch
abbrev pub Johnson : Net ℤ → List ℕ → Type 0
Johnson g =
    Shown (λ number (x : List ℤ × johnson.Scratch).
    johnson.Promise g (zeros_i 4096)
    (johnson.scratch_of (zeros 65) (zeros 1024) (zeros_i 1024) (zeros_i 64) (zeros_i 64) (zeros 64) (zeros 64) (zeros 64) (zeros_i 64)) x.0
    x.1 number)
    (λ x. row_lines distance_text (has g) g.bound x.0)

-- 6: the matrix of hops, of either kind of map; x is the number of nodes and the buffers
abbrev pub Hops : {C : Type 0} → Net C → List ℕ → Type 0
Hops g =
    Shown (λ number (x : ℕ × hops.Buffers).
    hops.Promise g (hops.buffers_of (zeros 64) (zeros 4096) (zeros 65) (zeros 1024) (zeros 64) (zeros 65)) x.1 number x.0)
    (λ x. row_lines index_text (has g) g.bound x.1.matrix)

-- 7: f64 distances and predecessors from the source, without a cutoff
abbrev pub DijkstraPath : Net FloatCost → ℕ → List ℕ → Type 0
DijkstraPath g source =
    Shown (λ number e.
    path.Promise g source None
    (path.buffers_of (zeros 64) (zeros 64) (zeros 65) (zeros 1024) (zeros 1024) (zeros 64) (zeros 64) (zeros 64)) e number)
    (λ e. tree_lines (has g) g.bound e.memory.dist e.memory.preds)
