-- All scratch of one question together needs at most 8(m + 1) + 4a entries.
-- `QUESTION-scratch`: for every map within the limits, and outputs (and a heuristic) of the lengths used, there are scratch slices, in the order in which they are lent,
-- with which nothing is too short, and whose lengths sum to no more. Each is just as long as `enough` asks (docs/SCRATCH.md).
-- Assumes nothing.
use mathlib.Core.Path.{◌≡◌}
use mathlib.Core.Bool.{true}
use mathlib.Core.List.{List}
use Prim.Native.Nat.{ℕ, ◌+◌, ◌*◌, ◌≤◌}
use native.Mathlib.Omega.{arith}
use borrow.Author.Tests.{le-leb}
use lib.Dec.{leb}
use lib.IntN.{ℤ, pos}
use lib.ListN.{length, replicate, length-replicate}
use Rattle.table.specs.declared.FloatCost.{FloatCost}
use Rattle.net.specs.Net.{Net, whole_net, most_arcs_of, width}
use Rattle.rows.specs.Scratch.{has_lists}
use Rattle.search.specs.Lists.{has_memory}
use Rattle.matrix.specs.Matrix.{square}
use Rattle.dijkstra.specs.Promise as dijkstra
use Rattle.a_star.specs.Promise as star
use Rattle.bellman_ford.specs.Promise as bellman
use Rattle.floyd_warshall.specs.Promise as floyd
use Rattle.johnson.specs.Promise as johnson
use Rattle.hops.specs.Promise as hops
use Rattle.dijkstra_path.specs.Promise as search

-- slices of n entries: their lengths, and that they are long enough for n
abbrev zeros : ℕ → List ℕ
zeros n = replicate n 0

abbrev signed : ℕ → List ℤ
signed n = replicate n (pos 0)

zeros_have : (n : ℕ) → length (zeros n) ≡ n
zeros_have n = length-replicate n 0

signed_have : (n : ℕ) → length (signed n) ≡ n
signed_have n = length-replicate n (pos 0)

zeros_do : (n : ℕ) → leb n (length (zeros n)) ≡ true
zeros_do n = le-leb n (length (zeros n)) (omega (arith, zeros_have n))

signed_do : (n : ℕ) → leb n (length (signed n)) ≡ true
signed_do n = le-leb n (length (signed n)) (omega (arith, signed_have n))

module _ (g : Net ℤ) (whole : whole_net g ≡ true) where
  abbrev m : ℕ
  m = g.bound

  abbrev a : ℕ
  a = most_arcs_of g

  pub dijkstra_scratch : (dist : List ℤ) → g.bound ≤ length dist
      → (o : List ℕ) × (h : List ℕ) × (w : List ℤ) × (p : List ℕ) × (q : List ℕ) × (i : List ℕ) × (k : List ℤ) × (dijkstra.enough g (dijkstra.buffers_of dist o h w p q i k) ≡ true)
      × (length o + length h + length w + length p + length q + length i + length k ≤ 8 * (g.bound + 1) + 4 * most_arcs_of g)
  unfolding dijkstra.long_enough has_lists has_memory
  dijkstra_scratch dist d = (
    zeros (m + 1),
    zeros a,
    signed a,
    zeros m,
    zeros m,
    zeros m,
    signed m,
    rw (whole, le-leb m (length dist) d, zeros_do (m + 1), zeros_do a, signed_do a, zeros_do m, signed_do m),
    omega (arith, zeros_have (m + 1), zeros_have a, signed_have a, zeros_have m, signed_have m),
  )

  pub a_star_scratch : (q : star.Question) (path : List ℕ) → g.bound ≤ length q.guess → g.bound ≤ length path
      → (o : List ℕ) × (h : List ℕ) × (w : List ℤ) × (d : List ℤ) × (p : List ℕ) × (b : List ℕ) × (i : List ℕ) × (k : List ℤ) × (star.enough g q (star.buffers_of path o h w d p b i k) ≡ true)
      × (length o + length h + length w + length d + length p + length b + length i + length k ≤ 8 * (g.bound + 1) + 4 * most_arcs_of g)
  unfolding star.long_enough has_lists has_memory
  a_star_scratch q path h d = (
    zeros (m + 1),
    zeros a,
    signed a,
    signed m,
    zeros m,
    zeros m,
    zeros m,
    signed m,
    rw (whole, le-leb m (length q.guess) h, le-leb m (length path) d, zeros_do (m + 1), zeros_do a, signed_do a, zeros_do m, signed_do m),
    omega (arith, zeros_have (m + 1), zeros_have a, signed_have a, zeros_have m, signed_have m),
  )

  pub bellman_ford_scratch : (dist : List ℤ) → g.bound ≤ length dist
      → (o : List ℕ) × (h : List ℕ) × (w : List ℤ) × (q : List ℕ) × (i : List ℕ) × (l : List ℕ) × (bellman.enough g (bellman.buffers_of dist o h w q i l) ≡ true)
      × (length o + length h + length w + length q + length i + length l ≤ 8 * (g.bound + 1) + 4 * most_arcs_of g)
  unfolding bellman.long_enough has_lists
  bellman_ford_scratch dist d = (
    zeros (m + 1),
    zeros a,
    signed a,
    zeros m,
    zeros m,
    zeros m,
    rw (whole, le-leb m (length dist) d, zeros_do (m + 1), zeros_do a, signed_do a, zeros_do m),
    omega (arith, zeros_have (m + 1), zeros_have a, signed_have a, zeros_have m),
  )

  pub floyd_warshall_scratch : (matrix : List ℤ) → square g ≤ length matrix → (r : List ℕ) × (floyd.enough g matrix r ≡ true) × (length r ≤ 8 * (g.bound + 1) + 4 * most_arcs_of g)
  unfolding floyd.enough
  floyd_warshall_scratch matrix d = (zeros m, rw (whole, le-leb (square g) (length matrix) d, zeros_do m), omega (arith, zeros_have m))

  pub johnson_scratch : (matrix : List ℤ) → square g ≤ length matrix
      → (o : List ℕ) × (h : List ℕ) × (w : List ℤ) × (t : List ℤ) × (d : List ℤ) × (p : List ℕ) × (q : List ℕ) × (i : List ℕ) × (k : List ℤ)
      × (johnson.enough g matrix (johnson.scratch_of o h w t d p q i k) ≡ true)
      × (length o + length h + length w + length t + length d + length p + length q + length i + length k ≤ 8 * (g.bound + 1) + 4 * most_arcs_of g)
  unfolding johnson.long_enough has_lists has_memory
  johnson_scratch matrix d = (
    zeros (m + 1),
    zeros a,
    signed a,
    signed m,
    signed m,
    zeros m,
    zeros m,
    zeros m,
    signed m,
    rw (whole, le-leb (square g) (length matrix) d, zeros_do (m + 1), zeros_do a, signed_do a, zeros_do m, signed_do m),
    omega (arith, zeros_have (m + 1), zeros_have a, signed_have a, zeros_have m, signed_have m),
  )

-- of either kind of map
pub hops_scratch : {C : Type 0} (g : Net C) → whole_net g ≡ true → (nodes matrix : List ℕ) → width g ≤ length nodes → width g * width g ≤ length matrix
    → (o : List ℕ) × (h : List ℕ) × (l : List ℕ) × (q : List ℕ) × (hops.enough g (hops.buffers_of nodes matrix o h l q) ≡ true)
    × (length o + length h + length l + length q ≤ 8 * (g.bound + 1) + 4 * most_arcs_of g)
unfolding hops.long_enough
hops_scratch g whole nodes matrix n d = (
  zeros (g.bound + 1),
  zeros (most_arcs_of g),
  zeros g.bound,
  zeros (g.bound + 1),
  rw (whole, le-leb (width g) (length nodes) n, le-leb (width g * width g) (length matrix) d, zeros_do (g.bound + 1), zeros_do (most_arcs_of g), zeros_do g.bound),
  omega (arith, zeros_have (g.bound + 1), zeros_have (most_arcs_of g), zeros_have g.bound),
)

-- both f64 searches
pub dijkstra_path_scratch : (g : Net FloatCost) → whole_net g ≡ true → (dist preds : List ℕ) → g.bound ≤ length dist → g.bound ≤ length preds
    → (o : List ℕ) × (h : List ℕ) × (w : List ℕ) × (q : List ℕ) × (i : List ℕ) × (k : List ℕ) × (search.enough g (search.buffers_of dist preds o h w q i k) ≡ true)
    × (length o + length h + length w + length q + length i + length k ≤ 8 * (g.bound + 1) + 4 * most_arcs_of g)
unfolding search.long_enough has_lists has_memory
dijkstra_path_scratch g whole dist preds d p = (
  zeros (g.bound + 1),
  zeros (most_arcs_of g),
  zeros (most_arcs_of g),
  zeros g.bound,
  zeros g.bound,
  zeros g.bound,
  rw (whole, le-leb g.bound (length dist) d, le-leb g.bound (length preds) p, zeros_do (g.bound + 1), zeros_do (most_arcs_of g), zeros_do g.bound),
  omega (arith, zeros_have (g.bound + 1), zeros_have (most_arcs_of g), zeros_have g.bound),
)
