-- The used parts of the buffers that each question is lent to write, outputs and scratch; and what two calls leave the same in them.
-- Assumes nothing.
use Rattle.std.specs.Prelude.{◌≡◌, List, ◌⊎◌, ℕ, ◌+◌, ◌*◌, ◌≤◌, ℤ, take}
use Rattle.rows.specs.Rows.{Lists, lists_of}
use Rattle.turns.specs.Memory.{Memory}
use Rattle.turns.specs.Firsts.{firsts}
use Rattle.dijkstra.specs.Promise as dijkstra
use Rattle.a_star.specs.Promise as star
use Rattle.bellman_ford.specs.Promise as bellman
use Rattle.johnson.specs.Promise as johnson
use Rattle.hops.specs.Promise as hops
use Rattle.dijkstra_path.specs.Promise as search

-- what two calls that gave the `number` leave of the buffers b and b' that they were lent: after 0, 6 and 7 the same used parts,
-- after 1 to 5 each its own buffers as lent
pub data LeaveSame {B U : Type 0} (used : B → U) (number : ℕ) (b b' e e' : B) : Type 0 where
  ran : (number ≡ 0) ⊎ ((number ≡ 6) ⊎ (number ≡ 7)) → used e ≡ used e' → LeaveSame used number b b' e e'
  refused : 1 ≤ number → number ≤ 5 → e ≡ b → e' ≡ b' → LeaveSame used number b b' e e'

-- of a map with bound m, room for a arcs and p nodes
module _ (m a : ℕ) where
  -- the neighbour list of each question: m + 1 offsets, a heads, a weights
  abbrev pub rows_used : {W : Type 0} → Lists W → Lists W
  rows_used s = lists_of (take (m + 1) s.offsets) (take a s.heads) (take a s.weights)

  -- m distances, and m of each list of the search
  abbrev pub dijkstra_used : dijkstra.Buffers → Lists ℤ × Memory ℤ
  dijkstra_used b = (rows_used b.scratch.rows, firsts m (dijkstra.memory b))

  -- m distances and m predecessors, and m of each other list of the search
  abbrev pub dijkstra_path_used : search.Buffers → Lists ℕ × Memory ℕ
  dijkstra_path_used b = (rows_used b.rows, firsts m b.memory)

  -- m distances, and m of the ring, its marks and the path lengths
  abbrev pub bellman_used : bellman.Buffers → List ℤ × Lists ℤ × List ℕ × List ℕ × List ℕ
  bellman_used b = let s = b.scratch in (take m b.dist, rows_used s.rows, take m s.queue, take m s.queued, take m s.lengths)

  -- m entries of the path, and m of each list of the search
  abbrev pub a_star_used : star.Buffers → List ℕ × Lists ℤ × Memory ℤ
  a_star_used b = (take m b.path, rows_used b.scratch.rows, firsts m b.scratch.memory)

  -- the scratch of `johnson`: m potentials, and m of each list of the search
  abbrev pub johnson_used : johnson.Scratch → Lists ℤ × List ℤ × Memory ℤ
  johnson_used s = (rows_used s.rows, take m s.heights, firsts m s.memory)

  -- p nodes, p * p hops, and m + 1 offsets, a heads, m labels, m + 1 of the queue
  abbrev pub hops_used : ℕ → hops.Buffers → List ℕ × List ℕ × List ℕ × List ℕ × List ℕ × List ℕ
  hops_used p b =
      let k = m + 1 in
      (take p b.nodes, take (p * p) b.matrix, take k b.offsets, take a b.heads, take m b.labels, take k b.queue)

-- all pairs: p * p entries of the matrix, and the used part of the scratch beside it
abbrev pub pairs_used : {S U : Type 0} → ℕ → (S → U) → List ℤ × S → List ℤ × U
pairs_used p scratch x = (take (p * p) x.0, scratch x.1)
