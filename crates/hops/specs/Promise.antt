-- What `hops` and `hops_f64` promise: one promise for both kinds of map, since an arc counts whatever its cost.
-- Assumes nothing.
use Rattle.std.specs.Prelude.{◌≡◌, Bool, ◌&&◌, List, [], ◌∷◌, ◌++◌, ℕ, ◌+◌, ◌*◌, ◌<◌, leb, length, get_or, drop}
use Rattle.numbers.specs.Numbers.{Row, row, done, fails, Follows}
use Rattle.clean.specs.Fill.{filled}
use Rattle.net.specs.Net.{Net, LeadsOf, nodes_of, width, whole_net, inside_net, most_arcs_of}
use Rattle.hops.specs.declared.Table.{Table}
use Rattle.hops.specs.declared.Scratch.{Scratch}
use Rattle.hops.specs.Steps.{Entry}

-- the lent buffers: the node list, the matrix of hops, and the scratch
pub record Buffers : Type 0 where
  pub nodes : List ℕ
  pub matrix : List ℕ
  pub offsets : List ℕ
  pub heads : List ℕ
  pub labels : List ℕ
  pub queue : List ℕ

-- such buffers from the slices
abbrev pub buffers_of : List ℕ → List ℕ → List ℕ → List ℕ → List ℕ → List ℕ → Buffers
buffers_of n x o h l q = record { nodes = n; matrix = x; offsets = o; heads = h; labels = l; queue = q }

-- such buffers of the structs of the code
abbrev pub buffers_in : Table → Scratch → Buffers
buffers_in t s = buffers_of t.nodes.now t.matrix.now s.offsets.now s.heads.now s.labels.now s.queue.now

-- the same slices are lent as before
abbrev pub SameTable : Table → Table → Type 0
SameTable t u = (u.nodes.ghost_name ≡ t.nodes.ghost_name) × (u.matrix.ghost_name ≡ t.matrix.ghost_name)

abbrev pub SameScratch : Scratch → Scratch → Type 0
SameScratch s t =
    (t.offsets.ghost_name ≡ s.offsets.ghost_name) × (t.heads.ghost_name ≡ s.heads.ghost_name)
    × (t.labels.ghost_name ≡ s.labels.ghost_name) × (t.queue.ghost_name ≡ s.queue.ghost_name)

-- is each buffer as long as its part used? Of scratch that is 3m + 2 + a entries
unfoldable pub long_enough : ℕ → ℕ → ℕ → Buffers → Bool
long_enough m a p b =
    leb p (length b.nodes)
    && (leb (p * p) (length b.matrix)
    && (leb (m + 1) (length b.offsets)
    && (leb a (length b.heads)
    && (leb m (length b.labels)
    && leb (m + 1) (length b.queue)))))

-- nothing that refusal 1 names
abbrev pub enough : {C : Type 0} → Net C → Buffers → Bool
enough g b = whole_net g && long_enough g.bound (most_arcs_of g) (width g) b

-- the hops: in row i and column j the least number of arcs of a walk from the i-th node to the j-th,
-- or none without a walk; entries past p * p as before
pub record Matrix {C : Type 0} (g : Net C) (before after : List ℕ) : Type 0 where
  pub long : length after ≡ length before
  pub each : (i j : ℕ) → i < width g → j < width g
      → Entry (LeadsOf g) (get_or (nodes_of g) i 0) (get_or (nodes_of g) j 0) (get_or after (i * width g + j) 0)
  pub rest : drop (width g * width g) after ≡ drop (width g * width g) before

-- what is left after 0: the nodes, a matrix, zero in the needed part of each scratch slice, and every rest as before
abbrev pub left : {C : Type 0} → Net C → Buffers → List ℕ → Buffers
left g b x = record {
  nodes = nodes_of g ++ drop (width g) b.nodes;
  matrix = x;
  offsets = filled (g.bound + 1) 0 b.offsets;
  heads = filled (most_arcs_of g) 0 b.heads;
  labels = filled g.bound 0 b.labels;
  queue = filled (g.bound + 1) 0 b.queue;
}

-- what a call leaves: how many nodes are listed, returned beside the number, and the buffers
pub record Result : Type 0 where
  pub count : ℕ
  pub buffers : Buffers

-- the same, of its parts
abbrev pub result_of : ℕ → Buffers → Result
result_of p e = record { count = p; buffers = e }

-- the table: what the call leaves is y, of the map g and the buffers b that it was lent
abbrev pub table : {C : Type 0} → Net C → Buffers → List (Row Result)
table g b =
    -- 1: a limit is passed, or a lent slice is shorter than its part used; untouched, and the count 0
    row 1 (fails (enough g b)) (λ y. y ≡ result_of 0 b)
    -- 2: a link names an index at or above m, or absent; untouched, and the count 0
    ∷ row 2 (fails (inside_net g)) (λ y. y ≡ result_of 0 b)
    -- 0: the p nodes and the matrix of hops
    ∷ done (λ y. Matrix g b.matrix y.buffers.matrix × (y ≡ result_of (width g) (left g b y.buffers.matrix)))
    ∷ []

-- the `number`, the length `p` of the node list and the buffers `e` that the call leaves are those of the first row that holds
pub record Promise {C : Type 0} (g : Net C) (b e : Buffers) (number p : ℕ) : Type 0 where
  pub follows : Follows (table g b) (result_of p e) number
