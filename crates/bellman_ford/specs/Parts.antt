-- What the parts of the public function promise it: the refusals, the scratch cleared, the map solved.
-- Assumes nothing.
use Rattle.std.specs.Prelude.{◌≡◌, Bool, true, false, ℕ, ◌≤◌, ◌<◌, ℤ, pos, length, get_or}
use Rattle.numbers.specs.Tests.{first_no}
use Rattle.walks.specs.Walk.{NoNeg, NegativeFrom, Entry}
use Rattle.net.specs.Net.{Net, ArcOf, whole_net, inside_net, has, most_arcs_of}
use Rattle.rows.specs.Kept.{KeptLists, EnoughLists}
use Rattle.bellman_ford.specs.declared.Ring.{Ring}
use Rattle.bellman_ford.specs.Promise.{Scratch, Buffers, table}
use Rattle.bellman_ford.specs.Search.{Memory, memory_of, KeptMemory, Fresh}

-- refusal 1, then 2, else 0, whatever the source
unfoldable pub refusal_no : Net ℤ → Buffers → ℕ
refusal_no g b = first_no 2 (table g 0 b)

-- the scratch is as long as the part used
pub record EnoughScratch (m a : ℕ) (s : Scratch) : Type 0 where
  pub rows : EnoughLists m a s.rows
  pub queue : m ≤ length s.queue
  pub queued : m ≤ length s.queued
  pub lengths : m ≤ length s.lengths

-- the ring's slices are as long as the part used
abbrev pub EnoughRing : ℕ → Ring → Type 0
EnoughRing m r = (m ≤ length r.queue.now) × (m ≤ length r.queued.now) × (m ≤ length r.lengths.now)

-- the same slices are lent
abbrev pub SameRing : Ring → Ring → Type 0
SameRing r t =
    (t.queue.ghost_name ≡ r.queue.ghost_name) × (t.queued.ghost_name ≡ r.queued.ghost_name)
    × (t.lengths.ghost_name ≡ r.lengths.ghost_name)

-- the lists that the search writes
abbrev pub memory : Buffers → Memory
memory b = memory_of b.dist b.scratch.queue b.scratch.queued b.scratch.lengths

-- what a map must be before it is solved
pub record Ripe (g : Net ℤ) (s : ℕ) (b : Buffers) : Type 0 where
  pub whole : whole_net g ≡ true
  pub inside : inside_net g ≡ true
  pub source : has g s ≡ true
  pub rows : EnoughLists g.bound (most_arcs_of g) b.scratch.rows
  pub fresh : Fresh g.bound (memory b)

-- a map solved: the answer, and the rest of each buffer as before
pub record Solved (g : Net ℤ) (s : ℕ) (b e : Buffers) (negative : Bool) : Type 0 where
  pub yes : negative ≡ true → NegativeFrom (ArcOf g) s
  pub no : negative ≡ false → NoNeg (ArcOf g) s × ((v : ℕ) → v < g.bound → Entry (ArcOf g) s v (get_or e.dist v (pos 0)))
  pub rows : KeptLists g.bound (most_arcs_of g) b.scratch.rows e.scratch.rows
  pub rest : KeptMemory g.bound (memory b) (memory e)
