-- What the parts of the public functions promise them: the refusals, the scratch cleared, the map solved by its ends alone.
-- Assumes nothing.
use Rattle.std.specs.Prelude.{◌≡◌, Bool, true, List, ◌++◌, ℕ, ◌+◌, ◌*◌, ◌≤◌, length, drop}
use Rattle.numbers.specs.Tests.{first_no}
use Rattle.clean.specs.Fill.{filled}
use Rattle.table.specs.Links.{ends}
use Rattle.table.specs.Lent.{room_ends}
use Rattle.net.specs.Net.{Net, nodes_of, width, inside_net, most_arcs_of}
use Rattle.rows.specs.Rows.{Ready}
use Rattle.net.specs.declared.Lent.{Lent}
use Rattle.hops.specs.declared.Table.{Table}
use Rattle.hops.specs.declared.Scratch.{Scratch}
use Rattle.hops.specs.Promise.{Buffers, buffers_in, Matrix, left, table}

-- refusal 1, then 2, else 0
unfoldable pub refusal_no : {C : Type 0} → Net C → Buffers → ℕ
refusal_no g b = first_no 2 (table g b)

-- a map without its costs
abbrev pub net_ends : ℕ → ℕ → Bool → List ℕ → List ℕ → List ℕ → Net Unit
net_ends m n d marks xs ys = record { bound = m; count = n; directed = d; room = room_ends xs ys; marks = marks; table = ends xs ys }

-- the same of a lent map of any kind
abbrev pub ends_in : {D : Type 0} → Lent D → Net Unit
ends_in l = net_ends l.map.bound l.map.count l.map.directed l.marks.now l.from.now l.to.now

-- the buffers are as long as their parts used
pub record Fits (m a p : ℕ) (b : Buffers) : Type 0 where
  pub nodes : p ≤ length b.nodes
  pub matrix : p * p ≤ length b.matrix
  pub offsets : m + 1 ≤ length b.offsets
  pub heads : a ≤ length b.heads
  pub labels : m ≤ length b.labels
  pub queue : m + 1 ≤ length b.queue

-- what a map must be before it is solved
pub record Ripe (m n : ℕ) (d : Bool) (marks xs ys : List ℕ) (b : Buffers) : Type 0 where
  pub ready : Ready m n xs ys
  pub marked : m ≤ length marks
  pub inside : inside_net (net_ends m n d marks xs ys) ≡ true
  pub fits : Fits m (most_arcs_of (net_ends m n d marks xs ys)) (width (net_ends m n d marks xs ys)) b

-- the same, of a lent map of any kind and the structs of the code
abbrev pub RipeIn : {D : Type 0} → Lent D → Table → Scratch → Type 0
RipeIn l t s = Ripe l.map.bound l.map.count l.map.directed l.marks.now l.from.now l.to.now (buffers_in t s)

-- a map solved: the answer, and the length and the rest of each scratch slice as before
pub record Solved {C : Type 0} (g : Net C) (b e : Buffers) (p : ℕ) : Type 0 where
  pub count : p ≡ width g
  pub nodes : e.nodes ≡ nodes_of g ++ drop (width g) b.nodes
  pub matrix : Matrix g b.matrix e.matrix
  pub long_o : length e.offsets ≡ length b.offsets
  pub long_h : length e.heads ≡ length b.heads
  pub long_l : length e.labels ≡ length b.labels
  pub long_q : length e.queue ≡ length b.queue
  pub offsets : drop (g.bound + 1) e.offsets ≡ drop (g.bound + 1) b.offsets
  pub heads : drop (most_arcs_of g) e.heads ≡ drop (most_arcs_of g) b.heads
  pub labels : drop g.bound e.labels ≡ drop g.bound b.labels
  pub queue : drop (g.bound + 1) e.queue ≡ drop (g.bound + 1) b.queue

-- the scratch is as long as its part used
pub record EnoughScratch (m a : ℕ) (o h l q : List ℕ) : Type 0 where
  pub bounded : m ≤ 1024
  pub offsets : m + 1 ≤ length o
  pub heads : a ≤ length h
  pub labels : m ≤ length l
  pub queue : m + 1 ≤ length q

-- the part used of each scratch slice is all zero, and the rest as before
pub record Wiped (m a : ℕ) (o h l q o' h' l' q' : List ℕ) : Type 0 where
  pub offsets : o' ≡ filled (m + 1) 0 o
  pub heads : h' ≡ filled a 0 h
  pub labels : l' ≡ filled m 0 l
  pub queue : q' ≡ filled (m + 1) 0 q

-- the answer, with the scratch cleared
pub record Answered {C : Type 0} (g : Net C) (b e : Buffers) (p : ℕ) : Type 0 where
  pub count : p ≡ width g
  pub matrix : Matrix g b.matrix e.matrix
  pub left : e ≡ left g b e.matrix
