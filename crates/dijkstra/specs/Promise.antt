-- What `dijkstra` promises.
-- Assumes nothing.
use Rattle.std.specs.Prelude.{◌≡◌, Bool, ◌&&◌, List, [], ◌∷◌, ℕ, ℤ, pos}
use Rattle.numbers.specs.Numbers.{Row, row, done, fails, holds, Follows}
use Rattle.clean.specs.Fill.{filled, Settled}
use Rattle.clean.specs.None.{none_i64}
use Rattle.walks.specs.Walk.{Entry}
use Rattle.pending.specs.Reach.{BadInReach}
use Rattle.net.specs.Net.{Net, ArcOf, whole_net, inside_net, has, most_arcs_of}
use Rattle.rows.specs.Rows.{Lists, lists_of}
use Rattle.rows.specs.declared.Lists as lent
use Rattle.rows.specs.Scratch.{has_lists, wiped}
use Rattle.turns.specs.Memory.{Memory, memory_of}
use Rattle.search.specs.Lists.{has_memory}
use Rattle.search.specs.declared.Memory as found

-- the lent scratch: the neighbour list, the predecessors, the bag
pub record Scratch : Type 0 where
  pub rows : Lists ℤ
  pub preds : List ℕ
  pub peaks : List ℕ
  pub words : List ℕ
  pub keys : List ℤ

-- this from its slices
abbrev pub scratch_of : List ℕ → List ℕ → List ℤ → List ℕ → List ℕ → List ℕ → List ℤ → Scratch
scratch_of o h w p q i k = record { rows = lists_of o h w; preds = p; peaks = q; words = i; keys = k }

-- the lent buffers: the distances and the scratch
pub record Buffers : Type 0 where
  pub dist : List ℤ
  pub scratch : Scratch

-- these from their slices
abbrev pub buffers_of : List ℤ → List ℕ → List ℕ → List ℤ → List ℕ → List ℕ → List ℕ → List ℤ → Buffers
buffers_of d o h w p q i k = record { dist = d; scratch = scratch_of o h w p q i k }

-- these from what holds them in the code
abbrev pub buffers_in : lent.Lists ℤ → found.Memory ℤ → Buffers
buffers_in l M =
    buffers_of M.dist.now l.offsets.now l.heads.now l.weights.now M.preds.now M.peaks.now M.words.now M.keys.now

-- the lists that the search writes
abbrev pub memory : Buffers → Memory ℤ
memory b = memory_of b.dist b.scratch.preds b.scratch.peaks b.scratch.words b.scratch.keys

-- is each buffer as long as its part used? Of scratch that is 5m + 1 + 2a entries
unfoldable pub long_enough : ℕ → ℕ → Buffers → Bool
long_enough m a b = has_lists m a b.scratch.rows && has_memory m (memory b)

-- nothing that refusal 1 names
abbrev pub enough : Net ℤ → Buffers → Bool
enough g b = whole_net g && long_enough g.bound (most_arcs_of g) b

-- the needed part of each scratch slice is all zero, and the rest as before
abbrev pub wiped_all : ℕ → ℕ → Scratch → Scratch
wiped_all m a s = record {
  rows = wiped m a (pos 0) s.rows;
  preds = filled m 0 s.preds;
  peaks = filled m 0 s.peaks;
  words = filled m 0 s.words;
  keys = filled m (pos 0) s.keys;
}

-- the scratch after 0 and 6
abbrev pub clear : Net ℤ → Buffers → Scratch
clear g b = wiped_all g.bound (most_arcs_of g) b.scratch

-- blank: none in every distance used, and entries past m as before
abbrev pub blank : Net ℤ → Buffers → Buffers
blank g b = record { dist = filled g.bound none_i64 b.dist; scratch = clear g b }

-- the table, of the map g, the source s and the buffers b that the call was lent; e is what it leaves in them
abbrev pub table : Net ℤ → ℕ → Buffers → List (Row Buffers)
table g s b =
    -- 1: a limit is passed, or a lent slice is shorter than the part used; untouched
    row 1 (fails (enough g b)) (λ e. e ≡ b)
    -- 2: a link names an index at or above m, or absent; untouched
    ∷ row 2 (fails (inside_net g)) (λ e. e ≡ b)
    -- 3: a source that is absent or at or above m; untouched
    ∷ row 3 (fails (has g s)) (λ e. e ≡ b)
    -- 6: an arc below zero leaves an index in reach of the source; blank
    ∷ row 6 (holds (BadInReach (ArcOf g) s)) (λ e. e ≡ blank g b)
    -- 0: at each index the least total of a walk from the source, or none without a walk
    ∷ done (λ e. Settled g.bound (Entry (ArcOf g) s) b.dist e.dist × (e.scratch ≡ clear g b))
    ∷ []

-- the `number` and the buffers `e` that the call leaves are those of the first row whose condition holds
pub record Promise (g : Net ℤ) (s : ℕ) (b e : Buffers) (number : ℕ) : Type 0 where
  pub follows : Follows (table g s b) e number
