-- What `bellman_ford` promises.
-- Assumes nothing.
use Rattle.std.specs.Prelude.{◌≡◌, Bool, ◌&&◌, List, [], ◌∷◌, ℕ, leb, ℤ, pos, length}
use Rattle.numbers.specs.Numbers.{Row, row, done, fails, holds, Follows}
use Rattle.clean.specs.Fill.{filled, Settled}
use Rattle.clean.specs.None.{none_i64}
use Rattle.walks.specs.Walk.{NegativeFrom, Entry}
use Rattle.net.specs.Net.{Net, ArcOf, whole_net, inside_net, has, most_arcs_of}
use Rattle.rows.specs.Rows.{Lists, lists_of}
use Rattle.rows.specs.Scratch.{has_lists, wiped}
use Rattle.rows.specs.declared.Lists as code
use Rattle.bellman_ford.specs.declared.Ring.{Ring}

-- the lent scratch: the neighbour list, the ring of waiting indices, the marks of those that wait, the path lengths
pub record Scratch : Type 0 where
  pub rows : Lists ℤ
  pub queue : List ℕ
  pub queued : List ℕ
  pub lengths : List ℕ

-- such scratch from its slices
abbrev pub scratch_of : List ℕ → List ℕ → List ℤ → List ℕ → List ℕ → List ℕ → Scratch
scratch_of o h w q i l = record { rows = lists_of o h w; queue = q; queued = i; lengths = l }

-- the lent buffers: the distances and the scratch
pub record Buffers : Type 0 where
  pub dist : List ℤ
  pub scratch : Scratch

-- such buffers from their slices
abbrev pub buffers_of : List ℤ → List ℕ → List ℕ → List ℤ → List ℕ → List ℕ → List ℕ → Buffers
buffers_of d o h w q i l = record { dist = d; scratch = scratch_of o h w q i l }

-- these from the slices that are lent in the structs of the code
abbrev pub buffers_in : List ℤ → code.Lists ℤ → Ring → Buffers
buffers_in d l r = buffers_of d l.offsets.now l.heads.now l.weights.now r.queue.now r.queued.now r.lengths.now

-- is each buffer as long as its part used? Of scratch that is 4m + 1 + 2a entries
unfoldable pub long_enough : ℕ → ℕ → Buffers → Bool
long_enough m a b =
    has_lists m a b.scratch.rows
    && (leb m (length b.dist)
    && (leb m (length b.scratch.queue)
    && (leb m (length b.scratch.queued)
    && leb m (length b.scratch.lengths))))

-- nothing that refusal 1 names
abbrev pub enough : Net ℤ → Buffers → Bool
enough g b = whole_net g && long_enough g.bound (most_arcs_of g) b

-- the needed part of each scratch slice is all zero, and the rest as before
abbrev pub wiped_all : ℕ → ℕ → Scratch → Scratch
wiped_all m a s = record {
  rows = wiped m a (pos 0) s.rows;
  queue = filled m 0 s.queue;
  queued = filled m 0 s.queued;
  lengths = filled m 0 s.lengths;
}

-- so it is after 0 and 7
abbrev pub clear : Net ℤ → Buffers → Scratch
clear g b = wiped_all g.bound (most_arcs_of g) b.scratch

-- blank: none in every distance used, and entries past m as before
abbrev pub blank : Net ℤ → Buffers → Buffers
blank g b = record { dist = filled g.bound none_i64 b.dist; scratch = clear g b }

-- the table, of the map g, the source s and the buffers b that the call was lent; e is what it leaves in them
abbrev pub table : Net ℤ → ℕ → Buffers → List (Row Buffers)
table g s b =
    -- 1: a limit is passed, or a lent slice is shorter than the part used; untouched
    row 1 (fails (enough g b)) (λ e. e ≡ b)
    -- 2: a link names an index at or above m, or absent; untouched
    ∷ row 2 (fails (inside_net g)) (λ e. e ≡ b)
    -- 0: a source that is absent or at or above m; every distance none
    ∷ row 0 (fails (has g s)) (λ e. e ≡ blank g b)
    -- 7: a closed walk below zero in reach of the source; blank
    ∷ row 7 (holds (NegativeFrom (ArcOf g) s)) (λ e. e ≡ blank g b)
    -- 0: at each index the least total of a walk from the source, or none without a walk
    ∷ done (λ e. Settled g.bound (Entry (ArcOf g) s) b.dist e.dist × (e.scratch ≡ clear g b))
    ∷ []

-- the `number` and the buffers `e` that the call leaves are those of the first row whose condition holds
pub record Promise (g : Net ℤ) (s : ℕ) (b e : Buffers) (number : ℕ) : Type 0 where
  pub follows : Follows (table g s b) e number
