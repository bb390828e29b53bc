-- What `dijkstra_path_impl` and `dijkstra_path_f64` promise, to be laid beside 01.
-- Assumes nothing.
use Rattle.std.specs.Prelude.{◌≡◌, Bool, ◌&&◌, List, [], ◌∷◌, ℕ}
use Rattle.std.proofs.Math.Option.{none}
use Rattle.numbers.specs.Numbers.{Row, row, done, fails, holds, Follows}
use Rattle.clean.specs.Fill.{filled, Settled}
use Rattle.clean.specs.None.{none_f64, none_u32, shown}
use Rattle.float.specs.Cutoff.{Cutoff, past}
use Rattle.table.specs.declared.FloatCost.{FloatCost}
use Rattle.net.specs.Net.{Net, whole_net, inside_net, has, most_arcs_of}
use Rattle.rows.specs.Rows.{Lists, lists_of, lists_in, open_rows}
use Rattle.rows.specs.declared.Lists as lent
use Rattle.rows.specs.Scratch.{has_lists, wiped}
use Rattle.pending.specs.Setting.{End}
use Rattle.pending.specs.Literal.{start, Ends}
use Rattle.pending.specs.Floats.{search64}
use Rattle.turns.specs.Memory.{Memory, memory_of}
use Rattle.search.specs.Lists.{has_memory, memory_in}
use Rattle.search.specs.declared.Memory as found

-- the lent buffers: the neighbour list, and what the search writes, with the answers in it: distances, as patterns, and predecessors
pub record Buffers : Type 0 where
  pub rows : Lists ℕ
  pub memory : Memory ℕ

-- these from their slices
abbrev pub buffers_of : List ℕ → List ℕ → List ℕ → List ℕ → List ℕ → List ℕ → List ℕ → List ℕ → Buffers
buffers_of d p o h w q i k = record { rows = lists_of o h w; memory = memory_of d p q i k }

-- these from what holds them in the code
abbrev pub buffers_in : lent.Lists ℕ → found.Memory ℕ → Buffers
buffers_in l M = record { rows = lists_in l; memory = memory_in M }

-- is each buffer as long as the part used? 4m + 1 + 2a entries of scratch in all
unfoldable pub long_enough : ℕ → ℕ → Buffers → Bool
long_enough m a b = has_lists m a b.rows && has_memory m b.memory

-- nothing that refusal 1 names
abbrev pub enough : Net FloatCost → Buffers → Bool
enough g b = whole_net g && long_enough g.bound (most_arcs_of g) b

-- after 0 and 6: the needed part of each scratch slice is all zero and the rest as before; the answers are d and p
abbrev pub left : Net FloatCost → Buffers → List ℕ → List ℕ → Buffers
left g b d p =
    let m = g.bound in
    let M = b.memory in
    let memory = memory_of d p (filled m 0 M.peaks) (filled m 0 M.words) (filled m 0 M.keys) in
    record { rows = wiped m (most_arcs_of g) 0 b.rows; memory = memory }

-- blank: none in every entry used, and entries past m as before
abbrev pub blank : Net FloatCost → Buffers → Buffers
blank g b = left g b (filled g.bound none_f64 b.memory.dist) (filled g.bound none_u32 b.memory.preds)

-- what the pending bag ends in, from the source, with the cutoff, over the open arcs of the map
pub record EndsIn (g : Net FloatCost) (s : ℕ) (k : Cutoff) (x : End ℕ) : Type 0 where
  pub run : Ends (search64 (past k) none s) (open_rows g) (start (search64 (past k) none s)) x

-- each index below m shows its distance and its predecessor, none where it has none; entries past m as before
pub record Answers (m : ℕ) (x : End ℕ) (b e : Buffers) : Type 0 where
  pub dist : Settled m (λ v d. d ≡ shown none_f64 (x.dist v)) b.memory.dist e.memory.dist
  pub preds : Settled m (λ v p. p ≡ shown none_u32 (x.pred v)) b.memory.preds e.memory.preds

-- the table: what the call leaves is e, of the map g, the source s, the cutoff k and the buffers b that it was lent
abbrev pub table : Net FloatCost → ℕ → Cutoff → Buffers → List (Row Buffers)
table g s k b =
    -- 1: a limit is passed, or a lent slice is shorter than the part used; untouched
    row 1 (fails (enough g b)) (λ e. e ≡ b)
    -- 2: a link names an index at or above m, or absent; untouched
    ∷ row 2 (fails (inside_net g)) (λ e. e ≡ b)
    -- 3: a source that is absent or at or above m; untouched
    ∷ row 3 (fails (has g s)) (λ e. e ≡ b)
    -- 6: the pending bag meets a bad cost; blank
    ∷ row 6 (holds ((x : End ℕ) × EndsIn g s k x × (x.number ≡ 6))) (λ e. e ≡ blank g b)
    -- 0: the distances and predecessors of what the pending bag ends in
    ∷ done (λ e. (x : End ℕ) × EndsIn g s k x × (x.number ≡ 0) × Answers g.bound x b e
    × (e ≡ left g b e.memory.dist e.memory.preds))
    ∷ []

-- the `number` and the buffers `e` that the call leaves are those of the first row whose condition holds
pub record Promise (g : Net FloatCost) (s : ℕ) (k : Cutoff) (b e : Buffers) (number : ℕ) : Type 0 where
  pub follows : Follows (table g s k b) e number
