-- What `a_star` promises.
-- Assumes nothing.
use Rattle.std.specs.Prelude.{◌≡◌, Bool, true, not, ◌&&◌, ◌||◌, List, [], ◌∷◌, ◌++◌, reverse, ℕ, zero, suc, ◌-◌, ◌<◌, ◌^◌, leb, ℤ, pos}
use Rattle.std.specs.Prelude.{negsuc, length, get_or, drop}
use Rattle.std.proofs.Math.Option.{none, some}
use Rattle.std.specs.Int.Signed.{le_z}
use Rattle.numbers.specs.Numbers.{Row, row, done, fails, holds, Follows}
use Rattle.clean.specs.Fill.{filled}
use Rattle.clean.specs.None.{none_i64, none_u32}
use Rattle.walks.specs.Chain.{Chain, passed}
use Rattle.pending.specs.Setting.{Setting, End}
use Rattle.pending.specs.Literal.{start, Ends}
use Rattle.pending.specs.Ints.{a_star}
use Rattle.net.specs.Net.{Net, ArcOf, whole_net, inside_net, has, most_arcs_of}
use Rattle.rows.specs.Rows.{Lists, lists_of, rows_of}
use Rattle.rows.specs.Scratch.{has_lists, wiped}
use Rattle.turns.specs.Memory.{Memory, memory_of}
use Rattle.search.specs.Lists.{has_memory, wiped_memory}
use Rattle.std.specs.Prelude.{Result as Given, Ok, Err, Option, Some, None}
use Rattle.numbers.specs.Refusal.{no_of}
use Rattle.numbers.specs.declared.Refusal.{Refusal}
use Rattle.rows.specs.declared.Lists as code
use Rattle.search.specs.declared.Memory as memory_code
use Rattle.a_star.specs.declared.Route.{Route}

-- the question: where from, where to, and a heuristic for each index
pub record Question : Type 0 where
  pub source : ℕ
  pub target : ℕ
  pub guess : List ℤ

-- the same, of its parts
abbrev pub question_of : ℕ → ℕ → List ℤ → Question
question_of s t h = record { source = s; target = t; guess = h }

-- the answer: the number, the cost, and how many indices the path has
pub record Answer : Type 0 where
  pub number : ℕ
  pub cost : ℤ
  pub length : ℕ

-- the same, of its parts
abbrev pub answer_of : ℕ → ℤ → ℕ → Answer
answer_of k d n = record { number = k; cost = d; length = n }

-- the same, of what the code gives: a path or none, or why it is refused
abbrev pub answer_in : Given (Option Route) Refusal → Answer
answer_in (Ok (Some r)) = answer_of 0 r.cost r.length
answer_in (Ok None) = answer_of 0 none_i64 0
answer_in (Err e) = answer_of (no_of e) none_i64 0

-- a path that is given has an index
abbrev pub HasIndex : Given (Option Route) Refusal → Type 0
HasIndex (Ok (Some r)) = 0 < r.length
HasIndex (Ok None) = Unit {0}
HasIndex (Err e) = Unit {0}

-- the lent scratch: the neighbour list and the lists that the search writes
pub record Scratch : Type 0 where
  pub rows : Lists ℤ
  pub memory : Memory ℤ

-- the lent buffers: the path and the scratch
pub record Buffers : Type 0 where
  pub path : List ℕ
  pub scratch : Scratch

-- the scratch of the lent slices
abbrev pub scratch_of : List ℕ → List ℕ → List ℤ → List ℤ → List ℕ → List ℕ → List ℕ → List ℤ → Scratch
scratch_of o h w d p q i k = record { rows = lists_of o h w; memory = memory_of d p q i k }

-- all of them, of the lent slices
abbrev pub buffers_of : List ℕ → List ℕ → List ℕ → List ℤ → List ℤ → List ℕ → List ℕ → List ℕ → List ℤ → Buffers
buffers_of l o h w d p q i k = record { path = l; scratch = scratch_of o h w d p q i k }

-- both from the slices that are lent in the structs of the code
abbrev pub scratch_in : code.Lists ℤ → memory_code.Memory ℤ → Scratch
scratch_in l m = scratch_of l.offsets.now l.heads.now l.weights.now m.dist.now m.preds.now m.peaks.now m.words.now m.keys.now

abbrev pub buffers_in : List ℕ → code.Lists ℤ → memory_code.Memory ℤ → Buffers
buffers_in p l m = record { path = p; scratch = scratch_in l m }

-- ---- the refusals
-- is each slice as long as its part used? Of scratch that is 6m + 1 + 2a entries
unfoldable pub long_enough : ℕ → ℕ → List ℤ → Buffers → Bool
long_enough m a h b = leb m (length h) && (leb m (length b.path) && (has_lists m a b.scratch.rows && has_memory m b.scratch.memory))

-- nothing that refusal 1 names
abbrev pub enough : Net ℤ → Question → Buffers → Bool
enough g q b = whole_net g && long_enough g.bound (most_arcs_of g) q.guess b

-- is a heuristic within -2^42 ..= 2^42?
unfoldable pub is_fair : ℤ → Bool
is_fair z = le_z (negsuc (2 ^ 42 - 1)) z && le_z z (pos (2 ^ 42))

-- is it at k, if f holds there? Other entries are not looked at
unfoldable pub fair_at : (ℕ → Bool) → List ℤ → ℕ → Bool
fair_at f h k = not (f k) || is_fair (get_or h k (pos 0))

-- is it at each index below k?
abbrev pub fair_below : (ℕ → Bool) → List ℤ → ℕ → Bool
fair_below f h zero = true
fair_below f h (suc k) = fair_below f h k && fair_at f h k

-- nothing that refusal 5 names
abbrev pub fair_guess : Net ℤ → List ℤ → Bool
fair_guess g h = fair_below (has g) h g.bound

-- nothing that refusals 1 to 5 name
pub record Fine (g : Net ℤ) (q : Question) (b : Buffers) : Type 0 where
  pub enough : enough g q b ≡ true
  pub inside : inside_net g ≡ true
  pub source : has g q.source ≡ true
  pub target : has g q.target ≡ true
  pub fair : fair_guess g q.guess ≡ true

-- ---- what the call leaves
-- a path at the front of a slice, the rest as it was
unfoldable pub at_front : List ℕ → List ℕ → List ℕ
at_front l p = l ++ drop (length l) p

-- the needed part of each scratch slice is all zero, and the rest as before
abbrev pub wiped_all : ℕ → ℕ → Scratch → Scratch
wiped_all m a s = record { rows = wiped m a (pos 0) s.rows; memory = wiped_memory m s.memory }

-- a path from the first entry on and none after its end up to m; the scratch wiped
abbrev pub left : Net ℤ → Buffers → List ℕ → Buffers
left g b l = record { path = at_front l (filled g.bound none_u32 b.path); scratch = wiped_all g.bound (most_arcs_of g) b.scratch }

-- ---- the answer
-- the pending bag's search for the question: the heuristic of an index is what its entry says
abbrev pub search_of : Question → Setting ℤ ℤ
search_of q = a_star (λ v. get_or q.guess v (pos 0)) q.source q.target

-- what 01's pending bag ends in, for the question, over the rows of the map
pub record EndsIn (g : Net ℤ) (q : Question) (x : End ℤ) : Type 0 where
  pub run : Ends (search_of q) (rows_of g) (start (search_of q)) x

-- what the search's end x says: the cost d, and the path l by the predecessors, its first index first
pub data Says (Arc : ℕ → ℕ → ℤ → Type 0) (q : Question) (x : End ℤ) (d : ℤ) (l : List ℕ) : Type 0 where
  -- the target has no distance: cost none, and no path
  unreached : x.dist q.target ≡ none → d ≡ none_i64 → l ≡ [] → Says Arc q x d l
  -- the cost is the target's distance, and the path goes back from the target to the source
  reached : x.dist q.target ≡ some d → (c : Chain Arc q.source x.dist x.pred q.target) → l ≡ reverse (passed c)
      → Says Arc q x d l

-- what a call leaves: the cost and how many indices the path has, both returned beside the number, and the buffers
pub record Result : Type 0 where
  pub cost : ℤ
  pub length : ℕ
  pub buffers : Buffers

-- the same, of the answer and the buffers
abbrev pub result_of : Answer → Buffers → Result
result_of r e = record { cost = r.cost; length = r.length; buffers = e }

-- without a path: cost none, length 0
abbrev pub no_path : Buffers → Result
no_path e = record { cost = none_i64; length = 0; buffers = e }

-- with the cost d and the path l
abbrev pub with_path : Net ℤ → Buffers → ℤ → List ℕ → Result
with_path g b d l = record { cost = d; length = length l; buffers = left g b l }

-- the search was run: what it ends in, what that says, and so what is left
pub record Outcome (g : Net ℤ) (q : Question) (b : Buffers) (y : Result) : Type 0 where
  pub end : End ℤ
  pub ends : EndsIn g q end
  pub cost : ℤ
  pub path : List ℕ
  pub says : Says (ArcOf g) q end cost path
  pub leaves : y ≡ with_path g b cost path

-- the table: what the call leaves is y, of the map g, the question q and the buffers b that it was lent. Of leastness it says nothing:
-- with the arcs 0→1 5, 0→2 6, 2→1 −3, heuristic 0 and target 1 it gives 0 with cost 5, though 3 is least, since the arc below zero is not
-- looked at
abbrev pub table : Net ℤ → Question → Buffers → List (Row Result)
table g q b =
    -- 1: a limit is passed, or a lent slice is shorter than the part used; untouched
    row 1 (fails (enough g q b)) (λ y. y ≡ no_path b)
    -- 2: a link names an index at or above m, or absent; untouched
    ∷ row 2 (fails (inside_net g)) (λ y. y ≡ no_path b)
    -- 3: the source is absent or at or above m; untouched
    ∷ row 3 (fails (has g q.source)) (λ y. y ≡ no_path b)
    -- 4: the target is; untouched
    ∷ row 4 (fails (has g q.target)) (λ y. y ≡ no_path b)
    -- 5: some index that the map has has a heuristic outside -2^42 ..= 2^42; untouched
    ∷ row 5 (fails (fair_guess g q.guess)) (λ y. y ≡ no_path b)
    -- 6: the pending bag looks at an arc of cost below zero; blank, a path of no index
    ∷ row 6 (holds ((x : End ℤ) × EndsIn g q x × (x.number ≡ 6))) (λ y. y ≡ with_path g b none_i64 [])
    -- 0: what the pending bag ends in says the cost and the path
    ∷ done (Outcome g q b)
    ∷ []

-- the answer r and the buffers e that the call leaves are those of the first row whose condition holds
pub record Promise (g : Net ℤ) (q : Question) (b e : Buffers) (r : Answer) : Type 0 where
  pub follows : Follows (table g q b) (result_of r e) r.number
