-- What the parts of the public function promise it: the refusals, the search, the answer read off its lists.
-- Assumes nothing.
use Rattle.std.specs.Prelude.{◌≡◌, Bool, true, false, cond, List, ℕ, ◌-◌, ◌≤◌, ◌<◌, ℤ, length, get_or, take}
use Rattle.std.specs.Int.Signed.{lt_z}
use Rattle.numbers.specs.Tests.{first_no}
use Rattle.clean.specs.Fill.{filled}
use Rattle.clean.specs.None.{none_i64, none_u32}
use Rattle.pending.specs.Setting.{End}
use Rattle.pending.specs.OnePlace.{begin, Ends}
use Rattle.net.specs.Net.{Net, net_of, inside_net, has}
use Rattle.rows.specs.Kept.{KeptLists, EnoughLists}
use Rattle.turns.specs.Memory.{Shows}
use Rattle.turns.specs.Firsts.{firsts, EnoughMemory, KeptMemory}
use Rattle.a_star.specs.Promise.{Question, Answer, answer_of, Scratch, Buffers, fair_guess, Fine, at_front}
use Rattle.a_star.specs.Promise.{search_of, result_of, Outcome, table}
use Rattle.a_star.specs.Trail.{trail, GoesBack}

-- refusals 2 to 5 in this order, else 0
unfoldable pub question_no : Net ℤ → Question → ℕ
question_no g q = cond (inside_net g) (cond (has g q.source) (cond (has g q.target) (cond (fair_guess g q.guess) 0 5) 4) 3) 2

-- refusals 1 to 5 in the table's order, else 0
unfoldable pub refusal_no : Net ℤ → Question → Buffers → ℕ
refusal_no g q b = first_no 5 (table g q b)

-- the scratch is as long as the part used
pub record EnoughScratch (m a : ℕ) (s : Scratch) : Type 0 where
  pub rows : EnoughLists m a s.rows
  pub memory : EnoughMemory m s.memory

-- what a table must be before it is solved: by some marks it is not refused
pub record Ripe (m n : ℕ) (d : Bool) (xs ys : List ℕ) (cs : List ℤ) (q : Question) (b : Buffers) : Type 0 where
  pub marks : List ℕ
  pub fine : Fine (net_of m n d marks xs ys cs) q b

-- what it must be for the search, whatever the path's slice is
pub record CanSeek (m n : ℕ) (d : Bool) (xs ys : List ℕ) (cs : List ℤ) (q : Question) (s : Scratch) : Type 0 where
  pub path : List ℕ
  pub ripe : Ripe m n d xs ys cs q (record { path = path; scratch = s })

-- the search is over: its end, which the lists show, and the rest of each list as before
pub record Sought (Arc : ℕ → ℕ → ℤ → Type 0) (m a : ℕ) (q : Question) (s t : Scratch) (number : ℕ) : Type 0 where
  pub end : End ℤ
  pub ends : Ends (search_of q) Arc (begin (search_of q)) 0 end
  pub is : number ≡ end.number
  pub shows : number ≡ 0 → Shows none_i64 end (firsts m t.memory)
  pub rows : KeptLists m a s.rows t.rows
  pub memory : KeptMemory m s.memory t.memory

-- without a path: cost none, length 0
abbrev pub without : ℕ → Answer
without k = answer_of k none_i64 0

-- has v a distance?
unfoldable pub given : List ℤ → ℕ → Bool
given ds v = lt_z none_i64 (get_or ds v none_i64)

-- the lists that an answer is read off: where the target has a distance, the predecessors lead back from it
pub record Told (number m s t : ℕ) (ds : List ℤ) (ps l : List ℕ) : Type 0 where
  pub bounded : m ≤ 1024
  pub target : t < m
  pub dist : m ≤ length ds
  pub preds : m ≤ length ps
  pub path : m ≤ length l
  pub back : number ≡ 0 → given ds t ≡ true → GoesBack (take m ps) s (m - 1) t

-- the path back from t by the first m predecessors
abbrev pub path_back : ℕ → List ℕ → ℕ → ℕ → List ℕ
path_back m ps s t = trail (take m ps) s (m - 1) t

-- the answer read off, and the path's slice before and after
pub data Read (number m s t : ℕ) (ds : List ℤ) (ps l l' : List ℕ) (r : Answer) : Type 0 where
  refused : (number ≡ 0 → ⊥) → r ≡ without number → l' ≡ filled m none_u32 l → Read number m s t ds ps l l' r
  nowhere : number ≡ 0 → given ds t ≡ false → r ≡ without 0 → l' ≡ filled m none_u32 l → Read number m s t ds ps l l' r
  found : number ≡ 0 → given ds t ≡ true → r ≡ answer_of 0 (get_or ds t none_i64) (length (path_back m ps s t))
      → l' ≡ at_front (path_back m ps s t) (filled m none_u32 l) → Read number m s t ds ps l l' r

-- the whole call behind the refusals, where no mark is looked at: so whatever the marks are
abbrev pub Solved : ℕ → ℕ → Bool → List ℕ → List ℕ → List ℤ → Question → Buffers → Buffers → Answer → Type 0
Solved m n d xs ys cs q b e r =
    (marks : List ℕ) → (o : Outcome (net_of m n d marks xs ys cs) q b (result_of r e)) × (r.number ≡ o.end.number)
