-- What a path that `a_star` gives is, and what 01 asks of a heuristic for the least total.
-- Assumes nothing.
use Rattle.std.specs.Prelude.{◌≡◌, true, List, reverse, ℕ, ◌≤◌, ℤ, pos, ◌≤ℤ◌, length, get_or, take}
use Rattle.walks.specs.Pigeon.{NoDup}
use Rattle.walks.specs.Walk.{Walk, Least}
use Rattle.walks.specs.Chain.{Path, Cheapest}
use Rattle.net.specs.Net.{Net, ArcOf, has, width}
use Rattle.a_star.specs.Promise.{Question, Answer, Buffers}

-- the path that is given: as many entries as the answer says
abbrev pub path_in : Buffers → Answer → List ℕ
path_in e r = take r.length e.path

-- 0 at the target, and at each index of the map no more than the total of any walk from there to the target
pub record Modest (g : Net ℤ) (q : Question) : Type 0 where
  pub at_target : get_or q.guess q.target (pos 0) ≡ pos 0
  pub under : (v : ℕ) → has g v ≡ true → (t : ℤ) → Walk (ArcOf g) v q.target t → get_or q.guess v (pos 0) ≤ℤ t

-- what a path that is given is: its total is that with the cheapest arc at each step
pub record Given (g : Net ℤ) (q : Question) (r : Answer) (l : List ℕ) : Type 0 where
  pub path : Path (ArcOf g) q.source q.target l
  pub distinct : NoDup l
  pub few : length l ≤ width g
  pub walk : Walk (ArcOf g) q.source q.target r.cost
  pub total : ℤ
  pub cheapest : Cheapest (ArcOf g) (reverse l) total
  pub low : total ≤ℤ r.cost
  pub least : Modest g q → Least (ArcOf g) q.source q.target r.cost
  pub meets : Modest g q → total ≡ r.cost
