-- The search on the first entries of longer lists, and the answer to the question without heuristic and target.
-- Assumes nothing.
use Rattle.std.specs.Prelude.{◌≡◌, List, ℕ, ◌≤◌, ℤ}
use Rattle.whole.specs.Zed.{P}
use Rattle.clean.specs.Fill.{Settled}
use Rattle.walks.specs.Walk.{Total}
use Rattle.rows.specs.Rows.{Lists}
use Rattle.rows.specs.RowArc.{RowArc, Sound}
use Rattle.pending.specs.Reach.{BadInReach}
use Rattle.turns.specs.Memory.{Memory}
use Rattle.turns.specs.Firsts.{Ran as RanBy}
use Rattle.search.specs.Ints.{guided, target_of, dear, Asked}

-- the search is over on the first entries
abbrev pub Ran : Asked → Lists ℤ → Memory ℤ → Memory ℤ → ℕ → ℕ → Type 0
Ran q nb M M' number takes = RanBy (guided q.guess) q.bound (target_of q.bound q.target) q.source nb M M' number takes

-- a neighbour list whose costs the search can add up
pub record Cheap (m : ℕ) (nb : Lists ℤ) : Type 0 where
  pub rows : Sound m nb
  pub cheap : (u v : ℕ) (c : ℤ) → RowArc m nb u v c → P c ≤ dear

-- the distances from s after the question without heuristic and target: 0 with every least total, or 6 with an arc below zero in reach
pub data ToAll (Arc : ℕ → ℕ → ℤ → Type 0) (m s : ℕ) (before after : List ℤ) (number : ℕ) : Type 0 where
  done : number ≡ 0 → (BadInReach Arc s → ⊥) → Settled m (Total Arc s) before after → ToAll Arc m s before after number
  bad : number ≡ 6 → BadInReach Arc s → ToAll Arc m s before after number
