-- Lent slices of which only the part used may change.
-- Assumes nothing.
use Rattle.std.specs.Prelude.{◌≡◌, List, ℕ, ◌+◌, ◌≤◌, length, drop}
use Rattle.rows.specs.Rows.{Lists}

-- the length stays, and so do the entries from n on
pub record Kept {A : Type 0} (n : ℕ) (before after : List A) : Type 0 where
  pub long : length after ≡ length before
  pub rest : drop n after ≡ drop n before

-- the slices of a neighbour list, with m rows and a arcs in the part used
pub record KeptLists {C : Type 0} (m a : ℕ) (before after : Lists C) : Type 0 where
  pub offsets : Kept (m + 1) before.offsets after.offsets
  pub heads : Kept a before.heads after.heads
  pub weights : Kept a before.weights after.weights

-- they are long enough
pub record EnoughLists {C : Type 0} (m a : ℕ) (s : Lists C) : Type 0 where
  pub offsets : m + 1 ≤ length s.offsets
  pub heads : a ≤ length s.heads
  pub weights : a ≤ length s.weights
