-- The arcs of a neighbour list as a relation, and a list that fits a search.
-- Assumes nothing.
use Rattle.std.specs.Prelude.{◌≡◌, ℕ, ◌+◌, ◌≤◌, ◌<◌, length, get_or}
use Rattle.rows.specs.Rows.{Lists}

-- an arc of the neighbour list: a place of u's row, its head, and its weight, whatever o is read past the end
pub record RowArc {C : Type 0} (m : ℕ) (nb : Lists C) (u v : ℕ) (c : C) : Type 0 where
  pub at : ℕ
  pub index : u < m
  pub from : get_or nb.offsets u 0 ≤ at
  pub to : at < get_or nb.offsets (u + 1) 0
  pub head : get_or nb.heads at 0 ≡ v
  pub cost : (o : C) → get_or nb.weights at o ≡ c

-- the neighbour list of a map with indices below m: every row lies in the lists, and every head is an index
pub record Sound {C : Type 0} (m : ℕ) (nb : Lists C) : Type 0 where
  pub bounded : m ≤ 1024
  pub starts : m < length nb.offsets
  pub heads : (u : ℕ) → u < m → get_or nb.offsets (u + 1) 0 ≤ length nb.heads
  pub weights : (u : ℕ) → u < m → get_or nb.offsets (u + 1) 0 ≤ length nb.weights
  pub inside : (u v : ℕ) (c : C) → RowArc m nb u v c → v < m
