-- What the functions that print an answer ask of their callers.
-- Assumes nothing.
use Rattle.std.specs.Prelude.{List, ℕ, ◌+◌, ◌≤◌, length}

-- the most bytes of an answer: 64 rows of 64 distances
abbrev pub most : ℕ
most = 91712

-- what the functions ask: a map of at most 64 indices, and room for an answer
pub record Fits (bound : ℕ) (marks out : List ℕ) (at : ℕ) : Type 0 where
  pub few : bound ≤ 64
  pub marked : bound ≤ length marks
  pub room : at + most ≤ length out
