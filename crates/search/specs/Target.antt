-- The target of a search, as it is given.
-- Assumes nothing.
use Rattle.std.specs.Prelude.{Option as Given, None, Some, ℕ}
use Rattle.std.proofs.Math.Option.{Option, none}
use Rattle.search.specs.Ints.{target_of}

-- a target that is given is one if it is an index below m
abbrev pub target_in : ℕ → Given ℕ → Option ℕ
target_in m None = none
target_in m (Some t) = target_of m t

-- its number, m where none is given
abbrev pub number_in : ℕ → Given ℕ → ℕ
number_in m None = m
number_in m (Some t) = t
