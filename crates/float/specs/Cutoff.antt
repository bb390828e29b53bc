-- What a cutoff cuts.
-- Assumes nothing.
use Rattle.std.specs.Prelude.{Bool, false, ℕ, Float, Option, None, Some}
use Rattle.std.specs.Float.{inf, binary64}
use Rattle.std.specs.Float.Ieee.{lt, of_bits}

-- a cutoff: none, or a value, which may be any
abbrev pub Cutoff : Type 0
Cutoff = Option Float

-- a total past the cutoff: none cuts nothing, an equal total is kept, and no total is past a NaN
unfoldable pub past : Cutoff → ℕ → Bool
past None next = false
past (Some c) next = lt c (of_bits binary64 next)

-- the value of a cutoff that cuts the same: +infinity for none
unfoldable pub limit_of : Cutoff → Float
limit_of None = inf false
limit_of (Some c) = c
