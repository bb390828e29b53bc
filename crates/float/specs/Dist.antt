-- f64 distances, by their patterns: which patterns can be one, the first of them, their order, and the sum with a cost.
-- Assumes nothing.
use Rattle.std.specs.Prelude.{◌≡◌, Bool, false, ℕ}
use Rattle.std.specs.Float.{binary64}
use Rattle.std.specs.Float.Ieee.{lt, add, of_bits, to_bits}
use Rattle.float.specs.Cost.{bad_cost}

-- the sign is clear, and it is no NaN: zero, every value above it, +infinity
abbrev pub Dist64 : ℕ → Type 0
Dist64 d = bad_cost binary64 d ≡ false

-- the source's distance: +0.0
abbrev pub zero64 : ℕ
zero64 = 0

-- the value of the first is below that of the second
unfoldable pub lt64 : ℕ → ℕ → Bool
lt64 a b = lt (of_bits binary64 a) (of_bits binary64 b)

-- a distance and a cost, added and rounded once
unfoldable pub plus64 : ℕ → ℕ → ℕ
plus64 d b = to_bits binary64 (add binary64 (of_bits binary64 d) (of_bits binary64 b))
