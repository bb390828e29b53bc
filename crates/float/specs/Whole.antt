-- Whole numbers as f64 costs and distances.
-- Assumes nothing.
use Rattle.std.specs.Prelude.{ℕ, pos, Float}
use Rattle.std.specs.Float.{binary64}
use Rattle.std.specs.Float.Ieee.{of_int, to_bits}

-- a whole number, converted
abbrev pub f64_of : ℕ → Float
f64_of n = of_int binary64 (pos n)

-- its pattern
abbrev pub bits_of : ℕ → ℕ
bits_of n = to_bits binary64 (f64_of n)
