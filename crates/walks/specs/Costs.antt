-- The costs of arcs, within a range.
use Rattle.std.specs.Prelude.{ℕ, ℤ}
use Rattle.whole.specs.Zed.{Within, Cost32}

-- every arc's cost lies in -b ..= b
abbrev pub Costs : ℕ → (ℕ → ℕ → ℤ → Type 0) → Type 0
Costs b Arc = (u v : ℕ) (c : ℤ) → Arc u v c → Within b c

-- every arc's cost is in -2^31 ..= 2^31, as every i32 is
abbrev pub Costs32 : (ℕ → ℕ → ℤ → Type 0) → Type 0
Costs32 Arc = (u v : ℕ) (c : ℤ) → Arc u v c → Cost32 c
