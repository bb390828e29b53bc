-- The none values of lent buffers, by the type of their entries, and how an answer that may be missing stands there.
-- Assumes nothing.
use Rattle.std.proofs.Math.Option.{Option, none, some}
use Rattle.std.specs.Prelude.{ℕ, ◌^◌, ◌-◌, ℤ, negsuc}

-- -2^63
abbrev pub none_i64 : ℤ
none_i64 = negsuc (2 ^ 63 - 1)

-- 2^32 - 1
abbrev pub none_u32 : ℕ
none_u32 = 4294967295

-- -1.0, by its pattern
abbrev pub none_f64 : ℕ
none_f64 = 0xbff0_0000_0000_0000

-- an answer that may be missing, as a lent entry shows it: x where there is none
abbrev pub shown : {X : Type 0} → X → Option X → X
shown x none = x
shown x (some y) = y
