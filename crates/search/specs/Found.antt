-- What a search ends in, as numbers.
-- Assumes nothing.
use Rattle.std.specs.Prelude.{ℕ, Result, Ok, Err}
use Rattle.search.specs.declared.BadCost.{BadCost}

-- 0, or 6 where a bad cost was met
abbrev pub number_of : Result ℕ BadCost → ℕ
number_of (Ok takes) = 0
number_of (Err bad) = 6

-- how many pairs were taken
abbrev pub takes_of : Result ℕ BadCost → ℕ
takes_of (Ok takes) = takes
takes_of (Err bad) = bad.takes
