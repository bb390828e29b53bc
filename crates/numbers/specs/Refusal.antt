-- The refusals of the request's table of numbers.
-- Assumes nothing.
use Rattle.std.specs.Prelude.{ℕ, Result, Ok, Err}
use Rattle.numbers.specs.declared.Refusal.{Refusal}
use Rattle.numbers.specs.declared.Refusal.TheVariants.{Limit, Index, Source, Target, Heuristic, BadCost, Negative, Room}

-- the number of a refusal
abbrev pub no_of : Refusal → ℕ
no_of Limit = 1
no_of Index = 2
no_of Source = 3
no_of Target = 4
no_of Heuristic = 5
no_of BadCost = 6
no_of Negative = 7
no_of Room = 8

-- the number of a call: 0 where it is done
abbrev pub number_of : {A : Type 0} → Result A Refusal → ℕ
number_of (Ok _) = 0
number_of (Err r) = no_of r

-- how many there are after a call that gives their number, n before it
abbrev pub count_after : ℕ → Result ℕ Refusal → ℕ
count_after n (Ok k) = k
count_after n (Err r) = n
