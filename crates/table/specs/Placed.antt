-- The place of a record as code gives it: a place, or a refusal, after which the count is as it was.
-- Assumes nothing.
use Rattle.std.specs.Prelude.{ℕ, false, Result, Ok, Err}
use Rattle.numbers.specs.declared.Refusal.{Refusal}
use Rattle.numbers.specs.Refusal.{no_of}
use Rattle.table.specs.declared.Place as code
use Rattle.table.specs.Links.{Place, place_now}

-- the place among n links
abbrev pub place_in : ℕ → Result code.Place Refusal → Place
place_in n (Ok p) = place_now 0 p.count p.slot p.fresh
place_in n (Err r) = place_now (no_of r) n 0 false
