-- What keeps the sums and the keys of the whole-number search in range, beside what every search over a neighbour list promises.
-- Assumes nothing.
use Rattle.std.specs.Prelude.{List, ℕ, ◌+◌, ◌≤◌, ◌^◌, ℤ, pos, ◌≤ℤ◌}
use Rattle.whole.specs.Zed.{P}
use Rattle.turns.specs.Asks.{Asks}
use Rattle.search.specs.Ints.{dear, Fair, Fit, asked_of}
use Rattle.search.specs.Target.{number_in}

-- no distance is above this: fewer than 1,024 arcs, each at most `dear`
abbrev pub far : ℕ
far = 2 ^ 51

-- the sum of a distance and a cost is in range
pub record Summed (d c : ℤ) : Type 0 where
  pub high : d ≤ℤ pos far
  pub cheap : P c ≤ dear

-- the key of v at a distance d is in range
pub record Keyed (h : List ℤ) (d : ℤ) (v : ℕ) : Type 0 where
  pub fair : Fair h v
  pub low : pos 0 ≤ℤ d
  pub high : d ≤ℤ pos (far + dear)

-- what a search by a heuristic asks
abbrev pub guided_asks : List ℤ → Asks ℤ ℤ
guided_asks h = record { fit = λ m s g nb. Fit (asked_of m s (number_in m g) h) nb; sum = Summed; key = Keyed h }
