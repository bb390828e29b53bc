-- `floyd_warshall::put_link` meets its contract.
-- Assumes nothing.
use native.Mathlib.Omega.{arith}
use mir.ValLaws.{to_z-of_z}
use Rattle.floyd_warshall.specs.Filling.{lowered, linked}
use Rattle.floyd_warshall.proofs.Bits.{min_lesser}
use Rattle.floyd_warshall.proofs.put_link.Goals as goal

pub returns-then-not-directed : goal.returns-then-not-directed
unfolding linked lowered
returns-then-not-directed c = grind (arith, to_z-of_z, min_lesser, c.min.ensures.value, c.min-then-not-directed.ensures.value)

pub returns-else-not-directed : goal.returns-else-not-directed
unfolding linked lowered
returns-else-not-directed c = grind (arith, to_z-of_z, min_lesser, c.min.ensures.value)
