-- `floyd_warshall::lower_block` meets its contract: one more store makes one more entry of the block (proofs/Stores.antt).
-- Assumes nothing.
use native.Mathlib.Omega.{arith}
use mir.ValLaws.{to_z-of_z}
use Rattle.floyd_warshall.proofs.Bits.{min_lesser}
use Rattle.floyd_warshall.proofs.Stores.{lowering_first, lowering_more}
use Rattle.floyd_warshall.proofs.lower_block.Goals as goal

pub loop-x-init : goal.loop-x-init
loop-x-init g c = lowering_first

pub loop-x-preserved : goal.loop-x-preserved
loop-x-preserved g c = lowering_more c.loop-x.invariant c.loop-x-test.true (grind (arith, to_z-of_z, min_lesser, c.min.ensures.value))
