-- `floyd_warshall::lower_block` meets its contract. The invariant: the entries passed are lowered (`Lowering` in proofs/Stores.antt).
-- The two places of a turn lie inside, since the block lies inside and its list keeps its length. Their sum fits, since what a block asks for bounds both numbers. So
-- one more store makes one more entry of the block, and after N of them it is the block that the contract names.
-- Assumes nothing.
use Rattle.floyd_warshall.proofs.Stores.{Lowering}
use Rattle.floyd_warshall.proofs.lower_block.Given as goal

abbrev pub invariant-loop-x : goal.invariant-loop-x
invariant-loop-x g l = Lowering l.at l.by l.a l.x-end l.initial.cells l.x l.cells
