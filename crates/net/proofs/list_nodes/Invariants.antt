-- `net::list_nodes` meets its contract.
-- Assumes nothing.
use Rattle.net.proofs.Lists.{Listing}
use Rattle.net.proofs.list_nodes.Given as goal

abbrev pub invariant-loop-i : goal.invariant-loop-i
invariant-loop-i l = Listing l.bound l.marks l.initial.nodes l.nodes l.p l.i
