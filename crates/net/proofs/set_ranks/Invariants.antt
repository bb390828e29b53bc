-- `net::set_ranks` meets its contract.
-- Assumes nothing.
use Rattle.net.proofs.Lists.{Ranking}
use Rattle.net.proofs.set_ranks.Given as goal

abbrev pub invariant-loop-i : goal.invariant-loop-i
invariant-loop-i l = Ranking l.bound l.marks l.initial.ranks l.p l.i l.ranks
