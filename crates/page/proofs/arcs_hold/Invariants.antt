-- `page::arcs_hold` meets its contract.
-- Assumes nothing.
use Rattle.page.specs.Parts.{UptoIn}
use Rattle.page.proofs.arcs_hold.Given as goal

abbrev pub invariant-loop-i : goal.invariant-loop-i
invariant-loop-i l = UptoIn l.net l.i l.page l.met
