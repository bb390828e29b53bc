-- `hops::fill` meets its contract.
-- Assumes nothing.
use Rattle.std.proofs.Common.{◌<◌, rules}
use Rattle.std.proofs.lemmas.List.{get_or-take}
use Rattle.hops.proofs.Cells.{filled_next}
use Rattle.hops.proofs.fill.Goals as goal

pub loop-i-preserved : goal.loop-i-preserved
loop-i-preserved c = let h : c.loop-i.i < c.args.p = search rules in filled_next c.requires c.loop-i.invariant h (rw get_or-take at c.make_row.ensures)
