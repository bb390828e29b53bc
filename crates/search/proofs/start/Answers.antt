-- `search::start` meets its contract.
-- Assumes nothing.
use Rattle.turns.proofs.Cells.{empty_bag, empty_lower}
use Rattle.search.proofs.start.Goals as goal

pub push_or_lower-requires-clause-bag : goal.push_or_lower-requires-clause-bag
push_or_lower-requires-clause-bag g c = empty_bag c.requires.fresh

pub push_or_lower-requires-clause-not_above : goal.push_or_lower-requires-clause-not_above
push_or_lower-requires-clause-not_above g c = empty_lower c.requires.fresh c.args.source _
