-- Whether a total is stored.
-- Assumes nothing.
use Rattle.search.proofs.IntKind.{better_there, better_than_it}
use Rattle.search.proofs.ints.GuidedRule.is_better.Goals as goal

pub returns-then-stored-eq-NONE_I64 : goal.returns-then-stored-eq-NONE_I64
returns-then-stored-eq-NONE_I64 c = better_there c.args.self.guess.now c.args.next c.args.stored c.ranges.stored c.if-stored-eq-NONE_I64.true

pub returns-else-stored-eq-NONE_I64 : goal.returns-else-stored-eq-NONE_I64
returns-else-stored-eq-NONE_I64 c =
    better_than_it c.args.self.guess.now c.args.next c.args.stored c.ranges.next c.ranges.stored c.if-stored-eq-NONE_I64.false c.requires.stored
