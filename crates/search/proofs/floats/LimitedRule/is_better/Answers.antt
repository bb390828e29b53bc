-- Whether an f64 total is stored.
-- Assumes nothing.
use mathlib.Core.Path.{◌∙◌}
use Rattle.search.proofs.FloatKind.{better_at_lem, entry_stored}
use Rattle.search.proofs.floats.LimitedRule.is_better.Goals as goal

pub better-requires-clause-stored : goal.better-requires-clause-stored
better-requires-clause-stored c = entry_stored c.args.stored c.requires.stored

pub returns : goal.returns
returns c = c.better.ensures ∙ better_at_lem c.args.self.limit c.args.next c.args.stored
