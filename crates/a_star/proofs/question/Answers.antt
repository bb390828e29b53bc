-- `a_star::question` meets its contract: what the calls ask of the marks is in `whole`.
-- Assumes nothing.
use Rattle.net.proofs.Bounds.{whole_ints}
use Rattle.a_star.proofs.question.Goals as goal

pub has-requires : goal.has-requires
has-requires c = (whole_ints _ _ c.args.net.map.directed _ _ _ _ c.requires.whole).marked

pub has-requires-else-not-has : goal.has-requires-else-not-has
has-requires-else-not-has c = (whole_ints _ _ c.args.net.map.directed _ _ _ _ c.requires.whole).marked

pub all_fair-requires : goal.all_fair-requires
all_fair-requires c = ((whole_ints _ _ c.args.net.map.directed _ _ _ _ c.requires.whole).marked, c.requires.guess_long)
