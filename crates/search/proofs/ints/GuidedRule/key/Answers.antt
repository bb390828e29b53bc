-- The key of an index at a distance.
-- Assumes nothing.
use mathlib.Core.Path.{◌∙◌}
use mir.Syntax.{w64}
use mir.ValLaws.{to_z-of_z}
use Rattle.search.proofs.IntKind.{key_is, key_past}
use Rattle.search.proofs.ints.GuidedRule.key.Goals as goal

pub returns-then-v-self : goal.returns-then-v-self
returns-then-v-self c = key_is c.args.self.guess.now c.args.d c.args.v c.ranges.d c.requires

pub returns-else-v-self : goal.returns-else-v-self
returns-else-v-self c = to_z-of_z w64 c.args.d c.ranges.d ∙ key_past c.args.self.guess.now c.args.d c.args.v c.if-v-self.false
