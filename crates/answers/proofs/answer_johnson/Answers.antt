-- `answers::answer_johnson` meets its contract: the promise of the question, and the text of what it left.
-- Assumes nothing.
use mathlib.Core.Path.{refl}
use Rattle.answers.proofs.answer_johnson.Goals as goal

pub returns-clause-written : goal.returns-clause-written
returns-clause-written c = record { text = _; allowed = record { number = _; left = (_, _); promise = c.johnson-done.ensures.promise; says = refl }; printed = c.say_rows.ensures.printed }
