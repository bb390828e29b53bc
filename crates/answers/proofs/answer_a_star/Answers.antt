-- `answers::answer_a_star` meets its contract: the promise of the question, and the text of what it left. The path is no longer than its buffer.
-- Assumes nothing.
use mathlib.Core.Path.{refl}
use native.Mathlib.Omega.{arith}
use Rattle.answers.proofs.Says.{path_fits}
use Rattle.answers.proofs.answer_a_star.Goals as goal

pub say_path-requires : goal.say_path-requires
say_path-requires c =
    let l = path_fits c.a_star-found.ensures.promise in
    (omega (arith, l, c.a_star-found.auto), l, c.requires.room)

pub returns-clause-written : goal.returns-clause-written
returns-clause-written c =
    record { text = _; allowed = record { number = _; left = (_, _, _); promise = c.a_star-found.ensures.promise; says = refl }; printed = c.say_path.ensures.printed }
