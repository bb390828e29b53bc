-- `a_star::a_star` meets its contract.
-- Assumes nothing.
use mathlib.Core.Path.{sym}
use Rattle.numbers.proofs.Refused.{refused_ne0, handed_on}
use Rattle.a_star.proofs.Refusals.{refused, passed}
use Rattle.a_star.proofs.Settles.{ran}
use Rattle.a_star.proofs.a_star.Goals as goal

pub returns-in_err-refusal-clause-promise : goal.returns-in_err-refusal-clause-promise
returns-in_err-refusal-clause-promise c =
    let e = handed_on _ _ c.from_residual.ensures.1 in
    rw e (refused _ _ _ _ c.in_err-refusal.ensures (refused_ne0 _))

pub solve-requires : goal.solve-requires
solve-requires c = record { marks = _; fine = (passed _ _ _ (sym c.in_ok-refusal.ensures)) }

pub returns-clause-promise : goal.returns-clause-promise
returns-clause-promise c = ran (passed _ _ _ (sym c.in_ok-refusal.ensures)) (c.solve.ensures.solved _)
