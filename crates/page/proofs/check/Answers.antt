-- `page::check` meets its contract.
-- Assumes nothing.
use Rattle.std.proofs.Common.{arith}
use Rattle.numbers.proofs.Refused.{refused_ne0, handed_on}
use Rattle.page.proofs.Refusals.{refused}
use Rattle.page.proofs.Verdict.{ripe, answered}
use Rattle.page.proofs.check.Goals as goal

pub returns-in_err-refusal : goal.returns-in_err-refusal
returns-in_err-refusal c = rw (handed_on _ _ c.from_residual.ensures.1) (refused _ _ _ _ c.in_err-refusal.ensures (refused_ne0 _))

pub judge-requires : goal.judge-requires
judge-requires c = ripe c.args.net c.args.source c.args.page.now c.in_ok-refusal.ensures 1024 (omega arith)

pub returns : goal.returns
returns c = answered c.args.net c.args.source c.args.page.now c.in_ok-refusal.ensures c.judge.ensures
