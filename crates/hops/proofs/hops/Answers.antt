-- `hops::hops` meets its contract.
-- Assumes nothing.
use Rattle.numbers.proofs.Refused.{refused_ne0, handed_on}
use Rattle.hops.specs.Promise.{buffers_in}
use Rattle.hops.proofs.Refusals.{refused}
use Rattle.hops.proofs.Answers.{ripe_of, promised_of}
use Rattle.hops.proofs.hops.Goals as goal

pub returns-in_err-refusal-clause-promise : goal.returns-in_err-refusal-clause-promise
returns-in_err-refusal-clause-promise g c = rw (handed_on _ _ c.from_residual.ensures.1) (refused _ _ _ c.in_err-refusal.ensures (refused_ne0 _))

pub answer-requires : goal.answer-requires
answer-requires g c =
    let net = c.args.net in
    let b = buffers_in c.args.table.now c.args.scratch.now in
    ripe_of g.C.Costs.listed g.C.Costs.room net (g.met.C.Costs.fits net.from.now net.to.now net.costs) b c.in_ok-refusal.ensures

pub returns-clause-promise : goal.returns-clause-promise
returns-clause-promise g c =
    let net = c.args.net in
    let b = buffers_in c.args.table.now c.args.scratch.now in
    promised_of g.C.Costs.listed g.C.Costs.room net (g.met.C.Costs.fits net.from.now net.to.now net.costs) b c.in_ok-refusal.ensures c.answer.ensures.answered
