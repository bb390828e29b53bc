-- `bellman_ford::bellman_ford` meets its contract: each answer is a law of proofs/Answers.antt, at what the calls gave.
-- A refusal returns before the first write. Past it the distances are blanked; from a source that the map has not the scratch is wiped, and that is the answer. Else
-- the marks and path lengths are cleared, the search is run, and the scratch is wiped whatever it says; after a yes the distances are blanked again. The argument of
-- the search stands at the head of proofs/Turns.antt.
-- Assumes nothing.
use mathlib.Core.Path.{sym, ap, ◌∙◌}
use Rattle.std.specs.Result.{is_err}
use Rattle.numbers.proofs.Refused.{refused_ne0, number_handed_on}
use Rattle.net.proofs.Bounds.{whole_ints}
use Rattle.rows.specs.Rows.{lists_in}
use Rattle.bellman_ford.proofs.Refusals.{refused, passed}
use Rattle.bellman_ford.proofs.Answers.{room_first, answer_unknown, ripe, room_second, dist_room, answer_negative, answer_done}
use Rattle.bellman_ford.proofs.bellman_ford.Goals as goal

pub returns-in_err-refusal-clause-promise : goal.returns-in_err-refusal-clause-promise
returns-in_err-refusal-clause-promise c =
    let e = number_handed_on _ _ c.from_residual.ensures.1 in
    refused _ _ _ _ (e ∙ c.in_err-refusal.ensures) (λ z. refused_ne0 _ (sym e ∙ z))

pub most_arcs-a-requires : goal.most_arcs-a-requires
most_arcs-a-requires c = (whole_ints _ _ c.args.net.map.directed _ _ _ _ (passed _ _ (sym c.in_ok-refusal.ensures)).whole).links

pub fill-requires : goal.fill-requires
fill-requires c = (passed _ _ (sym c.in_ok-refusal.ensures)).dist

pub has-requires : goal.has-requires
has-requires c = (passed _ _ (sym c.in_ok-refusal.ensures)).marked

pub wipe-requires : goal.wipe-requires
wipe-requires c = (room_first (passed _ _ (sym c.in_ok-refusal.ensures)) c.most_arcs-a.ensures).rows

pub wipe-requires-then-not-has : goal.wipe-requires-then-not-has
wipe-requires-then-not-has c =
    let r = room_first (passed _ _ (sym c.in_ok-refusal.ensures)) c.most_arcs-a.ensures in
    (r.queue, r.queued, r.lengths)

pub returns-then-not-has-clause-promise : goal.returns-then-not-has-clause-promise
returns-then-not-has-clause-promise c = answer_unknown (passed _ _ (sym c.in_ok-refusal.ensures)) c.most_arcs-a.ensures (sym c.if-not-has.ensures) c.fill.ensures
    (λ i. record { rows = c.wipe.ensures.wiped i; queue = c.wipe-then-not-has.ensures.queue i; queued = c.wipe-then-not-has.ensures.queued i; lengths = c.wipe-then-not-has.ensures.lengths i })

pub prepare-requires : goal.prepare-requires
prepare-requires c =
    let r = (passed _ _ (sym c.in_ok-refusal.ensures)).room in
    (r.queued, r.lengths)

pub solve-found-requires : goal.solve-found-requires
solve-found-requires c = ripe (passed _ _ (sym c.in_ok-refusal.ensures)) c.most_arcs-a.ensures c.fill.ensures
    (λ i. record { rows = lists_in c.args.lists.now; queue = c.prepare.ensures.queue i; queued = c.prepare.ensures.queued i; lengths = c.prepare.ensures.lengths i })
    (sym c.if-not-has.ensures)

pub wipe-requires-2 : goal.wipe-requires-2
wipe-requires-2 c = (room_second (passed _ _ (sym c.in_ok-refusal.ensures)) c.most_arcs-a.ensures c.fill.ensures
    (λ i. record { rows = lists_in c.args.lists.now; queue = c.prepare.ensures.queue i; queued = c.prepare.ensures.queued i; lengths = c.prepare.ensures.lengths i })
    (sym c.if-not-has.ensures) c.solve-found.ensures.solved).rows

pub wipe-requires-3 : goal.wipe-requires-3
wipe-requires-3 c =
    let r = room_second (passed _ _ (sym c.in_ok-refusal.ensures)) c.most_arcs-a.ensures c.fill.ensures
    (λ i. record { rows = lists_in c.args.lists.now; queue = c.prepare.ensures.queue i; queued = c.prepare.ensures.queued i; lengths = c.prepare.ensures.lengths i })
    (sym c.if-not-has.ensures) c.solve-found.ensures.solved in
    (r.queue, r.queued, r.lengths)

pub fill-requires-in-Err : goal.fill-requires-in-Err
fill-requires-in-Err c = dist_room (passed _ _ (sym c.in_ok-refusal.ensures)) c.most_arcs-a.ensures c.fill.ensures
    (λ i. record { rows = lists_in c.args.lists.now; queue = c.prepare.ensures.queue i; queued = c.prepare.ensures.queued i; lengths = c.prepare.ensures.lengths i })
    (sym c.if-not-has.ensures) c.solve-found.ensures.solved

pub returns-in-Err-clause-promise : goal.returns-in-Err-clause-promise
returns-in-Err-clause-promise c = answer_negative (passed _ _ (sym c.in_ok-refusal.ensures)) c.most_arcs-a.ensures c.fill.ensures
    (λ i. record { rows = lists_in c.args.lists.now; queue = c.prepare.ensures.queue i; queued = c.prepare.ensures.queued i; lengths = c.prepare.ensures.lengths i })
    (sym c.if-not-has.ensures) c.solve-found.ensures.solved
    (λ i. record { rows = c.wipe-2.ensures.wiped i; queue = c.wipe-3.ensures.queue i; queued = c.wipe-3.ensures.queued i; lengths = c.wipe-3.ensures.lengths i })
    (ap is_err c.in-Err.is) c.fill-in-Err.ensures

pub returns-in-Ok-clause-promise : goal.returns-in-Ok-clause-promise
returns-in-Ok-clause-promise c = answer_done (passed _ _ (sym c.in_ok-refusal.ensures)) c.most_arcs-a.ensures c.fill.ensures
    (λ i. record { rows = lists_in c.args.lists.now; queue = c.prepare.ensures.queue i; queued = c.prepare.ensures.queued i; lengths = c.prepare.ensures.lengths i })
    (sym c.if-not-has.ensures) c.solve-found.ensures.solved
    (λ i. record { rows = c.wipe-2.ensures.wiped i; queue = c.wipe-3.ensures.queue i; queued = c.wipe-3.ensures.queued i; lengths = c.wipe-3.ensures.lengths i })
    (ap is_err c.in-Ok.is)
