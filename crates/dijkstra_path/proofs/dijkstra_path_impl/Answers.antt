-- `dijkstra_path::dijkstra_path_impl` keeps its promise.
-- A refusal returns before the first write. Past it the list of open arcs is made, the search run, the scratch wiped, and after a bad cost the distances and
-- predecessors are blanked: the two answers are laws of proofs/Answers.antt, at what the calls gave.
-- Assumes nothing.
use mathlib.Core.Path.{sym, ap, ◌∙◌}
use native.Mathlib.Omega.{arith}
use Rattle.numbers.specs.Refusal.{no_of}
use Rattle.numbers.proofs.Refused.{refused_ne0, number_handed_on}
use Rattle.table.specs.declared.FloatCost.{FloatCost}
use Rattle.net.specs.Net.{Net, float_net}
use Rattle.net.proofs.Bounds.{whole_floats}
use Rattle.rows.proofs.Maps.{ready_floats}
use Rattle.search.specs.Found.{number_of}
use Rattle.dijkstra_path.specs.Promise.{Buffers, buffers_in}
use Rattle.dijkstra_path.proofs.Refusals.{refused, Passed, passed}
use Rattle.dijkstra_path.proofs.Answers.{room, source_below, list_sound, wipes, dist_room, preds_room, answer_done, answer_bad}
use Rattle.dijkstra_path.proofs.dijkstra_path_impl.Goals as goal
use Rattle.dijkstra_path.proofs.dijkstra_path_impl.Goals.{In_ok-check}

pub returns-in_err-check-clause-promise : goal.returns-in_err-check-clause-promise
returns-in_err-check-clause-promise c =
    let n = number_handed_on c.from_residual.result c.in_err-check.field-0.0 c.from_residual.ensures.1 in
    refused _ _ _ _ _ (n ∙ c.in_err-check.ensures) (λ z. refused_ne0 c.in_err-check.field-0.0 (sym n ∙ z))

-- past the refusals
module _ (e : In_ok-check) where
  abbrev lent : Net FloatCost
  lent = float_net e.args.net

  abbrev buffers : Buffers
  buffers = buffers_in e.args.lists.now e.args.memory.now

  ok : Passed lent e.args.source buffers
  ok = passed lent e.args.source buffers (sym e.in_ok-check.ensures)

pub most_arcs-a-requires : goal.most_arcs-a-requires
most_arcs-a-requires c = (whole_floats _ _ c.args.net.map.directed _ _ _ _ _ (ok (goal.at.most_arcs-a-requires c).In_ok-check).whole).links

pub position_csr-requires-clause-ready : goal.position_csr-requires-clause-ready
position_csr-requires-clause-ready c =
    let x = ok (goal.at.position_csr-requires-clause-ready c).In_ok-check in
    let v = c.args.net in
    ready_floats v.map.bound v.map.count v.map.directed v.marks.now v.from.now v.to.now v.costs.bits.now v.costs.opens.now x.whole x.inside

pub position_csr-requires-clause-enough_for : goal.position_csr-requires-clause-enough_for
position_csr-requires-clause-enough_for c = room (ok (goal.at.position_csr-requires-clause-enough_for c).In_ok-check)

pub run-found-requires-clause-fit : goal.run-found-requires-clause-fit
run-found-requires-clause-fit c =
    let x = ok (goal.at.run-found-requires-clause-fit c).In_ok-check in
    record { rows = list_sound x c.position_csr.ensures.rows; source = source_below x }

pub run-found-requires-clause-enough_memory : goal.run-found-requires-clause-enough_memory
run-found-requires-clause-enough_memory c = (ok (goal.at.run-found-requires-clause-enough_memory c).In_ok-check).memory

pub wipe-requires : goal.wipe-requires
wipe-requires c = (wipes (ok (goal.at.wipe-requires c).In_ok-check) c.position_csr.ensures.rows c.limit-limit.result c.run-found.ensures.ran c.most_arcs-a.ensures).0

pub wipe_bag-requires : goal.wipe_bag-requires
wipe_bag-requires c = (wipes (ok (goal.at.wipe_bag-requires c).In_ok-check) c.position_csr.ensures.rows c.limit-limit.result c.run-found.ensures.ran c.most_arcs-a.ensures).1

pub fill-requires : goal.fill-requires
fill-requires c =
    omega (arith, preds_room (ok (goal.at.fill-requires c).In_ok-check) c.position_csr.ensures.rows c.limit-limit.result c.run-found.ensures.ran c.most_arcs-a.ensures c.wipe_bag.ensures.wiped)

pub fill-requires-in-Err : goal.fill-requires-in-Err
fill-requires-in-Err c =
    omega (arith, dist_room (ok (goal.at.fill-requires-in-Err c).In_ok-check) c.position_csr.ensures.rows c.limit-limit.result c.run-found.ensures.ran c.most_arcs-a.ensures c.wipe_bag.ensures.wiped)

pub returns-in-Ok-clause-promise : goal.returns-in-Ok-clause-promise
returns-in-Ok-clause-promise c =
    answer_done (ok (goal.at.returns-in-Ok-clause-promise c).In_ok-check) c.position_csr.ensures.rows c.limit-limit.result c.run-found.ensures.ran c.most_arcs-a.ensures
    c.wipe_bag.ensures.wiped c.wipe.ensures.wiped c.limit-limit.ensures (ap number_of c.in-Ok.is)

pub returns-in-Err-clause-promise : goal.returns-in-Err-clause-promise
returns-in-Err-clause-promise c =
    answer_bad (ok (goal.at.returns-in-Err-clause-promise c).In_ok-check) c.position_csr.ensures.rows c.limit-limit.result c.run-found.ensures.ran c.most_arcs-a.ensures
    c.wipe_bag.ensures.wiped c.wipe.ensures.wiped c.limit-limit.ensures (ap number_of c.in-Err.is) c.fill-in-Err.ensures c.fill.ensures (ap no_of c.into.ensures)
