-- `dijkstra::dijkstra` keeps its promise: each answer is a law of proofs/Refusals.antt, Solves.antt or Answers.antt, at what the calls gave.
-- Assumes nothing.
use mathlib.Core.Path.{sym, ap, ◌∙◌}
use native.Mathlib.Omega.{arith}
use lib.IntN.{ℤ}
use Rattle.numbers.specs.Refusal.{no_of}
use Rattle.numbers.proofs.Refused.{refused_ne0, number_handed_on}
use Rattle.net.specs.Net.{Net, int_net}
use Rattle.net.proofs.Bounds.{whole_ints}
use Rattle.rows.specs.Rows.{lists_in}
use Rattle.search.specs.Lists.{memory_in}
use Rattle.search.specs.Found.{number_of}
use Rattle.dijkstra.specs.Promise.{Buffers, buffers_in}
use Rattle.dijkstra.proofs.Refusals.{Passed, refused, passed}
use Rattle.dijkstra.proofs.Solves.{Solved, ready, list_room, cheap, solved}
use Rattle.dijkstra.proofs.Answers.{source_below, wipes, preds_room, dist_room, answer_done, answer_bad}
use Rattle.dijkstra.proofs.dijkstra.Goals as goal
use Rattle.dijkstra.proofs.dijkstra.Goals.{In_ok-check, After-to_all-found}

pub returns-in_err-check-clause-promise : goal.returns-in_err-check-clause-promise
returns-in_err-check-clause-promise c =
    let n = number_handed_on c.from_residual.result c.in_err-check.field-0.0 c.from_residual.ensures.1 in
    refused _ _ _ _ (n ∙ c.in_err-check.ensures) (λ z. refused_ne0 c.in_err-check.field-0.0 (sym n ∙ z))

-- past the refusals
module _ (e : In_ok-check) where
  abbrev lent : Net ℤ
  lent = int_net e.args.net

  abbrev buffers : Buffers
  buffers = buffers_in e.args.lists.now e.args.memory.now

  ok : Passed lent e.args.source buffers
  ok = passed lent e.args.source buffers (sym e.in_ok-check.ensures)

pub most_arcs-a-requires : goal.most_arcs-a-requires
most_arcs-a-requires c = (whole_ints _ _ c.args.net.map.directed _ _ _ _ (ok (goal.at.most_arcs-a-requires c).In_ok-check).whole).links

pub position_csr-requires-clause-ready : goal.position_csr-requires-clause-ready
position_csr-requires-clause-ready c = ready c.args.net (ok (goal.at.position_csr-requires-clause-ready c).In_ok-check)

pub position_csr-requires-clause-enough_for : goal.position_csr-requires-clause-enough_for
position_csr-requires-clause-enough_for c = list_room c.args.net (ok (goal.at.position_csr-requires-clause-enough_for c).In_ok-check)

pub to_all-found-requires-clause-cheap : goal.to_all-found-requires-clause-cheap
to_all-found-requires-clause-cheap c = cheap c.args.net (ok (goal.at.to_all-found-requires-clause-cheap c).In_ok-check) c.position_csr.ensures.rows c.position_csr.ensures.known

pub to_all-found-requires-clause-source_lt_m : goal.to_all-found-requires-clause-source_lt_m
to_all-found-requires-clause-source_lt_m c = let p = ok (goal.at.to_all-found-requires-clause-source_lt_m c).In_ok-check in (source_below p, p.memory)

-- the map is solved
module _ (a : After-to_all-found) where
  abbrev past : In_ok-check
  past = (goal.at.After-to_all-found a).In_ok-check

  is : Solved (lent past) a.args.source (buffers past) (lists_in a.position_csr.new.lists) (memory_in a.to_all-found.new.memory) (number_of a.to_all-found.result)
  is = solved a.args.net (ok past) a.position_csr.ensures.rows a.position_csr.ensures.known a.to_all-found.ensures.to_all a.to_all-found.ensures.kept_memory

pub wipe-requires : goal.wipe-requires
wipe-requires c = let a = (goal.at.wipe-requires c).After-to_all-found in (wipes (ok (past a)) (is a) c.most_arcs-a.ensures).0

pub wipe_bag-requires : goal.wipe_bag-requires
wipe_bag-requires c = let a = (goal.at.wipe_bag-requires c).After-to_all-found in (wipes (ok (past a)) (is a) c.most_arcs-a.ensures).1

pub fill-requires : goal.fill-requires
fill-requires c = let a = (goal.at.fill-requires c).After-to_all-found in omega (arith, preds_room (ok (past a)) (is a) c.most_arcs-a.ensures c.wipe_bag.ensures.wiped)

pub fill-requires-in-Err : goal.fill-requires-in-Err
fill-requires-in-Err c = let a = (goal.at.fill-requires-in-Err c).After-to_all-found in omega (arith, dist_room (ok (past a)) (is a) c.most_arcs-a.ensures c.wipe_bag.ensures.wiped)

pub returns-in-Ok-clause-promise : goal.returns-in-Ok-clause-promise
returns-in-Ok-clause-promise c =
    let a = (goal.at.returns-in-Ok-clause-promise c).After-to_all-found in
    answer_done (ok (past a)) (is a) c.most_arcs-a.ensures c.wipe.ensures.wiped c.wipe_bag.ensures.wiped c.fill.ensures (ap number_of c.in-Ok.is)

pub returns-in-Err-clause-promise : goal.returns-in-Err-clause-promise
returns-in-Err-clause-promise c =
    let a = (goal.at.returns-in-Err-clause-promise c).After-to_all-found in
    answer_bad (ok (past a)) (is a) c.most_arcs-a.ensures c.wipe.ensures.wiped c.wipe_bag.ensures.wiped c.fill.ensures (ap number_of c.in-Err.is) c.fill-in-Err.ensures (ap no_of c.into.ensures)
