-- `johnson::johnson` meets its contract: each answer is a law of proofs/Answers.antt, at what the calls gave.
-- A refusal returns before the first write. Past it the map is solved, and the scratch is wiped whatever the answer is; after a yes the matrix is blanked.
-- Assumes nothing.
use mathlib.Core.Path.{◌≡◌, sym, ◌∙◌}
use native.Mathlib.Omega.{arith}
use Rattle.numbers.specs.Refusal.{no_of, number_of}
use Rattle.numbers.proofs.Refused.{refused_ne0, number_handed_on}
use Rattle.net.specs.Net.{int_net}
use Rattle.net.proofs.Bounds.{Whole, width_small}
use Rattle.matrix.proofs.Matrix.{square_small}
use Rattle.rows.specs.Rows.{lists_in}
use Rattle.search.specs.Lists.{memory_in}
use Rattle.johnson.specs.Promise.{scratch, wiped_all}
use Rattle.johnson.specs.Parts.{refusal_no}
use Rattle.johnson.proofs.Refusals.{refused, passed, limits}
use Rattle.johnson.proofs.Answers.{room_after, blank_room, answer_yes, answer_no}
use Rattle.johnson.proofs.johnson.Goals as goal
use Rattle.johnson.proofs.johnson.Goals.{In_ok-refusal, After-wipe-2}

-- past the refusals
module _ (e : In_ok-refusal) where
  no_refusal : refusal_no (int_net e.args.net) e.args.matrix.now (scratch (lists_in e.args.lists.now) e.args.heights.now (memory_in e.args.memory.now)) ≡ 0
  no_refusal = sym e.in_ok-refusal.ensures

  map_whole : Whole (int_net e.args.net)
  map_whole =
      let n = e.args.net in
      limits n.map.bound n.map.count n.map.directed n.marks.now n.from.now n.to.now n.costs.costs.now e.args.matrix.now _ no_refusal

-- the scratch after the three wipes
module _ (e : After-wipe-2) where
  wiped : scratch (lists_in e.wipe.new.self) e.fill.new.s (memory_in e.wipe-2.new.self)
      ≡ wiped_all e.args.net.map.bound e.most_arcs.result (scratch (lists_in e.solve-negative.new.lists) e.solve-negative.new.heights (memory_in e.solve-negative.new.memory))
  wiped = λ i. record { rows = e.wipe.ensures.wiped i; heights = e.fill.ensures i; memory = e.wipe-2.ensures.wiped i }

pub returns-in_err-refusal-clause-promise : goal.returns-in_err-refusal-clause-promise
returns-in_err-refusal-clause-promise c =
    let e : number_of c.from_residual.result ≡ no_of c.in_err-refusal.field-0.0 = number_handed_on _ _ c.from_residual.ensures.1 in
    refused _ _ _ _ (e ∙ c.in_err-refusal.ensures) (λ z. refused_ne0 _ (sym e ∙ z))

pub solve-negative-requires : goal.solve-negative-requires
solve-negative-requires c = passed _ _ _ (no_refusal (goal.at.solve-negative-requires c).In_ok-refusal)

pub most_arcs-requires : goal.most_arcs-requires
most_arcs-requires c = (map_whole (goal.at.most_arcs-requires c).In_ok-refusal).links

pub wipe-requires : goal.wipe-requires
wipe-requires c = (room_after _ _ _ (no_refusal (goal.at.wipe-requires c).In_ok-refusal) c.most_arcs.ensures c.solve-negative.ensures.solved).rows

pub fill-requires : goal.fill-requires
fill-requires c = (room_after _ _ _ (no_refusal (goal.at.fill-requires c).In_ok-refusal) c.most_arcs.ensures c.solve-negative.ensures.solved).heights

pub wipe-requires-2 : goal.wipe-requires-2
wipe-requires-2 c = (room_after _ _ _ (no_refusal (goal.at.wipe-requires-2 c).In_ok-refusal) c.most_arcs.ensures c.solve-negative.ensures.solved).memory

pub count_present-p-requires : goal.count_present-p-requires
count_present-p-requires c = (map_whole (goal.at.count_present-p-requires c).In_ok-refusal).marked

pub overflow_mul-p : goal.overflow_mul-p
overflow_mul-p c =
    let n = c.count_present-p in
    omega (arith, n.ensures, square_small n.result (omega (arith, n.ensures, width_small (map_whole (goal.at.overflow_mul-p c).In_ok-refusal))))

pub fill-requires-then-negative : goal.fill-requires-then-negative
fill-requires-then-negative c =
    let p = (goal.at.fill-requires-then-negative c).In_ok-refusal in
    blank_room _ _ _ (no_refusal p) c.most_arcs.ensures c.solve-negative.ensures.solved (wiped (goal.at.fill-requires-then-negative c).After-wipe-2) c.count_present-p.ensures

pub returns-then-negative-clause-promise : goal.returns-then-negative-clause-promise
returns-then-negative-clause-promise c =
    let p = goal.at.returns-then-negative-clause-promise c in
    answer_yes _ _ _ (no_refusal p.In_ok-refusal) c.most_arcs.ensures c.solve-negative.ensures.solved (wiped p.After-wipe-2)
    c.count_present-p.ensures c.fill-then-negative.ensures c.if-negative.true

pub returns-else-negative-clause-promise : goal.returns-else-negative-clause-promise
returns-else-negative-clause-promise c =
    let p = goal.at.returns-else-negative-clause-promise c in
    answer_no _ _ _ (no_refusal p.In_ok-refusal) c.most_arcs.ensures c.solve-negative.ensures.solved (wiped p.After-wipe-2) c.if-negative.false
