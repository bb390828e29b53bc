-- `a_star::write_path` meets its contract.
-- `GoesBack` says that the source is met within that many arcs: so an index that is not the source has an arc left, and its predecessor goes back with one less. At
-- the source one index is written. Else the call for the predecessor writes the trail to it and gives its length, and the index is written behind it: the trail to
-- an index is the trail to its predecessor with the index at its end (Path). A trail has at most one index more than arcs, so the path has room.
-- Assumes nothing.
use Rattle.std.proofs.Common.{arith, ap, sym, ◌∙◌, ℕ, List, [], ◌∷◌, ◌-◌, length, get_or, set, length-append}
use Rattle.a_star.specs.Promise.{at_front}
use Rattle.a_star.specs.Trail.{trail}
use Rattle.a_star.proofs.Path.{trail_source, trail_back, trail_long, back_some, front_one, front_more}
use Rattle.a_star.proofs.+write_path.Goals as goal

pub returns-then-v-source-clause-path_after : goal.returns-then-v-source-clause-path_after
returns-then-v-source-clause-path_after t c =
    let e = trail_source c.args.preds.now c.args.source c.args.left c.args.v c.if-v-source.true in
    front_one c.args.v c.args.path.now (omega (arith, c.requires.left_in_bounds)) ∙ ap (λ (l : List ℕ). at_front l c.args.path.now) (sym e)

pub offset_bounds-path-n : goal.offset_bounds-path-n
offset_bounds-path-n t c =
    let some = back_some c.args.preds.now c.args.source c.args.left c.args.v c.requires.goes_back c.if-v-source.false in
    let long = trail_long c.args.preds.now c.args.source (c.args.left - 1) (get_or c.args.preds.now c.args.v 0) in
    omega (arith, long, some, c.requires.left_in_bounds, c.write_path-n.ensures.value, c.well_formed)

pub bounds-path-n : goal.bounds-path-n
bounds-path-n t c =
    let some = back_some c.args.preds.now c.args.source c.args.left c.args.v c.requires.goes_back c.if-v-source.false in
    let long = trail_long c.args.preds.now c.args.source (c.args.left - 1) (get_or c.args.preds.now c.args.v 0) in
    omega (arith, long, some, c.requires.left_in_bounds, c.write_path-n.ensures.value, c.write_path-n.auto.path)

pub overflow_add-result : goal.overflow_add-result
overflow_add-result t c =
    let some = back_some c.args.preds.now c.args.source c.args.left c.args.v c.requires.goes_back c.if-v-source.false in
    let long = trail_long c.args.preds.now c.args.source (c.args.left - 1) (get_or c.args.preds.now c.args.v 0) in
    omega (arith, long, some, c.requires.left_in_bounds, c.write_path-n.ensures.value, c.well_formed)

pub returns-else-v-source-clause-value : goal.returns-else-v-source-clause-value
returns-else-v-source-clause-value t c =
    let some = back_some c.args.preds.now c.args.source c.args.left c.args.v c.requires.goes_back c.if-v-source.false in
    let e = trail_back c.args.preds.now c.args.source c.args.left c.args.v some c.if-v-source.false in
    let l = trail c.args.preds.now c.args.source (c.args.left - 1) (get_or c.args.preds.now c.args.v 0) in
    omega (arith, ap length e, length-append l (c.args.v ∷ []), c.write_path-n.ensures.value)

pub returns-else-v-source-clause-path_after : goal.returns-else-v-source-clause-path_after
returns-else-v-source-clause-path_after t c =
    let some = back_some c.args.preds.now c.args.source c.args.left c.args.v c.requires.goes_back c.if-v-source.false in
    let e = trail_back c.args.preds.now c.args.source c.args.left c.args.v some c.if-v-source.false in
    let l = trail c.args.preds.now c.args.source (c.args.left - 1) (get_or c.args.preds.now c.args.v 0) in
    let w = c.write_path-n.ensures in
    (λ i. set (w.path_after i) (w.value i) c.args.v)
    ∙ front_more l c.args.v c.args.path.now
    (omega (arith, trail_long c.args.preds.now c.args.source (c.args.left - 1) (get_or c.args.preds.now c.args.v 0), some, c.requires.left_in_bounds))
    ∙ ap (λ (x : List ℕ). at_front x c.args.path.now) (sym e)
