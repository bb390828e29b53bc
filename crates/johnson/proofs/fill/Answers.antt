-- `johnson::fill` meets its contract.
-- Assumes nothing.
use borrow.Author.Rules.{rules}
use native.Mathlib.Omega.{arith}
use Rattle.turns.proofs.Firsts.{memory_more, memory_enough}
use Rattle.rows.specs.Rows.{lists_in}
use Rattle.johnson.specs.Parts.{CanFill}
use Rattle.johnson.proofs.Shows.{found, row_small, place_small, can_show, row_made, row_counted, row_skipped, row_not_counted, can_next}
use Rattle.johnson.proofs.fill.Goals as goal
use Rattle.johnson.proofs.fill.Goals.{then-marks-u-ne0, else-marks-u-ne0}

pub overflow_mul-i : goal.overflow_mul-i
overflow_mul-i c = omega (arith, place_small c.requires.0 c.loop-u-test.true c.loop-u.invariant.filling.count c.if-marks-u-ne0.true)

pub show_row-requires : goal.show_row-requires
show_row-requires c =
    let w = c.loop-u.invariant.filling in
    can_show (can_next c.requires.0 w.filled.long) c.loop-u-test.true w.count c.if-marks-u-ne0.true
    (found c.requires.0.even c.to_all.ensures.to_all) (memory_enough (memory_enough c.requires.1 w.kept) c.to_all.ensures.kept_memory).dist

pub overflow_add-i : goal.overflow_add-i
overflow_add-i c = omega (arith, row_small c.requires.0 c.loop-u-test.true c.loop-u.invariant.filling.count)

pub loop-u-preserved : goal.loop-u-preserved
loop-u-preserved c =
    let w = c.loop-u.invariant.filling in
    let l = c.loop-u-test.true in
    let can : CanFill c.args.m c.args.p c.args.marks.now (lists_in c.args.lists.now) c.args.heights.now c.loop-u.matrix = can_next c.requires.0 w.filled.long in
    elim c.if-marks-u-ne0.branch [
      | then-marks-u-ne0 k ↦ rw (k.matrix-is, k.memory-is, k.i-is) (record {
        filling = record {
          within = omega (arith, l);
          count = row_counted can l w.count k.if-marks-u-ne0.true;
          filled = row_made can l w.count k.if-marks-u-ne0.true (found can.even k.to_all.ensures.to_all) k.show_row.ensures _ w.filled;
          kept = memory_more w.kept k.to_all.ensures.kept_memory;
        };
        same = search rules;
      })
      | else-marks-u-ne0 k ↦ rw (k.matrix-is, k.memory-is, k.i-is) (record {
        filling = record {
          within = omega (arith, l);
          count = row_not_counted can l w.count k.if-marks-u-ne0.false;
          filled = row_skipped can l w.count k.if-marks-u-ne0.false _ w.filled;
          kept = w.kept;
        };
        same = c.loop-u.invariant.same;
      })
    ]
