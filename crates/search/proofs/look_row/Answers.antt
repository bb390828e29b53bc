-- `search::look_row` meets its contract.
-- Assumes nothing.
use mathlib.Core.Path.{refl, ◌∙◌}
use Rattle.turns.proofs.Rows.{row_safe, row_next, row_stops, row_ends, row_in_range}
use Rattle.search.proofs.look_row.Goals as goal

pub returns-then-is_bad-clause-row : goal.returns-then-is_bad-clause-row
returns-then-is_bad-clause-row g c =
    let W = (g.met.R.Rule.right c.args.rule).lawful in
    row_stops W c.requires.opens _ refl c.loop-i.invariant.0 c.loop-i-test.true refl _ c.index-weights-i.is c.is_bad.ensures c.if-is_bad.true

pub look_arc-size-requires : goal.look_arc-size-requires
look_arc-size-requires g c =
    let W = (g.met.R.Rule.right c.args.rule).lawful in
    record {
      safe = row_safe W c.requires.opens _ refl c.loop-i.invariant.0 c.loop-i-test.true c.from-v.ensures _ c.index-weights-i.is c.is_bad.ensures c.if-is_bad.false;
      in_range = row_in_range W c.requires.opens _ refl c.loop-i.invariant.0 c.loop-i-test.true
          c.from-v.ensures _ c.index-weights-i.is c.is_bad.ensures (g.R.Rule.asks c.args.rule) c.requires.row_in_range c.if-is_bad.false;
    }

pub loop-i-preserved : goal.loop-i-preserved
loop-i-preserved g c =
    let W = (g.met.R.Rule.right c.args.rule).lawful in
    let a = c.loop-i.invariant.1 in
    let b = c.look_arc-size.ensures.same in (
      row_next W c.requires.opens _ refl c.loop-i.invariant.0 c.loop-i-test.true c.from-v.ensures _ c.index-weights-i.is
          c.is_bad.ensures c.if-is_bad.false c.look_arc-size.ensures.looked c.look_arc-size.ensures.long,
      (b.0 ∙ a.0, b.1 ∙ a.1, b.2 ∙ a.2, b.3 ∙ a.3, b.4 ∙ a.4),
    )

pub returns-clause-row : goal.returns-clause-row
returns-clause-row g c =
    let W = (g.met.R.Rule.right c.args.rule).lawful in
    row_ends W c.requires.opens _ refl c.loop-i.invariant.0 c.loop-i-test.false
