use Rattle.std.proofs.Common.{arith, ◌≡◌, true, false, sym, ◌∙◌}
use Rattle.table.proofs.Laws.{inside_stop, inside_step}
use Rattle.table.proofs.each_inside.Goals as goal

pub returns-then-not-ends_present : goal.returns-then-not-ends_present
returns-then-not-ends_present c =
    let s = c.loop-i.invariant in
    let e : c.ends_present.result ≡ false = c.if-not-ends_present.true in
    sym (inside_stop s.0 c.loop-i-test.true (sym c.ends_present.ensures ∙ e))

pub loop-i-preserved : goal.loop-i-preserved
loop-i-preserved c =
    let s = c.loop-i.invariant in
    let e : c.ends_present.result ≡ true = c.if-not-ends_present.false in
    (s.0, omega arith, inside_step s.0 c.loop-i-test.true s.2 (sym c.ends_present.ensures ∙ e))
