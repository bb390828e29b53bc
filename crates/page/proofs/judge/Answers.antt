-- `page::judge` meets its contract.
-- Assumes nothing.
use Rattle.std.proofs.Common.{rules, arith, FitsSigned, w64, sym, eqb-true, ◌∙◌}
use Rattle.page.specs.Promise.{entry}
use Rattle.page.proofs.Tests.{bits_one}
use Rattle.page.proofs.Verdict.{verdict}
use Rattle.page.proofs.judge.Goals as goal
use Rattle.page.proofs.judge.Goals.{then-page-source-eq0, else-page-source-eq0}
use Rattle.page.proofs.judge.Goals.{then-all_in_range, else-all_in_range}

pub returns-then-arcs_hold : goal.returns-then-arcs_hold
returns-then-arcs_hold c =
    let f : FitsSigned w64 (entry c.args.page.now c.args.source) = search rules in
    elim c.if-all_in_range.branch [
      | then-all_in_range x ↦
          elim c.if-page-source-eq0.branch [
            | then-page-source-eq0 w ↦
                verdict (bits_one f (record { sfits = omega arith }) w.if-page-source-eq0.true) (w.all_in_range.ensures.holds (cc)) (rw x.met-is (x.arcs_hold.ensures.holds (cc))) c.all_met.ensures
            | else-page-source-eq0 w ↦ absurd (w.if-page-source-eq0.false (eqb-true _ 0 (sym w.value-is ∙ x.if-all_in_range.true)))
          ]
      | else-all_in_range x ↦ absurd (cc)
    ]
