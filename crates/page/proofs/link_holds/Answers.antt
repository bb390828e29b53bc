-- `page::link_holds` meets its contract.
-- Assumes nothing.
use Rattle.std.proofs.Common.{sym, subst, rules, get_or, pos, FitsSigned, w32}
use Rattle.std.proofs.lemmas.Int.{to_z-of_z}
use Rattle.page.specs.Parts.{Tells}
use Rattle.page.proofs.Tests.{says_yes, says_no}
use Rattle.page.proofs.Marks.{link_off, link_one, link_both}
use Rattle.page.proofs.link_holds.Goals as goal

pub returns-then-net : goal.returns-then-net
returns-then-net c =
    let f : FitsSigned w32 (get_or c.args.net.costs.costs.now c.args.i (pos 0)) = search rules in
    subst (Tells _ _) (sym c.if-net.true)
    (says_yes (link_one c.requires.0 c.requires.1 (to_z-of_z w32 _ f) (rw (c.from-a.ensures, c.from-b.ensures) at c.arc_holds.ensures) c.if-arc_holds.true c.if-net.true))

pub returns-else-net : goal.returns-else-net
returns-else-net c =
    let f : FitsSigned w32 (get_or c.args.net.costs.costs.now c.args.i (pos 0)) = search rules in
    link_both c.requires.0 c.requires.1 (to_z-of_z w32 _ f) (rw (c.from-a.ensures, c.from-b.ensures) at c.arc_holds.ensures) c.if-arc_holds.true c.if-net.false
    (to_z-of_z w32 _ f) (rw (c.from-a.ensures, c.from-b.ensures) at c.arc_holds-else-net.ensures)

pub returns-else-arc_holds : goal.returns-else-arc_holds
returns-else-arc_holds c =
    let f : FitsSigned w32 (get_or c.args.net.costs.costs.now c.args.i (pos 0)) = search rules in
    subst (Tells _ _) (sym c.if-arc_holds.false)
    (says_no (link_off c.requires.0 c.requires.1 (to_z-of_z w32 _ f) (rw (c.from-a.ensures, c.from-b.ensures) at c.arc_holds.ensures) c.if-arc_holds.false))
