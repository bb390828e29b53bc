-- `page::arc_holds` meets its contract.
-- Assumes nothing.
use Rattle.std.proofs.Common.{◌≡◌, sym, ◌∙◌, rules, arith, ap, ◌+ℤ◌, FitsSigned, to_z, of_z, w64}
use Rattle.std.proofs.lemmas.Int.{ints, to_z-of_z}
use Rattle.whole.specs.Zed.{◌⊕◌}
use Rattle.page.specs.Promise.{entry, Known}
use Rattle.page.proofs.Tests.{met_exactly, not_exactly}
use Rattle.page.proofs.arc_holds.Goals as goal
use Rattle.page.proofs.arc_holds.Goals.{then-page-v, else-page-v}

pub returns : goal.returns
returns c =
    let page = c.args.page.now in
    let u = c.args.u in
    let v = c.args.v in
    let fu : FitsSigned w64 (entry page u) = search rules in
    let fv : FitsSigned w64 (entry page v) = search rules in
    let ku : Known page u = rw to_z-of_z at c.is_distance.ensures.holds c.if-not-is_distance.false in
    let kv : Known page v = rw to_z-of_z at c.is_distance-2.ensures.holds c.if-not-is_distance-2.false in
    let sum = to_z w64 (of_z w64 (entry page u)) +ℤ to_z w64 (of_z w64 c.from.result) in
    let ft : FitsSigned w64 sum = search rules in
    let p : to_z w64 (of_z w64 (entry page v)) ≡ entry page v = to_z-of_z w64 _ fv in
    let q : to_z w64 (of_z w64 sum) ≡ entry page u ⊕ c.args.cost = omega (arith, ints) in
    elim c.if-page-v.branch [
      | then-page-v w ↦ rw w.met-is (met_exactly ku kv p q (ap (to_z w64) w.if-page-v.true))
      | else-page-v w ↦ rw w.met-is (not_exactly ku kv p q (λ e. w.if-page-v.false (ap (of_z w64) (sym p ∙ (e ∙ to_z-of_z w64 sum ft)))))
    ]
