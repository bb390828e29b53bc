-- `a_star::all_fair` meets its contract.
-- Assumes nothing.
use Rattle.std.proofs.Common.{◌≡◌, true, false, take, rules, tests}
use Rattle.std.proofs.lemmas.Iterator.{YieldsList-from_slice, YieldsList-from_zip, cases_from_all}
use Rattle.a_star.proofs.Pairs.{fair_pair, fair_cases}
use Rattle.a_star.proofs.all_fair.Goals as goal

pub returns : goal.returns
returns c =
    let v = c.args in
    fair_cases v.m v.marks.now v.guess.now c.requires.0 c.requires.1 c.all.result
    (cases_from_all c.all.new.self _ _ (λ p. fair_pair p ≡ true) (λ p. fair_pair p ≡ false) c.all.ensures.ran
    (YieldsList-from_zip (YieldsList-from_slice (take v.m v.marks.now) cc) (YieldsList-from_slice (take v.m v.guess.now) cc))
    (λ x q k. search (rules, tests)) (λ x q k. search (rules, tests)))
