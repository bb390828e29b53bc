-- `page::all_in_range` meets its contract.
-- Assumes nothing.
use Rattle.std.proofs.Common.{◌≤◌, ◌<◌, ℕ, List, ℤ, pos, length, take, rules, arith, Bool, true, false, MatchBool, subst, sym}
use Rattle.std.specs.List.{HoldsAt, AllWithin}
use Rattle.std.proofs.lemmas.List.{get_or-take, length-take-le}
use Rattle.std.proofs.lemmas.Iterator.{cases_from_all, YieldsList-from_slice}
use Rattle.page.specs.Promise.{InRange, Ranged}
use Rattle.page.specs.Parts.{Decides}
use Rattle.page.proofs.Tests.{says_yes, says_no}
use Rattle.page.proofs.all_in_range.Goals as goal

told : (m : ℕ) (page : List ℤ) (r : Bool) → m ≤ length page
    → MatchBool r (AllWithin InRange (take m page) 0 (length (take m page))) ((k : ℕ) × (k < length (take m page)) × HoldsAt (λ d. InRange d → ⊥) (take m page) k) → Decides (Ranged m page) r
told m page true l h = let e = length-take-le m page l in says_yes (λ v q. subst InRange (get_or-take m page v (pos 0) q) (h v (pos 0) (omega arith) (omega arith)))
told m page false l h =
    let e = length-take-le m page l in
    let q : h.0 < m = omega (arith, h.1) in
    says_no (λ w. h.2 (pos 0) (subst InRange (sym (get_or-take m page h.0 (pos 0) q)) (w h.0 q)))

pub returns : goal.returns
returns c =
    let xs = take c.args.m c.args.page.now in
    told c.args.m c.args.page.now _ c.requires (cases_from_all _ _ _ InRange (λ d. InRange d → ⊥) c.all.ensures.ran (YieldsList-from_slice xs (cc)) (λ x q k. search rules) (λ x q k. search rules))
