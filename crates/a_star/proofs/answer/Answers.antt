-- `a_star::answer` meets its contract.
-- Assumes nothing.
use mathlib.Core.Path.{◌≡◌, refl, sym, ap, ◌∙◌}
use mathlib.Core.Bool.{Bool, true, false}
use mathlib.Core.List.{List}
use Prim.Native.Nat.{ℕ, ◌-◌}
use native.Mathlib.Omega.{arith}
use borrow.Author.Rules.{rules}
use lib.IntN.{ℤ, pos}
use lib.ListN.{get_or, take}
use lib.Signed.{lt_z}
use mir.Syntax.{w64}
use mir.Val.{to_z, of_z}
use Rattle.clean.specs.None.{none_i64}
use Rattle.clean.proofs.Filled.{no_default}
use Rattle.search.specs.Found.{number_of}
use Rattle.a_star.specs.Promise.{at_front}
use Rattle.a_star.specs.Parts.{given, nowhere, found}
use Rattle.a_star.proofs.Path.{trail_some, answer_is}
use Rattle.a_star.proofs.answer.Goals as goal

-- the target's distance, as the machine reads it
given_is : (ds : List ℤ) (t : ℕ) (z : ℤ) (b : Bool) → z ≡ get_or ds t none_i64 → lt_z none_i64 z ≡ b → given ds t ≡ b
unfolding given
given_is ds t z b e f = ap (lt_z none_i64) (sym e) ∙ f

pub write_path-length-requires-clause-goes_back : goal.write_path-length-requires-clause-goes_back
write_path-length-requires-clause-goes_back c =
    let v = c.args in
    let l = v.memory.now.dist.now in
    let e : to_z w64 (of_z w64 (get_or l v.target (pos 0))) ≡ get_or l v.target (pos 0) = search rules in
    let z = e ∙ no_default l v.target (pos 0) none_i64 (omega (arith, c.requires.target, c.requires.dist)) in
    let zero = ap number_of c.in_ok-found.was in
    c.requires.back zero (given_is l v.target _ true z c.if-cost-gt-NONE_I64.true)

pub returns-then-cost-gt-NONE_I64-clause-read : goal.returns-then-cost-gt-NONE_I64-clause-read
returns-then-cost-gt-NONE_I64-clause-read c =
    let v = c.args in
    let l = v.memory.now.dist.now in
    let e : to_z w64 (of_z w64 (get_or l v.target (pos 0))) ≡ get_or l v.target (pos 0) = search rules in
    let z = e ∙ no_default l v.target (pos 0) none_i64 (omega (arith, c.requires.target, c.requires.dist)) in
    let zero = ap number_of c.in_ok-found.was in
    found zero (given_is l v.target _ true z c.if-cost-gt-NONE_I64.true) (answer_is z c.write_path-length.ensures.value)
    (c.write_path-length.ensures.path_after ∙ ap (at_front _) c.fill.ensures)

pub returns-else-cost-gt-NONE_I64-clause-read : goal.returns-else-cost-gt-NONE_I64-clause-read
returns-else-cost-gt-NONE_I64-clause-read c =
    let v = c.args in
    let l = v.memory.now.dist.now in
    let e : to_z w64 (of_z w64 (get_or l v.target (pos 0))) ≡ get_or l v.target (pos 0) = search rules in
    let z = e ∙ no_default l v.target (pos 0) none_i64 (omega (arith, c.requires.target, c.requires.dist)) in
    let zero = ap number_of c.in_ok-found.was in
    nowhere zero (given_is l v.target _ false z c.if-cost-gt-NONE_I64.false) refl c.fill.ensures

pub returns-then-cost-gt-NONE_I64-clause-route : goal.returns-then-cost-gt-NONE_I64-clause-route
returns-then-cost-gt-NONE_I64-clause-route c =
    omega (arith, c.write_path-length.ensures.value, trail_some (take c.args.m c.args.memory.now.preds.now) c.args.source (c.args.m - 1) c.args.target)
