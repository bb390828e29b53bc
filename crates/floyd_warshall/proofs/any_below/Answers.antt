-- `floyd_warshall::any_below` meets its contract.
-- Assumes nothing.
use mathlib.Core.Path.{◌≡◌, refl, sym, ◌∙◌, subst}
use mathlib.Core.Bool.{Bool, true, false}
use mathlib.Core.List.{List}
use Prim.Native.Nat.{ℕ, ◌+◌, ◌*◌, ◌<◌}
use native.Mathlib.Omega.{arith}
use borrow.Author.Tests.{tests}
use lib.IntN.{ℤ, pos}
use lib.ListN.{length, get_or}
use lib.Signed.{lt_z}
use Rattle.std.specs.Bool.{MatchBool}
use Rattle.std.specs.List.{range_with_len, HoldsAt, AllWithin}
use Rattle.std.proofs.Common.{rules, zero-add}
use Rattle.std.proofs.Math.Nat.{sub-zero}
use Rattle.std.proofs.lemmas.Iterator.{YieldsList-from_range, cases_from_any}
use Rattle.std.proofs.lemmas.List.FromFn.{length-range_with_len, get_or-range_with_len}
use Rattle.floyd_warshall.specs.Rounds.{any_below}
use Rattle.floyd_warshall.proofs.Turns.{none_is, one_below}
use Rattle.floyd_warshall.proofs.any_below.Goals as goal

-- the i-th test
abbrev low : List ℤ → ℕ → ℕ → ℕ → Bool
low l first step i = lt_z (get_or l (first + i * step) (pos 0)) (pos 0)

place : (n i : ℕ) → i < n → get_or (range_with_len 0 n) i 0 ≡ i
place n i h = get_or-range_with_len 0 n i 0 h ∙ zero-add i

settled : (l : List ℤ) (first step n : ℕ) (r : Bool)
    → MatchBool r ((k : ℕ) × (k < length (range_with_len 0 n)) × HoldsAt (λ i. low l first step i ≡ true) (range_with_len 0 n) k)
    (AllWithin (λ i. low l first step i ≡ false) (range_with_len 0 n) 0 (length (range_with_len 0 n))) → r ≡ any_below l first step n
settled l first step n true m =
    let h : m.0 < n = omega (arith, m.1, length-range_with_len 0 n) in
    sym (one_below l first step n m.0 h (subst (λ i. low l first step i ≡ true) (place n m.0 h) (m.2 0)))
settled l first step n false m =
    sym (none_is l first step n (λ i h. subst (λ i. low l first step i ≡ false) (place n i h) (m i 0 (omega arith) (omega (arith, length-range_with_len 0 n)))))

pub returns : goal.returns
returns c =
    let m = cases_from_any _ _ c.any.result (λ i. low c.args.cells.now c.args.first c.args.step i ≡ true) (λ i. low c.args.cells.now c.args.first c.args.step i ≡ false) c.any.ensures.ran
    (YieldsList-from_range 0 c.args.n c.args.n refl (sub-zero c.args.n)) (λ x q k. search (rules, tests)) (λ x q k. search (rules, tests)) in
    settled _ _ _ _ _ m
