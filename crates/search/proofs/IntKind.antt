-- The integer search keeps the laws of its kind, and its keys are in range.
-- Distances are not below zero, so none (-2^63) stands for no distance only, and the code's two tests are the bag's "none there, or strictly smaller". A key is a
-- distance and a heuristic: for one index a smaller distance has no greater key. A distance is at most `far` and a cost at most `dear`, a heuristic lies within
-- 2^42: so the sums fit 64 bits and the keys the range of the bag.
-- Assumes nothing.
use mathlib.Core.Path.{◌≡◌, refl, sym, ap, ◌∙◌}
use mathlib.Core.Bool.{Bool, true, false, cond}
use mathlib.Core.List.{List}
use mathlib.Core.Option.{none, some}
use Prim.Native.Nat.{ℕ, ◌-◌, ◌≤◌, ◌^◌}
use native.Mathlib.Omega.{arith}
use lib.Dec.{eqb}
use lib.IntN.{ℤ, pos, negsuc, ◌+ℤ◌}
use lib.Signed.{lt_z, ◌≤ℤ◌}
use lib.ListN.{length, get_or, get_or-eq_default}
use borrow.Author.Tests.{eq-eqb}
use mir.Syntax.{w64}
use mir.Val.{SFits, to_z, of_z}
use mir.ValLaws.{to_z-of_z}
use Rattle.whole.specs.Zed.{◌⊕◌, zed, sum}
use Rattle.clean.specs.None.{none_i64}
use Rattle.clean.specs.Better.{better_than}
use Rattle.clean.proofs.Better.{better_over, better_none}
use mathlib.Core.Logic.{◌⊎◌, inl, inr}
use Rattle.bag.specs.Order.{pick}
use Rattle.pending.specs.Literal.{better}
use Rattle.pending.proofs.Ints.{lt_is}
use Rattle.turns.specs.Kind.{turn_of}
use Rattle.turns.specs.Row.{better_at, worth}
use Rattle.search.specs.Ints.{Fair, key_of, dist_in, guided}
use Rattle.search.specs.Steps.{Keyed}

-- ---- the tests of the code are the pending bag's
pub better_at_lem : (h : List ℤ) (n old : ℤ) → better_than n old ≡ worth (guided h) n old
unfolding better_than dist_in
better_at_lem h n old = go (lt_z none_i64 old)
  where
    go : (b : Bool) → cond b (lt_z n old) true ≡ better (turn_of (guided h)) n (pick b (some old) none)
    go true = refl
    go false = refl

-- none is there
pub better_there : (h : List ℤ) (n old : ℤ) → SFits w64 old → of_z w64 old ≡ 9223372036854775808 → eqb (of_z w64 old) 9223372036854775808 ≡ better_at (guided h) n old
better_there h n old f e =
    let is : old ≡ none_i64 = sym (to_z-of_z w64 old f) ∙ ap (to_z w64) e in
    eq-eqb _ _ e ∙ better_none n old (ap (lt_z none_i64) is) ∙ better_at_lem h n old

-- a distance is there
pub better_than_it : (h : List ℤ) (n old : ℤ) → SFits w64 n → SFits w64 old → (of_z w64 old ≡ 9223372036854775808 → ⊥) → (old ≡ none_i64) ⊎ (pos 0 ≤ℤ old)
    → lt_z (to_z w64 (of_z w64 n)) (to_z w64 (of_z w64 old)) ≡ better_at (guided h) n old
better_than_it h n old g f other (inl e) = absurd (other (ap (of_z w64) e))
better_than_it h n old g f other (inr p) = (λ i. lt_z (to_z-of_z w64 n g i) (to_z-of_z w64 old f i)) ∙ better_over n old (lt_is none_i64 old (omega (arith, zed))) ∙ better_at_lem h n old

-- ---- keys
-- a heuristic that is fair fits
guess_fits : (h : List ℤ) (v : ℕ) → Fair h v → SFits w64 (get_or h v (pos 0))
guess_fits h v f = let l : negsuc (2 ^ 42 - 1) ≤ℤ get_or h v (pos 0) = f.low in let u : get_or h v (pos 0) ≤ℤ pos (2 ^ 42) = f.high in omega (arith, zed)

-- so does a key in range
key_fits : (h : List ℤ) (d : ℤ) (v : ℕ) → Keyed h d v → SFits w64 (d ⊕ get_or h v (pos 0))
key_fits h d v k =
    let l : negsuc (2 ^ 42 - 1) ≤ℤ get_or h v (pos 0) = k.fair.low in
    let u : get_or h v (pos 0) ≤ℤ pos (2 ^ 42) = k.fair.high in
    omega (arith, zed, sum d (get_or h v (pos 0)), k.low, k.high)

-- the sum of what the machine holds is the key
pub key_is : (h : List ℤ) (d : ℤ) (v : ℕ) → SFits w64 d → Keyed h d v
    → to_z w64 (of_z w64 (to_z w64 (of_z w64 d) +ℤ to_z w64 (of_z w64 (get_or h v (pos 0))))) ≡ key_of h d v
unfolding key_of
key_is h d v f k =
    let g = get_or h v (pos 0) in
    let made : to_z w64 (of_z w64 d) +ℤ to_z w64 (of_z w64 g) ≡ d ⊕ g = λ i. to_z-of_z w64 d f i +ℤ to_z-of_z w64 g (guess_fits h v k.fair) i in
    ap (λ (z : ℤ). to_z w64 (of_z w64 z)) made ∙ to_z-of_z w64 (d ⊕ g) (key_fits h d v k)

-- past the end of the heuristic it is the distance
pub key_past : (h : List ℤ) (d : ℤ) (v : ℕ) → length h ≤ v → d ≡ key_of h d v
unfolding key_of
key_past h d v l = let e : get_or h v (pos 0) ≡ pos 0 = get_or-eq_default h (pos 0) l in let k : d ≡ d ⊕ pos 0 = omega (arith, zed, sum d (pos 0)) in k ∙ ap (λ (z : ℤ). d ⊕ z) (sym e)
