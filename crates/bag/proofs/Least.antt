-- Two least pairs of one content are one pair, so that a take is settled. Assumes nothing.
use mathlib.Core.Path.{◌≡◌, sym, ap, ◌∙◌}
use mathlib.Core.Bool.{Bool}
use mathlib.Core.List.{List}
use mathlib.Core.Option.{Option, none, some}
use Prim.Native.Nat.{ℕ, ◌≤◌}
use native.Mathlib.Omega.{arith}
use lib.ListN.{get_or}
use Rattle.bag.specs.Content.{IsLeast}
use Rattle.bag.proofs.Order.{later_tells}

-- whatever the test of keys is: of two pairs neither of which stands before the other the indices are one
pub least_one : {K : Type 0} (lt : K → K → Bool) (c : List (Option K)) (k j : K) (v u : ℕ) → IsLeast lt c k v → IsLeast lt c j u → (v ≡ u) × (k ≡ j)
least_one lt c k j v u A B =
    let a = later_tells lt j u k v (A.least j u B.found) in
    let b = later_tells lt k v j u (B.least k v A.found) in
    let l : v ≤ u = a.1 b.0 in
    let m : u ≤ v = b.1 a.0 in
    let i : v ≡ u = omega arith in
    let s : some k ≡ some j = sym A.found ∙ ap (λ (x : ℕ). get_or c x none) i ∙ B.found in
    (i, cc s)
