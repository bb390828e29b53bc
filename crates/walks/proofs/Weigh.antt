-- A store changes what a list weighs by the one element.
use mathlib.Core.Path.{◌≡◌}
use mathlib.Core.List.{List, [], ◌∷◌}
use Prim.Native.Nat.{ℕ, zero, suc, ◌+◌, ◌<◌}
use native.Mathlib.Omega.{arith}
use lib.ListN.{length, set, get_or}
use lib.IntN.{ℤ}
use Rattle.walks.specs.Weigh.{weigh}

-- before and after a store
pub weigh_set : (w : ℤ → ℕ) (l : List ℤ) (v : ℕ) (x d : ℤ) → v < length l → weigh w (set l v x) + w (get_or l v d) ≡ weigh w l + w x
unfolding weigh
weigh_set w [] v x d h = absurd (omega arith)
weigh_set w (y ∷ l) zero x d h = omega arith
weigh_set w (y ∷ l) (suc v) x d h = omega (arith, weigh_set w l v x d (omega arith))
