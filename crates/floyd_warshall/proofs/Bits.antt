-- A signed number that passed through a machine word is the number itself: what the lesser of two is, read back.
-- Assumes nothing.
use mathlib.Core.Path.{◌≡◌, refl}
use mathlib.Core.Bool.{true, false, cond}
use lib.IntN.{ℤ}
use lib.Signed.{lt_z}
use Rattle.std.specs.Int.{int_min}
use Rattle.floyd_warshall.specs.Rounds.{pick_z, lesser}

pub min_lesser : (a b : ℤ) → int_min a b ≡ lesser a b
unfolding lesser
min_lesser a b = elim (lt_z b a) as (λ t. cond t b a ≡ pick_z t b a) [ true ↦ refl | false ↦ refl ]
