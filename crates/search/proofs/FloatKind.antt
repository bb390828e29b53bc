-- The f64 search keeps the laws of its kind, and its tests are the pending bag's.
-- Assumes nothing.
use mathlib.Core.Path.{◌≡◌, refl, sym, ap, subst}
use mathlib.Core.Bool.{Bool, true, false, not, ◌&&◌, ◌||◌}
use mathlib.Core.Logic.{◌⊎◌, inl, inr}
use mathlib.Core.Option.{none, some}
use Prim.Native.Nat.{ℕ}
use lib.Dec.{eqb}
use lib.Ieee.{Float}
use Rattle.clean.specs.None.{none_f64}
use Rattle.float.specs.Dist.{Dist64, lt64}
use Rattle.float.specs.Stored.{Stored}
use Rattle.float.specs.Stored as stored
use Rattle.float.specs.Cutoff.{past}
use Rattle.float.specs.Better.{better_than, better_within}
use Rattle.std.specs.Prelude.{Some}
use Rattle.bag.specs.Order.{pick}
use Rattle.pending.specs.Literal.{better}
use Rattle.turns.specs.Kind.{turn_of}
use Rattle.turns.specs.Row.{better_at, worth}
use Rattle.search.specs.Floats.{read64, kind64}

-- ---- the tests of the code are the pending bag's
worth_is : (l : Float) (n x : ℕ) → better_than n x ≡ better_at (kind64 l) n x
unfolding better_than read64
worth_is l n x = go (eqb x none_f64)
  where
    go : (b : Bool) → (b || lt64 n x) ≡ better (turn_of (kind64 l)) n (pick b none (some x))
    go true = refl
    go false = refl

pub better_at_lem : (l : Float) (n x : ℕ) → better_within l n x ≡ worth (kind64 l) n x
unfolding better_within
better_at_lem l n x = ap (λ (y : Bool). not (past (Some l) n) && y) (worth_is l n x)

-- ---- what they ask
-- an entry that is blank or a distance
pub entry_stored : (x : ℕ) → (x ≡ none_f64) ⊎ Dist64 x → Stored x
entry_stored x (inl q) = subst Stored (sym q) stored.none
entry_stored x (inr p) = stored.some p
