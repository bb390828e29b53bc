-- The code's test of the target is the pending bag's.
-- Assumes nothing.
use mathlib.Core.Path.{◌≡◌, refl, sym, ap, ◌∙◌}
use mathlib.Core.Bool.{Bool, true, false}
use mathlib.Core.Option.{none, some}
use Prim.Native.Nat.{ℕ, ◌<◌}
use native.Mathlib.Omega.{arith}
use native.Mathlib.Decide.{ℕ_discrete}
use lib.Dec.{ltb, eqb}
use borrow.Author.Tests.{lt-ltb, eq-eqb, ne_eqb}
use Rattle.std.specs.Prelude.{Option as Given, None, Some}
use Rattle.std.specs.Option.{option_eq}
use Rattle.bag.specs.Order.{pick}
use Rattle.pending.specs.Setting.{is_target}
use Rattle.search.specs.Ints.{target_of}
use Rattle.search.specs.Target.{target_in}

-- a target that is given is u exactly if the numbers are the same
target_here : (m t u : ℕ) → u < m → u ≡ t → is_target (target_of m t) u ≡ true
unfolding target_of
target_here m t u h e = ap (λ (b : Bool). is_target (pick b (some t) none) u) (lt-ltb t m (omega arith)) ∙ eq-eqb u t e

target_there : (m t u : ℕ) → (u ≡ t → ⊥) → is_target (target_of m t) u ≡ false
unfolding target_of
target_there m t u n = go (ltb t m)
  where
    go : (b : Bool) → is_target (pick b (some t) none) u ≡ false
    go true = ne_eqb u t n
    go false = refl

pub target_is : (m : ℕ) (target : Given ℕ) (u : ℕ) → u < m → is_target (target_in m target) u ≡ option_eq eqb target (Some u)
target_is m None u h = refl
target_is m (Some t) u h = go (ℕ_discrete u t)
  where
    go : Dec (u ≡ t) → is_target (target_of m t) u ≡ eqb t u
    go (yes e) = target_here m t u h e ∙ sym (eq-eqb t u (sym e))
    go (no d) = target_there m t u d ∙ sym (ne_eqb t u (λ e. d (sym e)))
