-- The whole numbers in their order, and the laws of every search over them: all numbers are good keys, and a cost that is not bad lowers no distance.
use mathlib.Core.Path.{◌≡◌, refl}
use mathlib.Core.Bool.{Bool, true, false}
use mathlib.Core.Option.{Option}
use Prim.Native.Nat.{ℕ}
use native.Mathlib.Omega.{arith}
use lib.IntN.{ℤ, pos}
use lib.Signed.{lt_z, ◌≤ℤ◌, ◌<ℤ◌}
use Rattle.whole.specs.Zed.{◌⊕◌, zed, sum}
use Rattle.whole.proofs.Signed.{lt_z_asym, lt_z_neg, lt_z_same}
use Rattle.bag.specs.Order.{IsOrder}
use Rattle.pending.specs.Laws.{Laws}
use Rattle.pending.specs.Ints.{whole}

-- every whole number is a good key
abbrev pub AnyZ : ℤ → Type 0
AnyZ k = Unit {0}

-- what a test is, from the facts
pub lt_is : (a b : ℤ) → a <ℤ b → lt_z a b ≡ true
lt_is a b h = go (lt_z a b) refl
  where
    go : (t : Bool) → lt_z a b ≡ t → lt_z a b ≡ true
    go true e = e
    go false e = absurd (omega (arith, zed))

-- and where it fails
pub lt_isnt : (a b : ℤ) → b ≤ℤ a → lt_z a b ≡ false
lt_isnt a b h = go (lt_z a b) refl
  where
    go : (t : Bool) → lt_z a b ≡ t → lt_z a b ≡ false
    go false e = e
    go true e = absurd (omega (arith, zed))

-- the whole numbers in their order
pub ints : IsOrder lt_z AnyZ
ints = record { asym = λ a b x y. lt_z_asym a b; neg = λ a b c x y z. lt_z_neg a b c; same = λ a b x y. lt_z_same a b }

-- the laws of every such search
pub whole_laws : (key : ℤ → ℕ → ℤ) (target : Option ℕ) (s : ℕ) → Laws (whole key target s) AnyZ
whole_laws key target s = record { order = ints; zero_ok = tt; plus_ok = λ d c x y. tt; key_ok = λ d v x. tt }

-- a cost that is not bad lowers no distance
pub whole_grows : (d c : ℤ) → lt_z c (pos 0) ≡ false → lt_z (d ⊕ c) d ≡ false
whole_grows d c e = lt_isnt (d ⊕ c) d (omega (arith, zed, sum d c))
