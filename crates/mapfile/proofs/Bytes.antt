-- The numbers of a map file are those that the library reads from the bytes that a number takes.
-- Assumes nothing.
use mathlib.Core.Path.{◌≡◌, refl, sym, ap, ◌∙◌}
use mathlib.Core.Bool.{Bool, true, false, cond}
use mathlib.Core.List.{List}
use Prim.Native.Nat.{ℕ, suc, ◌+◌, ◌-◌, ◌<◌}
use native.Mathlib.Omega.{arith}
use borrow.Author.Tests.{ltb-true, ltb-false}
use lib.Dec.{ltb}
use lib.IntN.{pos, negsuc}
use lib.ListN.{get_or, take, drop}
use mir.Val.{to_z, of_z, SFits}
use mir.ValLaws.{to_z-of_z}
use mir.Syntax.{w16, w32, w64}
use Rattle.std.specs.Int.{from_le_bytes}
use Rattle.std.proofs.lemmas.List.{get_or-take, get_or-drop}
use Rattle.mapfile.specs.Bytes.{u16_at, u32_at, u64_at, cost_of}

module _ (s : List ℕ) (k : ℕ) where
  -- a byte among n
  byte : (n i j : ℕ) → i < n → j ≡ k + i → get_or (take n (drop k s)) i 0 ≡ get_or s j 0
  byte n i j h e = get_or-take n (drop k s) i 0 h ∙ get_or-drop k s i 0 ∙ ap (λ (m : ℕ). get_or s m 0) (sym e)

  pub u16_le : from_le_bytes w16 (take 2 (drop k s)) ≡ u16_at s k
  unfolding u16_at
  u16_le = omega (arith, byte 2 0 k (omega arith) (omega arith), byte 2 1 (k + 1) (omega arith) refl)

  pub u32_le : from_le_bytes w32 (take 4 (drop k s)) ≡ u32_at s k
  unfolding u16_at u32_at
  u32_le =
      let b = byte 4 in
      omega (arith, b 0 k (omega arith) (omega arith), b 1 (k + 1) (omega arith) refl, b 2 (k + 2) (omega arith) refl, b 3 (k + 2 + 1) (omega arith) (omega arith))

  pub u64_le : from_le_bytes w64 (take 8 (drop k s)) ≡ u64_at s k
  unfolding u16_at u32_at u64_at
  u64_le =
      let b = byte 8 in
      omega (
        arith,
        b 0 k (omega arith) (omega arith),
        b 1 (k + 1) (omega arith) refl,
        b 2 (k + 2) (omega arith) refl,
        b 3 (k + 2 + 1) (omega arith) (omega arith),
        b 4 (k + 4) (omega arith) refl,
        b 5 (k + 4 + 1) (omega arith) (omega arith),
        b 6 (k + 4 + 2) (omega arith) (omega arith),
        b 7 (k + 4 + 2 + 1) (omega arith) (omega arith),
      )

-- the signed number that 32 bits stand for
pub cost_is : (n : ℕ) → to_z w32 n ≡ cost_of n
unfolding cost_of
cost_is n = let e : 4294967296 - suc n ≡ 4294967295 - n = omega arith in ap (λ (k : ℕ). cond (ltb n 2147483648) (pos n) (negsuc k)) e

-- it fits
fits_by : (n : ℕ) (b : Bool) → ltb n 2147483648 ≡ b → SFits w32 (cond b (pos n) (negsuc (4294967295 - n)))
fits_by n true e = record { sfits = ltb-true n 2147483648 e }
fits_by n false e = record { sfits = omega (arith, ltb-false n 2147483648 e) }

-- a cost that is written and read back
pub cost_back : (n : ℕ) → to_z w32 (of_z w32 (cost_of n)) ≡ cost_of n
unfolding cost_of
cost_back n = to_z-of_z w32 _ (fits_by n (ltb n 2147483648) refl)

-- the cost of a link
pub ruleset costs = (u32_le, cost_is, cost_back)
