-- What the code's look at one arc says, and how the search reads what the crate's tests answer.
-- Assumes nothing.
use mathlib.Core.Path.{◌≡◌, refl, sym, ap, ◌∙◌}
use mathlib.Core.Bool.{Bool, true, false, true≢false}
use mathlib.Core.List.{List}
use Prim.Native.Nat.{ℕ, ◌+◌}
use native.Mathlib.Omega.{arith}
use lib.IntN.{ℤ}
use lib.ListN.{set}
use lib.Signed.{le_z}
use mir.Syntax.{w64}
use mir.Val.{SFits, to_z, of_z}
use mir.ValLaws.{to_z-of_z}
use Rattle.whole.specs.Zed.{◌⊕◌, P, N, eq_out, zed}
use Rattle.page.specs.Promise.{entry, Known}
use Rattle.page.specs.Parts.{Tells, ArcChecked, more, less, exact}

-- ---- a test that is answered
pub says_yes : {A B : Type 0} → A → Tells A B true
says_yes a = record { holds = λ e. a; fails = λ e. absurd (true≢false e) }

pub says_no : {A B : Type 0} → B → Tells A B false
says_no b = record { holds = λ e. absurd (true≢false (sym e)); fails = λ e. b }

-- a number is known by its bits
pub bits_one : {x y : ℤ} → SFits w64 x → SFits w64 y → of_z w64 x ≡ of_z w64 y → x ≡ y
bits_one {x} {y} f g e = sym (to_z-of_z w64 x f) ∙ (ap (to_z w64) e ∙ to_z-of_z w64 y g)

-- ---- an arc between two indices with a distance: y is the head's entry, and t the tail's with the cost
module _ {page : List ℤ} {u v : ℕ} {c : ℤ} {met : List ℕ} (ku : Known page u) (kv : Known page v) {y t : ℤ} (p : y ≡ entry page v) (q : t ≡ entry page u ⊕ c) where
  pub met_exactly : y ≡ t → ArcChecked page u v c met (set met v 1) (le_z y t)
  met_exactly e = exact (grind (arith, zed)) ku kv (sym p ∙ (e ∙ q)) refl

  pub not_exactly : (y ≡ t → ⊥) → ArcChecked page u v c met met (le_z y t)
  not_exactly f = go (le_z y t) refl
    where
      go : (r : Bool) → le_z y t ≡ r → ArcChecked page u v c met met r
      go true e = let n = λ (z : P y + N t ≡ P t + N y). f (eq_out y t z) in less refl kv (omega (arith, zed)) refl
      go false e = more refl ku (omega (arith, zed)) refl
