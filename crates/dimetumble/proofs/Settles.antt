-- The contracts of the C functions settle the result, each lent buffer and each lent place. Of all but the page check that is `promise_one` of the
-- question, whose promise they are, or the equation of put. The page check writes its yes as a byte: here is that the byte is settled too.
-- Assumes nothing.
use mathlib.Core.Path.{◌≡◌, refl, sym, ap}
use mathlib.Core.Bool.{true, not}
use mathlib.Core.List.{List}
use Prim.Native.Nat.{ℕ, zero, suc, ◌≤◌}
use native.Mathlib.Omega.{arith}
use lib.IntN.{ℤ}
use borrow.Author.Tests.{ne_eqb}
use Rattle.whole.proofs.Cases.{clash}
use Rattle.net.specs.Net.{Net}
use Rattle.page.specs.Promise.{Answer, answer_of, Promise}
use Rattle.page.proofs.Settles.{promise_one}
use Rattle.dimetumble.specs.Flags.{is_set}

-- a number above 0 is a yes
set : (x : ℕ) → is_set (suc x) ≡ true
set x = ap not (ne_eqb (suc x) 0 (λ z. omega arith))

-- 0 is no, and 1 is the only yes of a byte up to 1
byte_one : (x y : ℕ) → x ≤ 1 → y ≤ 1 → is_set x ≡ is_set y → x ≡ y
byte_one zero zero p q e = refl
byte_one (suc x) (suc y) p q e = omega arith
byte_one zero (suc y) p q e = absurd (clash (set y) (sym e))
byte_one (suc x) zero p q e = absurd (clash (set x) e)

-- two outcomes of the page check that its contract allows are equal
pub page_one : {g : Net ℤ} {s : ℕ} {page : List ℤ} (n n' y y' : ℕ) → Promise g s page (answer_of n (is_set y)) → y ≤ 1 → Promise g s page (answer_of n' (is_set y')) → y' ≤ 1 → (n ≡ n') × (y ≡ y')
page_one n n' y y' a p b q = let one = promise_one a b in (ap (λ (x : Answer). x.number) one, byte_one y y' p q (ap (λ (x : Answer). x.yes) one))
