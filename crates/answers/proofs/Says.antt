-- What is printed of an engine's answer: the refusal after a number, the lines after 0; and what the printing functions ask of it. A path that stands in a buffer is no
-- longer than the buffer.
-- Assumes nothing.
use mathlib.Core.Path.{◌≡◌, ap}
use mathlib.Core.List.{List}
use mathlib.Core.Logic.{⊎_elim}
use Prim.Native.Nat.{ℕ, ◌≤◌}
use native.Mathlib.Omega.{arith}
use lib.IntN.{ℤ}
use lib.ListN.{length, length-append, drop}
use Rattle.clean.specs.Fill.{filled}
use Rattle.clean.specs.None.{none_u32}
use Rattle.net.specs.Net.{Net}
use Rattle.lines.specs.Text.{Printed}
use Rattle.text.specs.Text.{answer_text}
use Rattle.a_star.specs.Promise as star
use Rattle.a_star.proofs.Settles.{cases}

-- what was printed of slices was printed of equal ones
module _ {A B : Type 0} {x : A} {y : B} {out after : List ℕ} {at r : ℕ} (number : ℕ) (lines : A → B → List ℕ) where
  pub of_equal : (x' : A) (y' : B) → Printed out at (answer_text number (lines x y)) after r → x ≡ x' → y ≡ y' → Printed out at (answer_text number (lines x' y')) after r
  of_equal x' y' p e f = rw (← e, ← f) p

-- a path is no longer than the buffer that it stands in
path_within : (l p : List ℕ) → length l ≤ length (star.at_front l p)
unfolding star.at_front
path_within l p = omega (arith, length-append l (drop (length l) p))

pub path_fits : {g : Net ℤ} {q : star.Question} {b e : star.Buffers} {r : star.Answer} → star.Promise g q b e r → r.length ≤ length e.path
path_fits {g} {q} {b} {e} {r} p =
    ⊎_elim (λ x. omega (arith, ap (λ (y : star.Result). y.length) x.2))
    (λ x. said (filled g.bound none_u32 b.path) x.1.0.path (ap (λ (y : star.Result). y.length) x.1.0.leaves) (ap (λ (y : star.Result). y.buffers.path) x.1.0.leaves))
    (cases p)
  where
    said : (p l : List ℕ) → r.length ≡ length l → e.path ≡ star.at_front l p → r.length ≤ length e.path
    said p l n w = omega (arith, n, ap length w, path_within l p)
