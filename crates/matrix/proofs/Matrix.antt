-- A map has one matrix of least totals, and two maps with the same arcs have the same. Its diagonal is 0.
-- Assumes nothing.
use mathlib.Core.Path.{◌≡◌, refl, sym, ◌∙◌, subst}
use mathlib.Core.List.{List}
use mathlib.Core.Logic.{inl, inr}
use Prim.Native.Nat.{ℕ, zero, suc, ◌+◌, ◌*◌, ◌/◌, ◌%◌, ◌≤◌, ◌<◌}
use native.Mathlib.Nat.{mod-lt, div-add-mod', div-lt_iff_lt-mul, mul-le-mul_right}
use native.Mathlib.Omega.{arith}
use native.Mathlib.Decide.{dec_lt}
use lib.IntN.{ℤ, pos}
use lib.ListN.{length, get_or, drop}
use lib.Seq.{ext_get_or}
use lib.Signed.{lt_z, ◌≤ℤ◌}
use mathlib.Core.Bool.{Bool, true, false}
use Rattle.whole.specs.Zed.{zed}
use Rattle.clean.proofs.Filled.{rest_at}
use Rattle.walks.specs.Walk.{Walk, stay, Negative, Entry}
use Rattle.walks.proofs.Over.{entry_one, entry_over}
use Rattle.net.specs.Net.{Net, ArcOf, width, SameNet}
use Rattle.net.proofs.Same.{same_nodes}
use Rattle.matrix.specs.Matrix.{square, Matrix}

-- an entry lies in the square
pub place_in : (p u v : ℕ) → u < p → v < p → u * p + v < p * p
place_in p u v i j = let h : suc u * p ≤ p * p = mul-le-mul_right p i in omega arith

-- so does a row
pub row_in : (p i : ℕ) → i < p → i * p + p ≤ p * p
row_in p i h = let k : suc i * p ≤ p * p = mul-le-mul_right p h in omega arith

-- an entry of a row comes before the rows after it
pub row_before : (p i j a : ℕ) → i < j → a < p → i * p + a < j * p
row_before p i j a h l = let k : suc i * p ≤ j * p = mul-le-mul_right p h in omega arith

-- with at most 1024 rows it is small
pub square_small : (p : ℕ) → p ≤ 1024 → p * p ≤ 1048576
square_small p h = let a : p * p ≤ 1024 * p = mul-le-mul_right p h in omega arith

-- each place of the square is that of a row and a column
pub record Place (p x : ℕ) : Type 0 where
  pub i : ℕ
  pub j : ℕ
  pub row : i < p
  pub column : j < p
  pub at : i * p + j ≡ x

pub place : (p x : ℕ) → x < p * p → Place p x
place zero x h = absurd (let k : zero * zero ≤ 0 = omega arith in omega arith)
place (suc p) x h = record { i = x / suc p; j = x % suc p; row = (div-lt_iff_lt-mul {k = suc p} {x = x} {y = suc p} (omega arith)).1 h; column = mod-lt x (omega arith); at = div-add-mod' x (suc p) }

-- two matrices of a map are equal
pub matrix_one : {g : Net ℤ} {before a b : List ℤ} → Matrix g before a → Matrix g before b → a ≡ b
matrix_one {g} {before} {a} {b} p q = ext_get_or (pos 0) a b (p.long ∙ sym q.long) (λ x h. at x (dec_lt x (square g)))
  where
    at : (x : ℕ) → Dec (x < square g) → get_or a x (pos 0) ≡ get_or b x (pos 0)
    at x (yes h) =
        let k = place (width g) x h in
        subst (λ (y : ℕ). get_or a y (pos 0) ≡ get_or b y (pos 0)) k.at (entry_one (p.each k.i k.j k.row k.column) (q.each k.i k.j k.row k.column))
    at x (no f) = rest_at (square g) a b (pos 0) x (p.rest ∙ sym q.rest) (omega (arith, f))

-- maps with the same arcs have the same matrix
pub matrix_over : {g g' : Net ℤ} {before after : List ℤ} → SameNet g g' → Matrix g before after → Matrix g' before after
matrix_over {g} {g'} {before} {after} s p = record {
  long = p.long;
  each =
      subst (λ (r : List ℕ). (i j : ℕ) → i < length r → j < length r → Entry (ArcOf g') (get_or r i 0) (get_or r j 0) (get_or after (i * length r + j) (pos 0))) (same_nodes s)
      (λ i j h k. entry_over (λ u v c. (s.arcs u v c).0) (λ u v c. (s.arcs u v c).1) (p.each i j h k));
  rest = subst (λ (r : List ℕ). drop (length r * length r) after ≡ drop (length r * length r) before) (same_nodes s) p.rest;
}

-- without a closed walk below zero none totals below zero
pub closed_up : {Arc : ℕ → ℕ → ℤ → Type 0} {x : ℕ} {t : ℤ} → (Negative Arc → ⊥) → Walk Arc x x t → pos 0 ≤ℤ t
closed_up {Arc} {x} {t} f w = go (lt_z t (pos 0)) refl
  where
    go : (b : Bool) → lt_z t (pos 0) ≡ b → pos 0 ≤ℤ t
    go true e = absurd (f (record { x = x; t = t; loop = w; below = omega (arith, zed) }))
    go false e = omega (arith, zed)

-- so an index is at 0 from itself
entry_zero : {Arc : ℕ → ℕ → ℤ → Type 0} {u : ℕ} {d : ℤ} → (Negative Arc → ⊥) → Entry Arc u u d → d ≡ pos 0
entry_zero {d} f (inl l) =
    let h : pos 0 ≤ℤ d = closed_up f l.0.walk in
    let k : d ≤ℤ pos 0 = l.0.least (pos 0) (stay refl) in
    omega (arith, zed)
entry_zero f (inr e) = absurd (e.1 (pos 0) (stay refl))

pub diagonal_zero : {g : Net ℤ} {before after : List ℤ} → (Negative (ArcOf g) → ⊥) → Matrix g before after → (i : ℕ) → i < width g → get_or after (i * width g + i) (pos 0) ≡ pos 0
diagonal_zero f p i h = entry_zero f (p.each i i h h)
