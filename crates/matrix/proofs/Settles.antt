-- The promise settles the number, the matrix and the scratch, and goes by the arcs alone; each number is given exactly when 01 says.
-- Assumes nothing.
use mathlib.Core.Path.{◌≡◌, refl, sym, ap, ◌∙◌}
use mathlib.Core.Bool.{Bool, true, false}
use mathlib.Core.List.{List}
use mathlib.Core.Logic.{◌↔◌}
use Prim.Native.Nat.{ℕ, ◌*◌}
use native.Mathlib.Omega.{arith}
use lib.IntN.{ℤ, pos}
use lib.Signed.{◌<ℤ◌}
use Rattle.whole.specs.Zed.{◌⊕◌, zed, sum}
use Rattle.numbers.specs.Numbers.{here, past, Follows, At, Given}
use Rattle.numbers.specs.Over.{Over}
use Rattle.numbers.specs.Tests.{first_no}
use Rattle.numbers.proofs.Numbers.{◌then◌, is_one, follows_one, exactly, given, follows_over, behind, itself}
use Rattle.numbers.proofs.Numbers as numbers
use Rattle.numbers.proofs.Beside.{beside, alike}
use Rattle.clean.specs.Fill.{filled}
use Rattle.clean.specs.None.{none_i64}
use Rattle.walks.specs.Walk.{stay, step, Negative}
use Rattle.walks.proofs.Over.{negative_over}
use Rattle.net.specs.Net.{Net, ArcOf, inside_net, SameNet}
use Rattle.net.proofs.Same.{arc_turned, same_inside, same_width}
use Rattle.matrix.specs.Matrix.{Buffers, buffers_of, table, AllPairs}
use Rattle.matrix.proofs.Matrix.{matrix_one, matrix_over}

module _ {S : Type 0} {g : Net ℤ} {enough : Bool} {clear : S} {b : Buffers S} where
  -- two answers that the promise allows are equal: after 0 the matrix is settled entry by entry, else the row names the buffers
  pub promise_one : {e e' : Buffers S} {number number' : ℕ} → AllPairs g enough clear b e number → AllPairs g enough clear b e' number' → (number ≡ number') × (e ≡ e')
  promise_one {e} {e'} {number} {number'} p q =
      follows_one (table g enough clear b) e e' number number'
      (is_one then is_one then is_one then (λ x y p q. λ i. buffers_of (matrix_one p.0 q.0 i) ((p.1 ∙ sym q.1) i)) then tt) p.follows q.follows

  module _ {e : Buffers S} {number : ℕ} (p : AllPairs g enough clear b e number) where
    -- each number exactly when its row is reached, and what is then left
    pub promise_exactly : (k : ℕ) → (number ≡ k) ↔ At k (table g enough clear b)
    promise_exactly = exactly (table g enough clear b) e number p.follows

    pub promise_given : (k : ℕ) → number ≡ k → Given k (table g enough clear b) e
    promise_given = given (table g enough clear b) e number p.follows

module _ {S : Type 0} (g : Net ℤ) (enough : Bool) (clear : S) (b : Buffers S) where
  -- a refusal is what the promise says
  pub refused : (n : ℕ) → n ≡ first_no 2 (table g enough clear b) → (n ≡ 0 → ⊥) → AllPairs g enough clear b b n
  refused n q f = record { follows = numbers.refused 2 (table g enough clear b) b (refl, (refl, tt)) n q f }

  -- no refusal: nothing is too short, and each link is inside
  pub passed : first_no 2 (table g enough clear b) ≡ 0 → (enough ≡ true) × (inside_net g ≡ true)
  passed q = let p = numbers.passed 2 (table g enough clear b) (refl, (refl, tt)) q in (p.0, p.1.0)

-- undirected: a cost below zero, there and back, is a closed walk below zero: 7 for every undirected map with a negative cost
pub undirected_negative : (g : Net ℤ) → g.directed ≡ false → (u v : ℕ) (c : ℤ) → ArcOf g u v c → c <ℤ pos 0 → Negative (ArcOf g)
undirected_negative g e u v c a h = record {
  x = u;
  t = c ⊕ (c ⊕ pos 0);
  loop = step a (step (arc_turned g e u v c a) (stay refl) refl) refl;
  below = omega (arith, zed, sum c (c ⊕ pos 0), sum c (pos 0));
}

pub undirected_seven : {S : Type 0} {g : Net ℤ} {clear : S} {b e : Buffers S} {number : ℕ} → AllPairs g true clear b e number → inside_net g ≡ true → g.directed ≡ false → (u v : ℕ) (c : ℤ)
    → ArcOf g u v c → c <ℤ pos 0 → number ≡ 7
undirected_seven {g} p i d u v c a h = (promise_exactly p 7).1 (refl, (i, undirected_negative g d u v c a h))

-- by the same arcs, with scratch that is as long and as clear
pub promise_arcs : {S : Type 0} {g g' : Net ℤ} {enough enough' : Bool} {clear clear' : S} {b e : Buffers S} {number : ℕ} → SameNet g g' → enough ≡ enough' → clear ≡ clear'
    → AllPairs g enough clear b e number → AllPairs g' enough' clear' b e number
promise_arcs {g} {g'} {enough} {enough'} {clear} {clear'} {b} {e} {number} same l c p =
    record { follows = follows_over (table g enough clear b) (table g' enough' clear' b) e number rows p.follows }
  where
    -- row by row
    rows : Over (table g enough clear b) (table g' enough' clear' b)
    rows =
        (refl, l, λ e q. q)
        then (refl, same_inside same, λ e q. q)
        then (
          refl,
          (negative_over (λ u v c. (same.arcs u v c).0), negative_over (λ u v c. (same.arcs u v c).1)),
          λ e q. q ∙ (λ i. buffers_of (filled (same_width same i * same_width same i) none_i64 b.matrix) (c i)),
        )
        then (refl, (λ u. u, λ u. u), λ e q. (matrix_over same q.0, q.1 ∙ c))
        then tt

-- two engines with this promise agree in number and matrix, if neither gives 1
pub engines_agree : {S T : Type 0} {g : Net ℤ} {l m : Bool} {lent clear : S} {lent' clear' : T} {before : List ℤ} {e : Buffers S} {e' : Buffers T} {number number' : ℕ}
    → AllPairs g l clear (buffers_of before lent) e number → AllPairs g m clear' (buffers_of before lent') e' number' → (number ≡ 1 → ⊥) → (number' ≡ 1 → ⊥)
    → (number ≡ number') × (e.matrix ≡ e'.matrix)
engines_agree {S} {T} {g} {l} {m} {lent} {clear} {lent'} {clear'} {before} {e} {e'} {number} {number'} p q f f' = go p.follows q.follows
  where
    -- what is left of two matrices that are told
    told : {x : List ℤ} {s : S} {t : T} (y : Buffers S) (z : Buffers T) → y ≡ buffers_of x s → z ≡ buffers_of x t → y.matrix ≡ z.matrix
    told y z a c = ap (λ (y : Buffers S). y.matrix) a ∙ sym (ap (λ (z : Buffers T). z.matrix) c)

    go : Follows (table g l clear (buffers_of before lent)) e number → Follows (table g m clear' (buffers_of before lent')) e' number' → (number ≡ number') × (e.matrix ≡ e'.matrix)
    go (here w x) y = absurd (f x.0)
    go (past w x) (here w' y) = absurd (f' y.0)
    go (past w x) (past w' y) =
        beside (λ n (y : Buffers S) (z : Buffers T). y.matrix ≡ z.matrix)
        (behind 1 (table g l clear (buffers_of before lent))) (behind 1 (table g m clear' (buffers_of before lent'))) e e' number number'
        (alike refl refl told (λ i i'. alike refl itself told (λ n n'. alike refl itself (λ y z a c. matrix_one a.0 c.0) (λ u u'. tt)))) x y
