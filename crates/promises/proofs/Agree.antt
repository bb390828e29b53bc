-- What the questions say of each other.
-- `matrices_agree`: `floyd_warshall` and `johnson` give the same number and the same matrix on every map, if neither gives 1: they have one promise, but for the
-- scratch. `bellman_ford_page_yes`: where `bellman_ford` answers 0 from a source that the map has, the page check of its distances answers 0 and yes, since a page
-- of least totals is right (page, Totals).
-- Assumes nothing.
use mathlib.Core.Path.{◌≡◌}
use mathlib.Core.Bool.{true}
use mathlib.Core.List.{List}
use mathlib.Core.Logic.{inl, inr}
use Prim.Native.Nat.{ℕ}
use native.Mathlib.Omega.{arith}
use borrow.Author.Tests.{le-leb}
use lib.IntN.{ℤ, pos}
use lib.ListN.{length}
use Rattle.whole.proofs.Cases.{clash}
use Rattle.numbers.specs.Numbers.{Given}
use Rattle.net.specs.Net.{Net, inside_net, has}
use Rattle.matrix.proofs.Settles.{engines_agree}
use Rattle.floyd_warshall.specs.Promise as floyd
use Rattle.johnson.specs.Promise as johnson
use Rattle.bellman_ford.specs.Promise as bellman
use Rattle.bellman_ford.proofs.Refusals.{enough_passed}
use Rattle.bellman_ford.proofs.Settles.{promise_given, no_negative}
use Rattle.page.specs.Promise as page
use Rattle.page.proofs.Totals.{totals_yes}

-- ---- the two questions on all pairs, with the same matrix lent
pub matrices_agree : {g : Net ℤ} {m m₁ m₂ : List ℤ} {r r' : List ℕ} {s s' : johnson.Scratch} {number number' : ℕ} → floyd.Promise g m r m₁ r' number → johnson.Promise g m s m₂ s' number'
    → (number ≡ 1 → ⊥) → (number' ≡ 1 → ⊥) → (number ≡ number') × (m₁ ≡ m₂)
matrices_agree p q f f' = engines_agree p q f f'

-- ---- the page check of `bellman_ford`'s distances
-- they are a page that is long enough
paged : (g : Net ℤ) (b e : bellman.Buffers) → bellman.enough g b ≡ true → inside_net g ≡ true → length e.dist ≡ length b.dist → page.enough g e.dist ≡ true
paged g b e p i q =
    let k = enough_passed g b p i in
    rw (k.whole, le-leb g.bound (length e.dist) (omega (arith, k.dist, q)))

pub bellman_ford_page_yes : {g : Net ℤ} {s : ℕ} {b e : bellman.Buffers} {number : ℕ} {a : page.Answer} → has g s ≡ true → bellman.Promise g s b e number → number ≡ 0 → page.Promise g s e.dist a
    → a ≡ page.answer_of 0 true
bellman_ford_page_yes {g} {s} {b} {e} {a = a} source p z r = go (promise_given p 0 z)
  where
    go : Given 0 (bellman.table g s b) e → a ≡ page.answer_of 0 true
    go (l, (i, inl x)) = absurd (clash source x.0)
    go (l, (i, inr (h, (w, (t, x))))) = totals_yes g s e.dist (paged g b e l i x.0.long) i h (no_negative w) (λ v k. x.0.each v (pos 0) k) r
