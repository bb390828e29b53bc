-- The refusals: what the promise says of them.
-- Assumes nothing.
use mathlib.Core.Path.{◌≡◌, refl}
use mathlib.Core.Bool.{true, false}
use mathlib.Core.List.{List}
use Prim.Native.Nat.{ℕ}
use lib.IntN.{ℤ}
use Rattle.numbers.proofs.Numbers as numbers
use Rattle.net.specs.Net.{Net, inside_net, has}
use Rattle.page.specs.Promise.{enough, answer_of, table, Promise}
use Rattle.page.specs.Parts.{refusal_no}

module _ (g : Net ℤ) (s : ℕ) (page : List ℤ) where
  -- a refusal is what the promise says
  pub refused : (r : ℕ) → r ≡ refusal_no g s page → (r ≡ 0 → ⊥) → Promise g s page (answer_of r false)
  unfolding refusal_no
  refused r q f = record { follows = numbers.refused 3 (table g s page) false (refl, (refl, (refl, tt))) r q f }

  -- no refusal: the map is whole and inside and has the source, and the page is long enough
  pub passed : refusal_no g s page ≡ 0 → (enough g page ≡ true) × (inside_net g ≡ true) × (has g s ≡ true)
  unfolding refusal_no
  passed q = let p = numbers.passed 3 (table g s page) (refl, (refl, (refl, tt))) q in (p.0, p.1.0, p.1.1.0)
