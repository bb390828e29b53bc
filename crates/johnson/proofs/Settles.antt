-- The promise of `johnson` settles the number, the matrix and the scratch, and goes by the arcs alone.
-- Assumes nothing.
use mathlib.Core.Path.{◌≡◌, ap}
use mathlib.Core.Bool.{◌&&◌}
use mathlib.Core.List.{List}
use Prim.Native.Nat.{ℕ}
use lib.IntN.{ℤ}
use Rattle.net.specs.Net.{Net, SameNet}
use Rattle.net.proofs.Same.{same_size, same_width}
use Rattle.matrix.specs.Matrix.{Buffers}
use Rattle.matrix.proofs.Settles as all_pairs
use Rattle.johnson.specs.Promise.{Scratch, long_enough, wiped_all, Promise}

-- two answers that the promise allows are equal
pub promise_one : {g : Net ℤ} {matrix matrix₁ matrix₂ : List ℤ} {s s₁ s₂ : Scratch} {number number' : ℕ} → Promise g matrix s matrix₁ s₁ number → Promise g matrix s matrix₂ s₂ number'
    → (number ≡ number') × (matrix₁ ≡ matrix₂) × (s₁ ≡ s₂)
promise_one a b = let x = all_pairs.promise_one a b in (x.0, ap (λ (e : Buffers Scratch). e.matrix) x.1, ap (λ (e : Buffers Scratch). e.scratch) x.1)

-- the same net gives the same promise
pub promise_arcs : {g g' : Net ℤ} {matrix matrix₁ : List ℤ} {s s₁ : Scratch} {number : ℕ} → SameNet g g' → Promise g matrix s matrix₁ s₁ number → Promise g' matrix s matrix₁ s₁ number
promise_arcs {matrix} {s} same a =
    all_pairs.promise_arcs same (λ i. same.whole i && long_enough (same.bound i) (same_size same i) (same_width same i) matrix s) (λ i. wiped_all (same.bound i) (same_size same i) s) a
