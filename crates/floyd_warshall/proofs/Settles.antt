-- The promise of `floyd_warshall` settles the number, the matrix and the scratch, and goes by the arcs alone.
-- Assumes nothing.
use mathlib.Core.Path.{◌≡◌, ap}
use mathlib.Core.Bool.{◌&&◌}
use mathlib.Core.List.{List}
use Prim.Native.Nat.{ℕ, ◌*◌}
use lib.Dec.{leb}
use lib.IntN.{ℤ}
use lib.ListN.{length}
use Rattle.clean.specs.Fill.{filled}
use Rattle.net.specs.Net.{Net, SameNet}
use Rattle.net.proofs.Same.{same_width}
use Rattle.matrix.specs.Matrix.{Buffers}
use Rattle.matrix.proofs.Settles as matrix
use Rattle.floyd_warshall.specs.Promise.{enough, Promise}

-- two answers that the promise allows are equal
pub promise_one : {g : Net ℤ} {m m' m'' : List ℤ} {r r' r'' : List ℕ} {x y : ℕ} → Promise g m r m' r' x → Promise g m r m'' r'' y → (x ≡ y) × (m' ≡ m'') × (r' ≡ r'')
promise_one p q = let x = matrix.promise_one p q in (x.0, ap (λ (e : Buffers (List ℕ)). e.matrix) x.1, ap (λ (e : Buffers (List ℕ)). e.scratch) x.1)

module _ {g g' : Net ℤ} (same : SameNet g g') where
  same_enough : (m : List ℤ) (r : List ℕ) → enough g m r ≡ enough g' m r
  unfolding enough
  same_enough m r = λ t. same.whole t && (leb (same.bound t) (length r) && leb (same_width same t * same_width same t) (length m))

  -- the same net, the same promise
  pub promise_arcs : {m m' : List ℤ} {r r' : List ℕ} {x : ℕ} → Promise g m r m' r' x → Promise g' m r m' r' x
  promise_arcs {m} {r} p = matrix.promise_arcs same (same_enough m r) (ap (λ (n : ℕ). filled n 0 r) same.bound) p
