-- The contract of `set_ranks` settles the slice.
-- Assumes nothing.
use mathlib.Core.Path.{◌≡◌, sym, ◌∙◌}
use mathlib.Core.Bool.{Bool}
use mathlib.Core.List.{List}
use Prim.Native.Nat.{ℕ, ◌<◌}
use native.Mathlib.Omega.{arith}
use native.Mathlib.Decide.{dec_lt}
use lib.ListN.{get_or}
use lib.Seq.{ext_get_or}
use Rattle.clean.proofs.Filled.{rest_at}
use Rattle.net.specs.Ranks.{Ranks}

-- each entry told is one number, and the rest is as it was
pub ranks_one : {f : ℕ → Bool} {n : ℕ} {before x y : List ℕ} → Ranks f n before x → Ranks f n before y → x ≡ y
ranks_one {n = n} {x = x} {y = y} p q = ext_get_or 0 x y (p.long ∙ sym q.long) (λ i h. at i (dec_lt i n))
  where
    at : (i : ℕ) → Dec (i < n) → get_or x i 0 ≡ get_or y i 0
    at i (yes h) = p.each i h ∙ sym (q.each i h)
    at i (no k) = rest_at n x y 0 i (p.rest ∙ sym q.rest) (omega (arith, k))
