-- What the test of the lists says, and that wiping shows nothing of what the first entries held.
-- Assumes nothing.
use mathlib.Core.Path.{◌≡◌}
use mathlib.Core.Bool.{true}
use Prim.Native.Nat.{ℕ, ◌≤◌}
use borrow.Author.Tests.{leb-true, le-leb}
use lib.Dec.{leb}
use lib.IntN.{ℤ, pos}
use lib.ListN.{length}
use Rattle.whole.proofs.Cases.{and_left, and_right}
use Rattle.rows.proofs.Kept.{kept_same}
use Rattle.turns.specs.Memory.{Memory, memory_of}
use Rattle.turns.specs.Firsts.{EnoughMemory, KeptMemory}
use Rattle.search.specs.Lists.{has_memory, wiped_memory}

-- the last test decides
pub memory_last : {K : Type 0} (m : ℕ) (M : Memory K) → m ≤ length M.dist → m ≤ length M.preds → m ≤ length M.peaks → m ≤ length M.words → leb m (length M.keys) ≡ has_memory m M
unfolding has_memory
memory_last m M d p h i = rw (le-leb m (length M.dist) d, le-leb m (length M.preds) p, le-leb m (length M.peaks) h, le-leb m (length M.words) i)

-- the lists are long enough
pub has_memory_lem : {K : Type 0} (m : ℕ) (M : Memory K) → has_memory m M ≡ true → EnoughMemory m M
unfolding has_memory
has_memory_lem m M e =
    let e1 = and_right (leb m (length M.dist)) _ e in
    let e2 = and_right (leb m (length M.preds)) _ e1 in
    let e3 = and_right (leb m (length M.peaks)) _ e2 in
    record {
      dist = leb-true _ _ (and_left (leb m (length M.dist)) _ e);
      preds = leb-true _ _ (and_left (leb m (length M.preds)) _ e1);
      peaks = leb-true _ _ (and_left (leb m (length M.peaks)) _ e2);
      words = leb-true _ _ (and_left (leb m (length M.words)) _ e3);
      keys = leb-true _ _ (and_right (leb m (length M.words)) _ e3);
    }

-- where only the first entries changed, wiping leaves the same
pub wiped_memory_lem : {m : ℕ} {M K : Memory ℤ} → KeptMemory m M K → wiped_memory m K ≡ wiped_memory m M
wiped_memory_lem k = λ i. memory_of (kept_same (pos 0) k.dist i) (kept_same 0 k.preds i) (kept_same 0 k.peaks i) (kept_same 0 k.words i) (kept_same (pos 0) k.keys i)
