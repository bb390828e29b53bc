-- The lists that a search is lent: are they long enough, and what wiping leaves in them.
-- Assumes nothing.
use Rattle.std.specs.Prelude.{◌≡◌, Bool, ◌&&◌, ℕ, leb, ℤ, pos, length}
use Rattle.clean.specs.Fill.{filled}
use Rattle.search.specs.declared.Memory as code
use Rattle.turns.specs.Memory.{Memory, memory_of}

-- what the lent lists hold
abbrev pub memory_in : {K : Type 0} → code.Memory K → Memory K
memory_in M = memory_of M.dist.now M.preds.now M.peaks.now M.words.now M.keys.now

-- the same lists are lent
abbrev pub SameMemory : {K : Type 0} → code.Memory K → code.Memory K → Type 0
SameMemory M N =
    (N.dist.ghost_name ≡ M.dist.ghost_name) × (N.preds.ghost_name ≡ M.preds.ghost_name)
    × (N.peaks.ghost_name ≡ M.peaks.ghost_name)
    × (N.words.ghost_name ≡ M.words.ghost_name)
    × (N.keys.ghost_name ≡ M.keys.ghost_name)

-- do the lists of the search have m entries each?
unfoldable pub has_memory : {K : Type 0} → ℕ → Memory K → Bool
has_memory m M =
    leb m (length M.dist)
    && (leb m (length M.preds)
    && (leb m (length M.peaks)
    && (leb m (length M.words)
    && leb m (length M.keys))))

-- x in the first m entries of the distances and the keys, 0 in those of the others, and the rest as before
abbrev pub wiped_with : {K : Type 0} → K → ℕ → Memory K → Memory K
wiped_with x m M =
    memory_of (filled m x M.dist) (filled m 0 M.preds) (filled m 0 M.peaks) (filled m 0 M.words) (filled m x M.keys)

-- the same in the bag's lists alone
abbrev pub bag_wiped : {K : Type 0} → K → ℕ → Memory K → Memory K
bag_wiped x m M = memory_of M.dist M.preds (filled m 0 M.peaks) (filled m 0 M.words) (filled m x M.keys)

-- zero in all of them
abbrev pub wiped_memory : ℕ → Memory ℤ → Memory ℤ
wiped_memory = wiped_with (pos 0)
