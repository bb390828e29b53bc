-- The slices of a neighbour list as lent scratch: how long they must be, and what a question leaves in them.
-- Assumes nothing.
use Rattle.std.specs.Prelude.{Bool, ◌&&◌, ℕ, ◌+◌, leb, length}
use Rattle.clean.specs.Fill.{filled}
use Rattle.rows.specs.Rows.{Lists, lists_of}

-- are the slices long enough for m rows and a arcs?
unfoldable pub has_lists : {C : Type 0} → ℕ → ℕ → Lists C → Bool
has_lists m a s = leb (m + 1) (length s.offsets) && (leb a (length s.heads) && leb a (length s.weights))

-- zero in the part needed, z being the zero of a weight; the rest as it was
abbrev pub wiped : {C : Type 0} → ℕ → ℕ → C → Lists C → Lists C
wiped m a z s = lists_of (filled (m + 1) 0 s.offsets) (filled a 0 s.heads) (filled a z s.weights)
