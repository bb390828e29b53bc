-- Flags and the cutoff as C hands them over.
-- Assumes nothing.
use Rattle.std.specs.Prelude.{Bool, not, cond, ℕ, eqb, Float}
use Rattle.float.specs.Cutoff.{Cutoff}
use Rattle.std.specs.Prelude.{None, Some}

-- a flag: 0 is no, any other byte is yes
abbrev pub is_set : ℕ → Bool
is_set b = not (eqb b 0)

-- the cutoff: at the value where the flag is set, else none
unfoldable pub limit_of : ℕ → Float → Cutoff
limit_of b x = cond (is_set b) (Some x) None
