-- The lines of a path, and of none.
-- Assumes nothing.
use mathlib.Core.Path.{◌≡◌}
use mathlib.Core.Bool.{true, false}
use mathlib.Core.List.{List, [], ◌∷◌, ◌++◌, map}
use Prim.Native.Nat.{ℕ}
use lib.IntN.{ℤ}
use lib.Signed.{lt_z}
use lib.ListN.{take}
use Rattle.clean.specs.None.{none_i64}
use Rattle.lines.specs.Text.{none_text, cost_text, path_text, signed_text}
use Rattle.text.specs.Text.{index_text, line, path_lines}

-- a path, and none
pub path_some : (c : ℤ) (n : ℕ) (path : List ℕ) → lt_z none_i64 c ≡ true → path_lines c n path ≡ line cost_text (signed_text c ∷ []) ++ line path_text (map index_text (take n path))
path_some c n path h = simp (h)

pub path_none : (c : ℤ) (n : ℕ) (path : List ℕ) → lt_z none_i64 c ≡ false → path_lines c n path ≡ line none_text []
path_none c n path h = simp (h)
