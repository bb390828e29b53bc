-- A number of bytes that a buffer has counts bytes at its start.
-- Assumes nothing.
use mathlib.Core.Path.{sym}
use mathlib.Core.List.{List}
use Prim.Native.Nat.{ℕ, ◌≤◌}
use lib.ListN.{length}
use lib.Seq.{length-take-le}
use Rattle.std.specs.Counts.{IsPrefixLen}

pub counted : (n : ℕ) (xs : List ℕ) → n ≤ length xs → IsPrefixLen n xs
counted n xs h = (h, sym (length-take-le n xs h))
