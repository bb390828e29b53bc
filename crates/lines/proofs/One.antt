-- The contract settles the text: what was printed is one thing, and so is where it ends.
-- Assumes nothing.
use mathlib.Core.Path.{◌≡◌, sym, ◌∙◌}
use mathlib.Core.List.{List}
use Prim.Native.Nat.{ℕ}
use Rattle.lines.specs.Text.{Printed}

-- what the buffer holds, and where the text ends
pub printed_one : {out text after after' : List ℕ} {at stop stop' : ℕ} → Printed out at text after stop → Printed out at text after' stop' → (after ≡ after') × (stop ≡ stop')
printed_one p q = (p.bytes ∙ sym q.bytes, p.ends ∙ sym q.ends)
