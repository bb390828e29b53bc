-- `text::put_fields` meets its contract: the invariant is `Listing` of Lines.
-- Assumes nothing.
use mathlib.Core.List.{[], map}
use Prim.Native.Nat.{◌+◌}
use lib.ListN.{length, take}
use Rattle.text.specs.Text.{with_fields}
use Rattle.text.proofs.Lines.{Listing}
use Rattle.text.proofs.put_fields.Given as goal

abbrev pub invariant-loop-entry : goal.invariant-loop-entry
invariant-loop-entry g l =
    Listing (λ j. with_fields [] (map g.E.Entry.text_of (take j l.entries))) (g.E.Entry.widest + 1) l.initial.out l.at (length l.entries) l.out l.next l.entry-index
