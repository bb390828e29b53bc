-- `text::put_fields` meets its contract: the invariant is `Listing` of Lines.
-- Assumes nothing.
use mathlib.Core.Path.{sym, ap, ◌∙◌}
use mathlib.Core.List.{[], map, ◌++◌}
use lib.ListN.{take}
use Rattle.text.specs.Text.{field, with_fields}
use Rattle.text.proofs.Lines.{listing_more, entry_more}
use Rattle.text.proofs.put_fields.Goals as goal

pub loop-entry-preserved : goal.loop-entry-preserved
loop-entry-preserved g c =
    let show = g.E.Entry.text_of in
    let v = c.args in
    let l = c.loop-entry in
    let x = c.entry-item.result in
    listing_more l.invariant c.loop-entry-test.true
    (entry_more show v.entries.now l.entry-index x c.loop-entry-test.true
    ∙ ap (λ (y : g.row.E.Denot). with_fields [] (map show (take l.entry-index v.entries.now)) ++ field (show y)) (sym c.entry-item.is))
    c.put_field-next.ensures.printed c.put_field-next.ensures.short
