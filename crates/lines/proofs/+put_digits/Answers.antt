-- `lines::put_digits` meets its contract: the last digit after the others; the measure is the number of places.
-- A number below 10 is one byte. Any other has two places at least, and its tenth fits one place less: the call writes the digits of the tenth, and the last digit
-- goes behind them, as `decimal` has it (`decimal_one`, `decimal_more`). The room is the length of that text.
-- Assumes nothing.
use Prim.Native.Nat.{◌-◌, ◌+◌, ◌/◌, ◌%◌}
use mathlib.Core.Path.{ap, ◌∙◌}
use mathlib.Core.List.{[], ◌∷◌}
use native.Mathlib.Omega.{arith}
use lib.ListN.{length, length-append}
use Rattle.lines.specs.Text.{decimal}
use Rattle.lines.proofs.Digits.{decimal_more}
use Rattle.lines.proofs.Places.{last_byte}
use Rattle.lines.proofs.+put_digits.Goals as goal

pub put_byte-requires-else-n-lt10 : goal.put_byte-requires-else-n-lt10
put_byte-requires-else-n-lt10 t c =
    let v = c.args in
    let l = ap length (decimal_more v.places v.n c.requires.places_nonzero.0 c.if-n-lt10.false) ∙ length-append (decimal (v.places - 1) (v.n / 10)) ((48 + v.n % 10) ∷ []) in
    omega (arith, l, c.put_digits-next.ensures.ends, c.put_digits-next.auto.out, c.requires.n_in_bounds)

pub returns-else-n-lt10 : goal.returns-else-n-lt10
returns-else-n-lt10 t c =
    let v = c.args in
    last_byte v.out.now v.at (decimal (v.places - 1) (v.n / 10)) (48 + v.n % 10) (decimal v.places v.n) c.put_digits-next.new.out c.put_byte-else-n-lt10.new.out
    c.put_digits-next.result c.put_byte-else-n-lt10.result
    (decimal_more v.places v.n c.requires.places_nonzero.0 c.if-n-lt10.false) c.requires.n_in_bounds c.put_digits-next.ensures c.put_byte-else-n-lt10.ensures
