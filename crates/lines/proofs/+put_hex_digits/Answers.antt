-- `lines::put_hex_digits` meets its contract: the last digit after the others; the measure is the number of places.
-- No place is no text. With one or more the call writes the digits of the sixteenth in one place less, and the last digit goes behind them, as `hex` has it. The
-- room is the number of places.
-- Assumes nothing.
use Prim.Native.Nat.{ℕ, ◌<◌, ◌-◌, ◌/◌, ◌%◌}
use mathlib.Core.Path.{subst}
use mathlib.Core.List.{[], ◌∷◌}
use native.Mathlib.Omega.{arith}
use Rattle.lines.specs.Text.{Printed, glyph, hex}
use Rattle.lines.proofs.Places.{last_byte}
use Rattle.lines.proofs.Digits.{hex_more, hex_length}
use Rattle.lines.proofs.+put_hex_digits.Goals as goal

pub put_byte-requires : goal.put_byte-requires
put_byte-requires t c =
    let v = c.args in
    omega (arith, c.put_hex_digits-next.ensures.ends, c.put_hex_digits-next.auto.out, c.requires, c.if-places-eq0.false, hex_length (v.places - 1) (v.n / 16))

pub returns-else-places-eq0 : goal.returns-else-places-eq0
returns-else-places-eq0 t c =
    let v = c.args in
    let p : 0 < v.places = omega (arith, c.if-places-eq0.false) in
    last_byte v.out.now v.at (hex (v.places - 1) (v.n / 16)) (glyph (v.n % 16)) (hex v.places v.n) c.put_hex_digits-next.new.out c.put_byte.new.out
    c.put_hex_digits-next.result c.put_byte.result
    (hex_more v.places v.n p) (omega (arith, hex_length v.places v.n, c.requires)) c.put_hex_digits-next.ensures
    (subst
    (λ (d : ℕ). Printed c.put_hex_digits-next.new.out c.put_hex_digits-next.result (d ∷ []) c.put_byte.new.out c.put_byte.result)
    c.glyph.ensures c.put_byte.ensures)
