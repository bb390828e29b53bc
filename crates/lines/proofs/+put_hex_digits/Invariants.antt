-- `lines::put_hex_digits` meets its contract: the last digit after the others; the measure is the number of places.
-- Assumes nothing.
use Rattle.lines.proofs.+put_hex_digits.Given as goal

abbrev pub decreases-put_hex_digits : goal.decreases-put_hex_digits
decreases-put_hex_digits l = l.places
