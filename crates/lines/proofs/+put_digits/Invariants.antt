-- `lines::put_digits` meets its contract: the last digit after the others; the measure is the number of places.
-- Assumes nothing.
use Rattle.lines.proofs.+put_digits.Given as goal

abbrev pub decreases-put_digits : goal.decreases-put_digits
decreases-put_digits l = l.places
