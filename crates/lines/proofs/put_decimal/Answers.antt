-- `lines::put_decimal` meets its contract: a 64-bit number has at most 20 digits.
-- Assumes nothing.
use Rattle.lines.specs.Text.{decimal_text}
use Rattle.lines.proofs.put_decimal.Goals as goal

pub put_digits-requires-clause-n_in_bounds : goal.put_digits-requires-clause-n_in_bounds
unfolding decimal_text
put_digits-requires-clause-n_in_bounds c = c.requires

pub returns : goal.returns
unfolding decimal_text
returns c = c.put_digits.ensures
