-- `lines::put_hex` meets its contract: 16 digits.
-- Assumes nothing.
use Rattle.lines.specs.Text.{hex_text}
use Rattle.lines.proofs.put_hex.Goals as goal

pub returns : goal.returns
unfolding hex_text
returns c = c.put_hex_digits.ensures
