-- `sheet::print_sound` meets its contract: the lines one after the other.
-- Assumes nothing.
use native.Mathlib.Omega.{arith}
use Rattle.sheet.proofs.Puts.{sound_lines}
use Rattle.sheet.proofs.print_sound.Goals as goal

pub returns-clause-written : goal.returns-clause-written
returns-clause-written c = sound_lines c.args.asked (omega arith) (rw c.from.ensures at c.print_engine-first.ensures.printed) c.answer-next.ensures.written c.print_end.ensures
