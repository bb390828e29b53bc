-- `sheet::sheet` meets its contract: by how the reading ended.
-- Assumes nothing.
use native.Mathlib.Omega.{arith}
use Rattle.sheet.proofs.Puts.{few, sheet_bad, sheet_sound}
use Rattle.sheet.proofs.sheet.Goals as goal

pub print_sound-requires : goal.print_sound-requires
print_sound-requires c = let h = few c.args.file.now c.load-w.ensures in (h, omega (arith, h), omega arith)

pub returns-in-Asked-clause-written : goal.returns-in-Asked-clause-written
returns-in-Asked-clause-written c = sheet_sound c.args.file.now c.load-w.ensures c.in-Asked.is c.print_sound.ensures.written

pub returns-in_default-clause-written : goal.returns-in_default-clause-written
returns-in_default-clause-written c = sheet_bad c.args.file.now c.load-w.ensures c.in_default.not-Asked c.print_bad.ensures.printed
