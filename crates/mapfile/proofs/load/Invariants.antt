-- `mapfile::load` meets its contract: the invariant is `Going` of Loads, the measure what is left of the file.
-- Assumes nothing.
use Rattle.mapfile.specs.Load.{start_reading, state_of}
use Rattle.mapfile.proofs.Loads.{Going, rest}
use Rattle.mapfile.proofs.load.Given as goal

abbrev pub invariant-loop-marks : goal.invariant-loop-marks
invariant-loop-marks l =
    Going l.limit l.file (state_of start_reading l.initial.marks l.initial.from l.initial.to l.initial.costs l.initial.bits l.initial.opens) (state_of l.w l.marks l.from l.to l.costs l.bits l.opens)

abbrev pub decreases-loop-marks : goal.decreases-loop-marks
decreases-loop-marks l = rest l.file l.w
