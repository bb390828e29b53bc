-- `bag::peaks::first` meets its contract. Assumes nothing.
use mathlib.Core.Path.{sym}
use Prim.Native.Nat.{◌<◌}
use Rattle.bag.proofs.Firsts.{top_right, high_right, low_right, first_all, peak_room}
use Rattle.bag.proofs.peaks.first.Goals as goal

pub largest-w-requires : goal.largest-w-requires
largest-w-requires c = (c.requires.peaks, peak_room _ 0 c.requires.nonzero)

pub first_top-top-requires-clause-peaks : goal.first_top-top-requires-clause-peaks
first_top-top-requires-clause-peaks c = (c.requires.peaks, peak_room _ 0 c.requires.nonzero)

pub first_of_group-high-requires-clause-w_value : goal.first_of_group-high-requires-clause-w_value
first_of_group-high-requires-clause-w_value c =
    let some : 0 < c.largest-w.result = rw c.largest-w.ensures c.requires.nonzero in
    (top_right _ _ c.requires.peaks _ c.largest-w.ensures _ c.first_top-top.ensures, some)

pub first_of_group-low-requires-clause-w_value : goal.first_of_group-low-requires-clause-w_value
first_of_group-low-requires-clause-w_value c =
    let some : 0 < c.largest-w.result = rw c.largest-w.ensures c.requires.nonzero in
    (high_right _ _ c.requires.peaks _ c.largest-w.ensures _ c.first_top-top.ensures _ c.first_of_group-high.ensures, some)

pub first_of_group-requires-clause-w_value : goal.first_of_group-requires-clause-w_value
first_of_group-requires-clause-w_value c =
    let some : 0 < c.largest-w.result = rw c.largest-w.ensures c.requires.nonzero in
    (low_right _ _ c.requires.peaks _ c.largest-w.ensures _ c.first_top-top.ensures _ c.first_of_group-high.ensures _ c.first_of_group-low.ensures, some)

pub returns : goal.returns
returns c =
    let S = c.requires.peaks in
    let e = c.largest-w.ensures in
    rw (sym e) (first_all _ _ S _ e _ c.first_top-top.ensures _ c.first_of_group-high.ensures _ c.first_of_group-low.ensures _ c.first_of_group.ensures)
