-- `mapfile::load` meets its contract: the invariant is `Going` of Loads, the measure what is left of the file.
-- Assumes nothing.
use mathlib.Core.Path.{ap, sym, ◌∙◌}
use Rattle.mapfile.specs.Load.{broken_at}
use Rattle.mapfile.proofs.Loads.{going_start, going_on, rest_falls, going_end, overlong}
use Rattle.mapfile.proofs.load.Goals as goal

pub returns-then-limit-file : goal.returns-then-limit-file
returns-then-limit-file c =
    let v = c.args in
    overlong v.limit v.file.now v.marks.now v.from.now v.to.now v.costs.now v.bits.now v.opens.now c.if-limit-file.true
    (c.broken_at.ensures ∙ ap (broken_at v.limit) c.start-w.ensures)

pub loop-marks-init : goal.loop-marks-init
loop-marks-init c = going_start c.start-w.ensures c.if-limit-file.false

pub step-w-requires : goal.step-w-requires
step-w-requires c = (c.loop-marks.invariant.within, c.loop-marks.invariant.bounded)

pub loop-marks-smaller : goal.loop-marks-smaller
loop-marks-smaller c = rest_falls c.loop-marks.invariant (sym c.goes_on.ensures ∙ c.loop-marks-test.true) c.step-w.ensures

pub loop-marks-preserved : goal.loop-marks-preserved
loop-marks-preserved c =
    let k = c.step-w.auto in
    going_on c.loop-marks.invariant (sym c.goes_on.ensures ∙ c.loop-marks-test.true) c.step-w.ensures
    (record { even_m = k.marks; even_x = k.from; even_y = k.to; even_c = k.costs; even_b = k.bits; even_o = k.opens })

pub shape_of-marks : goal.shape_of-marks
shape_of-marks c = c.loop-marks.invariant.even.even_m

pub shape_of-from : goal.shape_of-from
shape_of-from c = c.loop-marks.invariant.even.even_x

pub shape_of-to : goal.shape_of-to
shape_of-to c = c.loop-marks.invariant.even.even_y

pub shape_of-costs : goal.shape_of-costs
shape_of-costs c = c.loop-marks.invariant.even.even_c

pub shape_of-bits : goal.shape_of-bits
shape_of-bits c = c.loop-marks.invariant.even.even_b

pub shape_of-opens : goal.shape_of-opens
shape_of-opens c = c.loop-marks.invariant.even.even_o

pub returns : goal.returns
returns c =
    let v = c.args in
    going_end v.limit v.file.now v.marks.now v.from.now v.to.now v.costs.now v.bits.now v.opens.now c.loop-marks.invariant (sym c.goes_on.ensures ∙ c.loop-marks-test.false)
