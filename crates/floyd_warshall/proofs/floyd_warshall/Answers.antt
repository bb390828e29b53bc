-- `floyd_warshall::floyd_warshall` keeps its promise: each answer is a law of proofs/Answers.antt, at what the calls gave.
-- A refusal returns before the first write. Past it the ranks are set; the first p * p entries of the matrix are lent to `solve` as a part of their
-- own and come back in front of the rest. Then the ranks are wiped, and after a yes the entries are blanked.
-- Assumes nothing.
use mathlib.Core.Path.{◌≡◌, refl, sym, ◌∙◌, subst}
use mathlib.Core.List.{List}
use Prim.Native.Nat.{ℕ, ◌*◌, ◌≤◌}
use native.Mathlib.Omega.{arith}
use lib.IntN.{ℤ}
use lib.ListN.{length, drop, length-take, length-append}
use lib.Seq.{length-take-le}
use Rattle.net.specs.Net.{Net, int_net, width}
use Rattle.net.proofs.Bounds.{Whole, whole_ints, width_small}
use Rattle.numbers.proofs.Refused.{refused_ne0, number_handed_on}
use Rattle.matrix.proofs.Matrix.{square_small}
use Rattle.floyd_warshall.specs.Filling.{refusal_no}
use Rattle.floyd_warshall.proofs.Refusals.{Passed, refused, passed}
use Rattle.floyd_warshall.proofs.Answers.{sound, ranked_of, answer_negative, answer_done}
use Rattle.floyd_warshall.proofs.floyd_warshall.Goals as goal
use Rattle.floyd_warshall.proofs.floyd_warshall.Goals.{After-solve-negative, In_ok-p}

pub returns-in_err-p : goal.returns-in_err-p
returns-in_err-p c =
    let n = number_handed_on c.from_residual.result c.in_err-p.field-0.0 c.from_residual.ensures.1 in
    refused _ _ _ _ (n ∙ c.in_err-p.ensures.number) (λ z. refused_ne0 c.in_err-p.field-0.0 (sym n ∙ z))

-- past the refusals
module _ (e : In_ok-p) where
  abbrev lent : Net ℤ
  lent = int_net e.args.net

  no_refusal : refusal_no lent e.args.matrix.now e.args.ranks.now ≡ 0
  no_refusal = sym e.in_ok-p.ensures.number

  ready : Passed lent e.args.matrix.now e.args.ranks.now
  ready = passed lent e.args.matrix.now e.args.ranks.now no_refusal

  map_whole : Whole lent
  map_whole = whole_ints _ _ _ _ _ _ _ ready.whole

  rows : e.in_ok-p.p ≡ width lent
  rows = e.in_ok-p.ensures.counted

  few_rows : e.in_ok-p.p ≤ 1024
  few_rows = omega (arith, rows, width_small map_whole)

  room : e.in_ok-p.p * e.in_ok-p.p ≤ length e.args.matrix.now
  room = subst (λ (x : ℕ). x * x ≤ length e.args.matrix.now) (sym rows) ready.output

-- the map is solved
module _ (a : After-solve-negative) where
  abbrev ok : In_ok-p
  ok = (goal.at.After-solve-negative a).In_ok-p

  abbrev solved : List ℤ
  solved = a.solve-negative.new.cells

  solved_long : length solved ≡ a.in_ok-p.p * a.in_ok-p.p
  solved_long = a.solve-negative.auto.cells ∙ length-take-le (a.in_ok-p.p * a.in_ok-p.p) a.args.matrix.now (room ok)

pub overflow_mul-used : goal.overflow_mul-used
overflow_mul-used c = omega (arith, square_small c.in_ok-p.p (few_rows c))

pub set_ranks-requires : goal.set_ranks-requires
set_ranks-requires c = let e = (goal.at.set_ranks-requires c).In_ok-p in ((map_whole e).marked, (ready e).scratch)

pub slice_bounds-solve-end : goal.slice_bounds-solve-end
slice_bounds-solve-end c = room (goal.at.slice_bounds-solve-end c).In_ok-p

pub slice_bounds-solve-end-2 : goal.slice_bounds-solve-end-2
slice_bounds-solve-end-2 c = simp length-take (omega (arith, room (goal.at.slice_bounds-solve-end-2 c).In_ok-p))

pub solve-negative-requires : goal.solve-negative-requires
solve-negative-requires c =
    let e = (goal.at.solve-negative-requires c).In_ok-p in (
      sound (lent e) _ _ (no_refusal e),
      ranked_of (lent e) _ _ (no_refusal e) c.set_ranks.ensures,
      rows e,
      record { few = few_rows e; size = length-take-le (c.in_ok-p.p * c.in_ok-p.p) c.args.matrix.now (room e) },
    )

pub fill-requires : goal.fill-requires
fill-requires c = omega (arith, c.set_ranks.ensures.long, (ready (goal.at.fill-requires c).In_ok-p).scratch)

pub fill-requires-then-negative : goal.fill-requires-then-negative
fill-requires-then-negative c =
    let a = (goal.at.fill-requires-then-negative c).After-solve-negative in
    omega (arith, solved_long a, room (ok a), length-append (solved a) (drop (c.in_ok-p.p * c.in_ok-p.p) c.args.matrix.now))

pub returns-then-negative : goal.returns-then-negative
returns-then-negative c =
    let a = (goal.at.returns-then-negative c).After-solve-negative in
    answer_negative (lent (ok a)) _ _ (no_refusal (ok a)) (rows (ok a)) (solved a) (solved_long a) c.set_ranks.ensures c.fill.ensures c.solve-negative.result
    c.solve-negative.ensures c.if-negative.true c.fill-then-negative.ensures

pub returns : goal.returns
returns c =
    let a = (goal.at.returns c).After-solve-negative in
    answer_done (lent (ok a)) _ _ (no_refusal (ok a)) (rows (ok a)) (solved a) (solved_long a) c.set_ranks.ensures c.fill.ensures c.solve-negative.result
    c.solve-negative.ensures c.if-negative.false refl
