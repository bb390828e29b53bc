-- `floyd_warshall::solve` meets its contract.
-- Assumes nothing.
use mathlib.Core.List.{List}
use lib.IntN.{ℤ}
use Rattle.floyd_warshall.proofs.Answers.{Prepared, solved_first, ask_rounds, solved_rounds, solved_all}
use Rattle.floyd_warshall.proofs.solve.Goals as goal
use Rattle.floyd_warshall.proofs.solve.Goals.{After-fill, Start, then-any_below-via-then-any_below, then-any_below-via-else-any_below+then-rounds}

-- after the links are poured
module _ (f : After-fill) where
  abbrev start : Start
  start = (goal.at.After-fill f).Start

  abbrev cells : List ℤ
  cells = f.fill.new.cells

  prepared : Prepared _ _ _ _ _ _ start.args.net.costs.costs.now start.args.ranks.now start.requires.0 start.requires.1 f.fill.ensures.0 start.args.p cells
  prepared = record { first = f.start.new.cells; started = f.start.ensures; is = f.fill.ensures.1 }

pub rounds-requires : goal.rounds-requires
rounds-requires c =
    let s = start (goal.at.rounds-requires c).After-fill in
    ask_rounds _ _ _ _ _ _ _ _ s.requires.0 s.requires.1 c.fill.ensures.0 s.requires.2 (prepared (goal.at.rounds-requires c).After-fill) c.any_below.ensures c.if-any_below.false

pub returns-then-any_below : goal.returns-then-any_below
returns-then-any_below c =
    let a = (goal.at.returns-then-any_below c).After-fill in
    let s = start a in
    elim c.then-any_below.branch [
      | then-any_below-via-then-any_below v ↦ solved_first _ _ _ _ _ _ _ _ s.requires.0 s.requires.1 c.fill.ensures.0 s.requires.2 (prepared a) c.any_below.ensures v.if-any_below.true
      | then-any_below-via-else-any_below+then-rounds v ↦
          solved_rounds _ _ _ _ _ _ _ _ s.requires.0 s.requires.1 c.fill.ensures.0 s.requires.2 (prepared a) v.rounds.result v.rounds.new.cells v.rounds.ensures v.if-rounds.true
    ]

pub returns : goal.returns
returns c =
    let s = start (goal.at.returns c).After-fill in
    solved_all _ _ _ _ _ _ _ _ s.requires.0 s.requires.1 c.fill.ensures.0 s.requires.2 (prepared (goal.at.returns c).After-fill) c.rounds.result c.rounds.ensures c.if-rounds.false c.rounds.auto.cells
    c.show.ensures
