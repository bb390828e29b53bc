-- `search::run` meets its contract.
-- Assumes nothing.
use mathlib.Core.Path.{ap, ◌∙◌}
use Rattle.clean.specs.Fill.{filled}
use Rattle.turns.specs.Kind.{ordered}
use Rattle.turns.proofs.Firsts.{fresh, ran}
use Rattle.search.specs.Target.{target_in}
use Rattle.search.proofs.run.Goals as goal

pub search_part-requires-clause-fresh : goal.search_part-requires-clause-fresh
search_part-requires-clause-fresh g c =
    let way = (g.met.R.Rule.right c.args.rule).course (target_in c.args.m c.args.target) c.requires.fit in
    let e = c.clear.ensures in
    let blank = e.dist ∙ ap (λ (x : g.row.R-Key.Denot). filled c.args.m x c.args.memory.now.dist.now) c.none.ensures in
    rw e.keys (fresh (ordered g.R.Key.Key.kind (g.R.Rule.kind c.args.rule)) c.requires.enough_memory (blank, e.preds, e.peaks, e.words) way.rows.bounded)

pub returns-clause-ran : goal.returns-clause-ran
returns-clause-ran g c =
    let e = c.clear.ensures in
    let a = c.search_part.auto in
    let blank = e.dist ∙ ap (λ (x : g.row.R-Key.Denot). filled c.args.m x c.args.memory.now.dist.now) c.none.ensures in
    rw e.keys (ran (ordered g.R.Key.Key.kind (g.R.Rule.kind c.args.rule)) c.requires.enough_memory (blank, e.preds, e.peaks, e.words)
    _ _ _ _ _ a.dist a.preds a.peaks a.words (rw e.keys at a.keys) c.search_part.ensures)
