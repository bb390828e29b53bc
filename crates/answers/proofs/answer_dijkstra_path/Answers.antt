-- `answers::answer_dijkstra_path` meets its contract: the promise of the question, and the text of what it left.
-- Assumes nothing.
use mathlib.Core.Path.{refl}
use native.Mathlib.Omega.{arith}
use Rattle.numbers.specs.Refusal.{number_of}
use Rattle.table.specs.Links.{present}
use Rattle.text.specs.Text.{tree_lines}
use Rattle.answers.proofs.Says.{of_equal}
use Rattle.answers.proofs.answer_dijkstra_path.Goals as goal

pub returns-clause-written : goal.returns-clause-written
returns-clause-written c =
    let k = c.dijkstra_path_f64-done in
    let net = c.args.net in
    record {
      text = _;
      allowed = record { number = _; left = _; promise = k.ensures.promise; says = refl };
      printed =
          of_equal (number_of k.result) (tree_lines (present net.map.bound net.marks.now) net.map.bound) k.new.memory.dist.now k.new.memory.preds.now
          c.say_tree.ensures.printed (grind arith) (grind arith);
    }
