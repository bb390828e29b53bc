-- `a_star::refusal` meets its contract.
-- Assumes nothing.
use Rattle.std.proofs.Common.{rules, ◌≡◌, true}
use Rattle.net.specs.Net.{int_net, whole_net, most_arcs_of}
use Rattle.net.proofs.Bounds.{whole_ints}
use Rattle.a_star.specs.Promise.{buffers_in, long_enough}
use Rattle.a_star.proofs.Refusals.{guess_long}
use Rattle.a_star.proofs.refusal.Goals as goal

pub most_arcs-requires : goal.most_arcs-requires
most_arcs-requires c =
    let e : whole_net (int_net c.args.net) ≡ true = search rules in
    (whole_ints _ _ c.args.net.map.directed _ _ _ _ e).links

pub question-requires-clause-guess_long : goal.question-requires-clause-guess_long
question-requires-clause-guess_long c =
    let v = c.args in
    let e : long_enough v.net.map.bound (most_arcs_of (int_net v.net)) v.guess.now (buffers_in v.path.now v.lists.now v.memory.now) ≡ true = search rules in
    guess_long _ _ _ _ e
