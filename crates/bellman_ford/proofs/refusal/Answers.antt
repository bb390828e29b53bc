-- `bellman_ford::refusal` meets its contract: what `most_arcs` asks is in `whole`.
-- Assumes nothing.
use Rattle.std.proofs.Common.{rules, ◌≡◌, true}
use Rattle.net.specs.Net.{int_net, whole_net}
use Rattle.net.proofs.Bounds.{whole_ints}
use Rattle.bellman_ford.proofs.refusal.Goals as goal

pub most_arcs-requires : goal.most_arcs-requires
most_arcs-requires c =
    let e : whole_net (int_net c.args.net) ≡ true = search rules in
    (whole_ints _ _ c.args.net.map.directed _ _ _ _ e).links
