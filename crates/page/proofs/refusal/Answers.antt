-- `page::refusal` meets its contract.
-- Assumes nothing.
use Rattle.std.proofs.Common.{◌≡◌, true, rules}
use Rattle.net.specs.Net.{int_net, whole_net}
use Rattle.net.proofs.Bounds.{whole_ints}
use Rattle.page.proofs.refusal.Goals as goal

pub has-requires : goal.has-requires
has-requires c =
    let net = c.args.net in
    let w : whole_net (int_net net) ≡ true = search rules in
    (whole_ints _ _ net.map.directed _ _ _ _ w).marked
