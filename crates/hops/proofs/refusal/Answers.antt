-- `hops::refusal` meets its contract.
-- Assumes nothing.
use Rattle.std.proofs.Common.{◌≡◌, true, rules}
use Rattle.net.specs.Net.{net_in, whole_net}
use Rattle.hops.proofs.Answers.{whole_map}
use Rattle.hops.proofs.refusal.Goals as goal

pub long_enough-requires : goal.long_enough-requires
long_enough-requires g c =
    let net = c.args.net.now in
    let h : whole_net (net_in g.C.Costs.listed g.C.Costs.room net) ≡ true = search rules in
    let w = whole_map g.C.Costs.listed g.C.Costs.room net (g.met.C.Costs.fits net.from.now net.to.now net.costs) h in
    (w.indices, w.links, w.marked)
