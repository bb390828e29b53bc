-- `search::check` meets its contract: what `most_arcs` and `has` ask is in `whole`.
-- Assumes nothing.
use Rattle.std.proofs.Common.{rules, ◌≡◌, true, refl}
use Rattle.net.specs.Net.{net_in, whole_net}
use Rattle.net.proofs.Bounds.{whole_of}
use Rattle.search.proofs.check.Goals as goal

pub most_arcs-requires : goal.most_arcs-requires
most_arcs-requires g c =
    let v = c.args.net.now in
    let net = net_in g.C.Costs.listed g.C.Costs.room v in
    let e : whole_net net ≡ true = search rules in
    (whole_of net v.from.now v.to.now (g.C.Costs.listed v.costs) (g.met.C.Costs.fits v.from.now v.to.now v.costs) refl e).links

pub has-requires : goal.has-requires
has-requires g c =
    let v = c.args.net.now in
    let net = net_in g.C.Costs.listed g.C.Costs.room v in
    let e : whole_net net ≡ true = search rules in
    (whole_of net v.from.now v.to.now (g.C.Costs.listed v.costs) (g.met.C.Costs.fits v.from.now v.to.now v.costs) refl e).marked
