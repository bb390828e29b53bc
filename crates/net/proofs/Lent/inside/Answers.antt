use Rattle.std.proofs.Common.{◌∙◌, refl}
use Rattle.table.proofs.Laws.{all_ends}
use Rattle.net.specs.Net.{net_in}
use Rattle.net.proofs.Bounds.{whole_of, long_of}
use Rattle.net.proofs.Lent.inside.Goals as goal

pub all_inside-requires : goal.all_inside-requires
all_inside-requires g c =
    let v = c.args.self.now in
    let net = net_in g.C.Costs.listed g.C.Costs.room v in
    let fits = g.met.C.Costs.fits v.from.now v.to.now v.costs in
    let k = long_of net v.from.now v.to.now (g.C.Costs.listed v.costs) fits refl c.requires in
    ((whole_of net v.from.now v.to.now (g.C.Costs.listed v.costs) fits refl c.requires).marked, k.0, k.1)

pub returns : goal.returns
returns g c =
    let v = c.args.self.now in
    let net = net_in g.C.Costs.listed g.C.Costs.room v in
    let fits = g.met.C.Costs.fits v.from.now v.to.now v.costs in
    let k = long_of net v.from.now v.to.now (g.C.Costs.listed v.costs) fits refl c.requires in
    c.all_inside.ensures ∙ all_ends v.map.bound v.marks.now v.from.now v.to.now (g.C.Costs.listed v.costs) v.map.count k.2
