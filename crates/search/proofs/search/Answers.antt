-- `search::search` meets its contract.
-- Assumes nothing.
use mathlib.Core.Path.{refl, sym, ◌∙◌}
use native.Mathlib.Omega.{arith}
use Rattle.turns.proofs.Turns.{start_asks, starts, takes_fit, popped, opens, finds, stops, next, falls, rests}
use Rattle.search.specs.Target.{target_in}
use Rattle.search.proofs.Target.{target_is}
use Rattle.search.proofs.search.Goals as goal

pub start-size-requires : goal.start-size-requires
start-size-requires g c =
    let R = g.met.R.Rule.right c.args.rule in
    let asks = start_asks (R.course (target_in c.args.m c.args.target) c.requires.fit) c.requires.fresh in
    record { in_range = R.first c.requires.fit; fresh = asks.0; source_in_bounds = asks.1 }

pub loop-size-init : goal.loop-size-init
loop-size-init g c =
    let way = (g.met.R.Rule.right c.args.rule).course (target_in c.args.m c.args.target) c.requires.fit in
    (starts way c.requires.fresh c.start-size.ensures.started c.start-size.ensures.long, (refl, refl, refl, refl, refl))

pub overflow_add-takes : goal.overflow_add-takes
overflow_add-takes g c =
    let way = (g.met.R.Rule.right c.args.rule).course (target_in c.args.m c.args.target) c.requires.fit in
    omega (arith, takes_fit way c.loop-size.invariant.0)

pub returns-then-eq-clause-searched : goal.returns-then-eq-clause-searched
returns-then-eq-clause-searched g c =
    let e = c.take_least-u.ensures in
    let long = c.take_least-u.auto.words in
    let way = (g.met.R.Rule.right c.args.rule).course (target_in c.args.m c.args.target) c.requires.fit in
    let below = (popped way c.loop-size.invariant.0 (e.least, (e.bag_2, e.keys_after)) long).below in
    let test = target_is c.args.m c.args.target _ below ∙ sym c.if-eq.ensures in
    rw e.kept (finds way c.loop-size.invariant.0 (e.least, (e.bag_2, e.keys_after)) long test refl refl)

pub look_row-requires : goal.look_row-requires
look_row-requires g c =
    let e = c.take_least-u.ensures in
    let long = c.take_least-u.auto.words in
    let R = g.met.R.Rule.right c.args.rule in
    let way = R.course (target_in c.args.m c.args.target) c.requires.fit in
    let taken = popped way c.loop-size.invariant.0 (e.least, (e.bag_2, e.keys_after)) long in
    rw e.kept (record {
      opens = opens way c.loop-size.invariant.0 (e.least, (e.bag_2, e.keys_after)) long;
      row_in_range = R.row c.requires.fit c.loop-size.invariant.0 taken;
    })

pub returns-in-None-clause-searched : goal.returns-in-None-clause-searched
returns-in-None-clause-searched g c =
    let e = c.take_least-u.ensures in
    let long = c.take_least-u.auto.words in
    let way = (g.met.R.Rule.right c.args.rule).course (target_in c.args.m c.args.target) c.requires.fit in
    let below = (popped way c.loop-size.invariant.0 (e.least, (e.bag_2, e.keys_after)) long).below in
    let test = target_is c.args.m c.args.target _ below ∙ sym c.if-eq.ensures in
    stops way c.loop-size.invariant.0 (e.least, (e.bag_2, e.keys_after)) long test c.in-None.ensures.row refl refl

pub loop-size-smaller : goal.loop-size-smaller
loop-size-smaller g c =
    let e = c.take_least-u.ensures in
    let long = c.take_least-u.auto.words in
    let way = (g.met.R.Rule.right c.args.rule).course (target_in c.args.m c.args.target) c.requires.fit in
    let below = (popped way c.loop-size.invariant.0 (e.least, (e.bag_2, e.keys_after)) long).below in
    let test = target_is c.args.m c.args.target _ below ∙ sym c.if-eq.ensures in
    falls way c.loop-size.invariant.0 (e.least, (e.bag_2, e.keys_after)) long test (rw e.kept at c.in-Some.ensures.row)

pub loop-size-preserved : goal.loop-size-preserved
loop-size-preserved g c =
    let e = c.take_least-u.ensures in
    let long = c.take_least-u.auto.words in
    let way = (g.met.R.Rule.right c.args.rule).course (target_in c.args.m c.args.target) c.requires.fit in
    let below = (popped way c.loop-size.invariant.0 (e.least, (e.bag_2, e.keys_after)) long).below in
    let test = target_is c.args.m c.args.target _ below ∙ sym c.if-eq.ensures in
    let a = c.loop-size.invariant.1 in
    let b = c.look_row.ensures.same in
    (next way c.loop-size.invariant.0 (e.least, (e.bag_2, e.keys_after)) long test (rw e.kept at c.in-Some.ensures.row), (b.0 ∙ a.0, b.1 ∙ a.1, b.2 ∙ a.2, b.3 ∙ a.3, b.4 ∙ a.4))

pub returns-clause-searched : goal.returns-clause-searched
returns-clause-searched g c =
    let way = (g.met.R.Rule.right c.args.rule).course (target_in c.args.m c.args.target) c.requires.fit in
    rests way c.loop-size.invariant.0 c.loop-size-test.false refl refl
