use Rattle.std.proofs.Common.{arith, ◌≡◌, false, ℕ, refl, sym, ap, ◌∙◌}
use Rattle.numbers.proofs.Refused.{refused_ne0, handed_on}
use Rattle.table.specs.Links.{FirstPlace, ends, place_now, place_at, placing}
use Rattle.table.proofs.Laws.{whole, whole_of_no, place_found, place_old, place_full, place_new, place_refused, place_outside}
use Rattle.table.proofs.find_place.Goals as goal
use Rattle.table.proofs.find_place.Goals.{After-find_link}

-- the table is refused
pub returns-in_err-check_ends : goal.returns-in_err-check_ends
returns-in_err-check_ends c =
    let v = c.args in
    let e = c.in_err-check_ends.ensures in
    rw (handed_on _ _ c.from_residual.ensures.1)
    (ap (λ (k : ℕ). place_now k v.map.count 0 false) e
    ∙ place_refused v.map.directed v.map.bound v.room v.marks.now v.a v.b v.map.count (ends v.from.now v.to.now) (λ z. refused_ne0 _ (e ∙ z)))

pub ends_present-requires : goal.ends_present-requires
ends_present-requires c = (whole _ _ _ _ (whole_of_no _ _ _ _ _ (sym c.in_ok-check_ends.ensures))).marked

-- the record is
pub returns-then-not-ends_present : goal.returns-then-not-ends_present
returns-then-not-ends_present c =
    let v = c.args in
    place_outside v.map.directed v.map.bound v.room v.marks.now v.a v.b v.map.count (ends v.from.now v.to.now)
    (sym c.in_ok-check_ends.ensures) (sym c.ends_present.ensures ∙ c.if-not-ends_present.true)

pub find_link-requires : goal.find_link-requires
find_link-requires c =
    let w = whole _ _ _ _ (whole_of_no _ _ _ _ _ (sym c.in_ok-check_ends.ensures)) in
    (omega (arith, w.few, c.requires), omega (arith, w.few, c.requires))

-- the place that the search found, over the ends
goes : (w : After-find_link) (k : ℕ)
    → let v = w.args in
    FirstPlace v.map.directed v.a v.b v.map.count v.from.now v.to.now k
    → place_at v.room v.map.count k ≡ placing v.map.directed v.map.bound v.room v.marks.now v.a v.b v.map.count (ends v.from.now v.to.now)
goes w k f =
    let v = w.args in
    place_found v.map.directed v.map.bound v.room v.marks.now v.a v.b v.map.count v.from.now v.to.now k w.requires
    (sym w.in_ok-check_ends.ensures) (sym w.ends_present.ensures ∙ w.if-not-ends_present.false) f

-- at the place of the link
pub returns-in-Some : goal.returns-in-Some
returns-in-Some c =
    let f = c.in-Some.ensures in
    place_old _ _ _ f.0 ∙ goes (goal.at.returns-in-Some c).After-find_link _ f.1

-- no room
pub returns-then-room-count : goal.returns-then-room-count
returns-then-room-count c =
    place_full _ _ _ (omega arith) c.if-room-count.true ∙ goes (goal.at.returns-then-room-count c).After-find_link _ c.in_default.ensures

-- at the end
pub returns : goal.returns
returns c = place_new _ _ _ (omega arith) c.if-room-count.false ∙ goes (goal.at.returns c).After-find_link _ c.in_default.ensures
