-- The lent slices of both kinds of map: room, refusals 1 and 2, and what a put leaves in each slice.
-- Assumes nothing.
use Rattle.std.specs.Prelude.{Bool, true, cond, not, List, [], ◌∷◌, ℕ, ℤ, ltb, eqb, length, set}
use Rattle.table.specs.declared.FloatCost.{FloatCost}
use Rattle.table.specs.Links.{Link, link_of, zip3, table_no, Place, placing, Arc}

-- the smaller of two sizes
unfoldable pub shorter : ℕ → ℕ → ℕ
shorter x y = cond (ltb y x) y x

-- the room that the slices of ends leave: the shorter one, at most 8192
abbrev pub room_ends : List ℕ → List ℕ → ℕ
room_ends xs ys = shorter (shorter 8192 (length xs)) (length ys)

-- the room of an integer map: its shortest table slice, at most 8192
unfoldable pub room_ints : List ℕ → List ℕ → List ℤ → ℕ
room_ints xs ys cs = shorter (room_ends xs ys) (length cs)

-- the room of an f64 map, likewise
unfoldable pub room_floats : List ℕ → List ℕ → List ℕ → List ℕ → ℕ
room_floats xs ys bs os = shorter (shorter (room_ends xs ys) (length bs)) (length os)

-- the cost of an f64 link as engines see it, from its pattern and whether it is open
abbrev pub float_cost : ℕ → Bool → FloatCost
float_cost x o = record { bits = x; opened = o }

-- patterns and open marks side by side: 0 is closed, every other mark is open
abbrev pub float_costs : List ℕ → List ℕ → List FloatCost
float_costs [] os = []
float_costs (x ∷ bs) [] = []
float_costs (x ∷ bs) (o ∷ os) = float_cost x (not (eqb o 0)) ∷ float_costs bs os

-- refusal 1, then 2, for a lent integer map
abbrev pub ints_no : ℕ → ℕ → List ℕ → List ℕ → List ℕ → List ℤ → ℕ
ints_no m n marks xs ys cs = table_no m n (room_ints xs ys cs) marks (zip3 xs ys cs)

-- and for a lent f64 map
abbrev pub floats_no : ℕ → ℕ → List ℕ → List ℕ → List ℕ → List ℕ → List ℕ → ℕ
floats_no m n marks xs ys bs os = table_no m n (room_floats xs ys bs os) marks (zip3 xs ys (float_costs bs os))

-- a slice with x written at place k, or as it was
abbrev pub written : {A : Type 0} → Bool → ℕ → A → List A → List A
written t k x l = cond t (set l k x) l

-- what a put leaves in an integer map: its number, the count, and the lent slices
pub record Ints : Type 0 where
  pub number : ℕ
  pub count : ℕ
  pub from : List ℕ
  pub to : List ℕ
  pub costs : List ℤ

-- the same from its parts
abbrev pub ints_now : ℕ → ℕ → List ℕ → List ℕ → List ℤ → Ints
ints_now x n xs ys cs = record { number = x; count = n; from = xs; to = ys; costs = cs }

-- a record stored at its place: ends only where the link is new, the cost unless refused
unfoldable pub store_ints : Place → Link ℤ → List ℕ → List ℕ → List ℤ → Ints
store_ints p r xs ys cs =
    ints_now p.number p.count (written p.fresh p.slot r.a xs) (written p.fresh p.slot r.b ys)
    (written (eqb p.number 0) p.slot r.cost cs)

-- Put into an integer map
unfoldable pub put_ints : Bool → ℕ → List ℕ → Link ℤ → ℕ → List ℕ → List ℕ → List ℤ → Ints
put_ints d m marks r n xs ys cs = store_ints (placing d m (room_ints xs ys cs) marks r.a r.b n (zip3 xs ys cs)) r xs ys cs

-- what is put into an f64 map beside the ends: a pattern and an open mark, both stored as given
pub record RawCost : Type 0 where
  pub bits : ℕ
  pub mark : ℕ

-- the same from its parts
abbrev pub raw_cost : ℕ → ℕ → RawCost
raw_cost x o = record { bits = x; mark = o }

-- such a record as engines see it
abbrev pub float_seen : Link RawCost → Link FloatCost
float_seen r = link_of r.a r.b (float_cost r.cost.bits (not (eqb r.cost.mark 0)))

-- what a put leaves in an f64 map: its number, the count, and the lent slices
pub record Floats : Type 0 where
  pub number : ℕ
  pub count : ℕ
  pub from : List ℕ
  pub to : List ℕ
  pub bits : List ℕ
  pub opens : List ℕ

-- the same from its parts
abbrev pub floats_now : ℕ → ℕ → List ℕ → List ℕ → List ℕ → List ℕ → Floats
floats_now x n xs ys bs os = record { number = x; count = n; from = xs; to = ys; bits = bs; opens = os }

-- a record stored at its place: ends only where the link is new, pattern and open mark unless refused
unfoldable pub store_floats : Place → Link RawCost → List ℕ → List ℕ → List ℕ → List ℕ → Floats
store_floats p r xs ys bs os =
    floats_now p.number p.count (written p.fresh p.slot r.a xs) (written p.fresh p.slot r.b ys)
    (written (eqb p.number 0) p.slot r.cost.bits bs)
    (written (eqb p.number 0) p.slot r.cost.mark os)

-- Put into an f64 map
unfoldable pub put_floats : Bool → ℕ → List ℕ → Link RawCost → ℕ → List ℕ → List ℕ → List ℕ → List ℕ → Floats
put_floats d m marks r n xs ys bs os =
    store_floats (placing d m (room_floats xs ys bs os) marks r.a r.b n (zip3 xs ys (float_costs bs os))) r xs ys bs os

-- Put into what a put before it left
abbrev pub ints_put : Bool → ℕ → List ℕ → Link ℤ → Ints → Ints
ints_put d m marks r s = put_ints d m marks r s.count s.from s.to s.costs

-- the same for an f64 map
abbrev pub floats_put : Bool → ℕ → List ℕ → Link RawCost → Floats → Floats
floats_put d m marks r s = put_floats d m marks r s.count s.from s.to s.bits s.opens

-- an arc that the f64 engine sees, by its pattern: the link is open
abbrev pub OpenArc : Bool → List (Link FloatCost) → ℕ → ℕ → ℕ → Type 0
OpenArc d ls u v x = Arc d ls u v (float_cost x true)
