-- The lent map as engines see it: once for any type C of a link's cost.
-- Assumes nothing.
use Rattle.std.specs.Prelude.{◌≡◌, Bool, cond, List, [], ◌∷◌, ◌++◌, ◌↔◌, ℕ, zero, suc, ◌+◌, ℤ, length, take}
use Rattle.net.specs.declared.Lent.{Lent}
use Rattle.net.specs.declared.Ints.{Ints}
use Rattle.net.specs.declared.Floats.{Floats}
use Rattle.table.specs.Links.{Link, zip3, lent_whole, all_inside, present, Arc, Leads}
use Rattle.table.specs.Lent.{room_ints, room_floats, float_costs, OpenArc}
use Rattle.table.specs.declared.FloatCost.{FloatCost}

-- a lent map: its numbers, its room, its marks and its table
pub record Net (C : Type 0) : Type 0 where
  pub bound : ℕ
  pub count : ℕ
  pub directed : Bool
  pub room : ℕ
  pub marks : List ℕ
  pub table : List (Link C)

-- of the slices of an integer map
abbrev pub net_of : ℕ → ℕ → Bool → List ℕ → List ℕ → List ℕ → List ℤ → Net ℤ
net_of m n d marks xs ys cs = record { bound = m; count = n; directed = d; room = room_ints xs ys cs; marks = marks; table = zip3 xs ys cs }

-- of the slices of an f64 map
abbrev pub net_of64 : ℕ → ℕ → Bool → List ℕ → List ℕ → List ℕ → List ℕ → List ℕ → Net FloatCost
net_of64 m n d marks xs ys bs os =
    record { bound = m; count = n; directed = d; room = room_floats xs ys bs os; marks = marks; table = zip3 xs ys (float_costs bs os) }

-- of a map that is lent, of either kind: what its costs list, and the room that its slices leave
abbrev pub net_in : {D C : Type 0} → (D → List C) → (List ℕ → List ℕ → D → ℕ) → Lent D → Net C
net_in listed room l = record {
  bound = l.map.bound;
  count = l.map.count;
  directed = l.map.directed;
  room = room l.from.now l.to.now l.costs;
  marks = l.marks.now;
  table = zip3 l.from.now l.to.now (listed l.costs);
}

-- of a lent integer map, of a lent f64 map
abbrev pub int_net : Lent Ints → Net ℤ
int_net l = net_of l.map.bound l.map.count l.map.directed l.marks.now l.from.now l.to.now l.costs.costs.now

abbrev pub float_net : Lent Floats → Net FloatCost
float_net l = net_of64 l.map.bound l.map.count l.map.directed l.marks.now l.from.now l.to.now l.costs.bits.now l.costs.opens.now

-- its links: the first places of its table
abbrev pub links_of : {C : Type 0} → Net C → List (Link C)
links_of g = take g.count g.table

-- an arc from u to v of cost c; an open arc of an f64 map with its pattern; an arc of any cost
abbrev pub ArcOf : {C : Type 0} → Net C → ℕ → ℕ → C → Type 0
ArcOf g = Arc g.directed (links_of g)

abbrev pub OpenArcOf : Net FloatCost → ℕ → ℕ → ℕ → Type 0
OpenArcOf g = OpenArc g.directed (links_of g)

abbrev pub LeadsOf : {C : Type 0} → Net C → ℕ → ℕ → Type 0
LeadsOf g = Leads g.directed (links_of g)

-- an index that the map has
abbrev pub has : {C : Type 0} → Net C → ℕ → Bool
has g i = present g.bound g.marks i

-- the indices below k for which f holds, in rising order
abbrev pub rising : (ℕ → Bool) → ℕ → List ℕ
rising f zero = []
rising f (suc k) = rising f k ++ cond (f k) (k ∷ []) []

-- the nodes: its present indices in rising order, and p, their number
abbrev pub nodes_of : {C : Type 0} → Net C → List ℕ
nodes_of g = rising (has g) g.bound

abbrev pub width : {C : Type 0} → Net C → ℕ
width g = length (nodes_of g)

-- refusal 1, as far as the map goes: the limits are kept and its slices are long enough
abbrev pub whole_net : {C : Type 0} → Net C → Bool
whole_net g = lent_whole g.bound g.count g.room g.marks

-- refusal 2: each link names indices that the map has
abbrev pub inside_net : {C : Type 0} → Net C → Bool
inside_net g = all_inside g.bound g.marks (links_of g)

-- a: the count of links if directed, twice the count if not
unfoldable pub most_arcs : Bool → ℕ → ℕ
most_arcs d n = cond d n (n + n)

abbrev pub most_arcs_of : {C : Type 0} → Net C → ℕ
most_arcs_of g = most_arcs g.directed g.count

-- maps that no question can tell apart: the same numbers and present indices, both long enough or both not, and the same arcs
pub record SameNet {C : Type 0} (g g' : Net C) : Type 0 where
  pub bound : g.bound ≡ g'.bound
  pub count : g.count ≡ g'.count
  pub directed : g.directed ≡ g'.directed
  pub has : (i : ℕ) → has g i ≡ has g' i
  pub whole : whole_net g ≡ whole_net g'
  pub arcs : (u v : ℕ) (c : C) → ArcOf g u v c ↔ ArcOf g' u v c
