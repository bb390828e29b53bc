-- What a map that is not refused with 1 keeps to, and how long its slices are.
-- Assumes nothing.
use mathlib.Core.Path.{◌≡◌, refl}
use mathlib.Core.Bool.{Bool, true, false}
use mathlib.Core.List.{List}
use Prim.Native.Nat.{ℕ, ◌+◌, ◌≤◌}
use native.Mathlib.Omega.{arith}
use lib.IntN.{ℤ}
use lib.ListN.{length}
use Rattle.table.specs.Links.{zip3}
use Rattle.table.specs.Lent.{float_costs}
use Rattle.table.proofs.Laws.{Room, room_ints_lem, room_bits, room_opens, room_floats_lem, zip_long}
use Rattle.table.proofs.Laws as table
use Rattle.net.specs.Net.{Net, net_of, net_of64, whole_net, most_arcs, most_arcs_of, width}
use Rattle.net.proofs.Nodes.{width_most}

-- the limits, and slices that are long enough
pub record Whole {C : Type 0} (g : Net C) : Type 0 where
  pub indices : g.bound ≤ 1024
  pub links : g.count ≤ 8192
  pub within : g.count ≤ g.room
  pub marked : g.bound ≤ length g.marks
  pub listed : g.count ≤ length g.table

-- the room that arcs take is twice the count at most
pub most_arcs_most : (d : Bool) (n : ℕ) → most_arcs d n ≤ n + n
unfolding most_arcs
most_arcs_most true n = omega arith
most_arcs_most false n = omega arith

module _ {C : Type 0} {g : Net C} (w : Whole g) where
  pub size_most : most_arcs_of g ≤ 16384
  size_most = omega (arith, most_arcs_most g.directed g.count, w.links)

  pub width_small : width g ≤ 1024
  width_small = omega (arith, width_most g, w.indices)

-- any map whose room is that of its slices
module _ {C : Type 0} (g : Net C) (xs ys : List ℕ) (cs : List C) (r : Room g.room xs ys (length cs)) (t : g.table ≡ zip3 xs ys cs) where
  pub whole_of : whole_net g ≡ true → Whole g
  whole_of e =
      let k = table.whole g.bound g.count g.room g.marks e in
      record {
        indices = k.indices;
        links = omega (arith, k.few, r.few);
        within = k.few;
        marked = k.marked;
        listed = rw t (zip_long xs ys cs g.count (omega (arith, k.few, r.in_from)) (omega (arith, k.few, r.in_to)) (omega (arith, k.few, r.in_costs)));
      }

  pub long_of : whole_net g ≡ true → (g.count ≤ length xs) × (g.count ≤ length ys) × (g.count ≤ length cs)
  long_of e =
      let k = (whole_of e).within in
      (omega (arith, k, r.in_from), omega (arith, k, r.in_to), omega (arith, k, r.in_costs))

-- the slices of an integer map
module _ (m n : ℕ) (d : Bool) (marks xs ys : List ℕ) (cs : List ℤ) (e : whole_net (net_of m n d marks xs ys cs) ≡ true) where
  pub whole_ints : Whole (net_of m n d marks xs ys cs)
  whole_ints = whole_of (net_of m n d marks xs ys cs) xs ys cs (room_ints_lem xs ys cs) refl e

  pub long_ints : (n ≤ length xs) × (n ≤ length ys) × (n ≤ length cs)
  long_ints =
      let k = whole_ints.within in
      let r = room_ints_lem xs ys cs in
      (omega (arith, k, r.in_from), omega (arith, k, r.in_to), omega (arith, k, r.in_costs))

-- the slices of an f64 map
module _ (m n : ℕ) (d : Bool) (marks xs ys bs os : List ℕ) (e : whole_net (net_of64 m n d marks xs ys bs os) ≡ true) where
  pub whole_floats : Whole (net_of64 m n d marks xs ys bs os)
  whole_floats = whole_of (net_of64 m n d marks xs ys bs os) xs ys (float_costs bs os) (room_floats_lem xs ys bs os) refl e

  pub long_floats : (n ≤ length xs) × (n ≤ length ys) × (n ≤ length bs) × (n ≤ length os)
  long_floats =
      let k = whole_floats.within in
      let r = room_bits xs ys bs os in
      (omega (arith, k, r.in_from), omega (arith, k, r.in_to), omega (arith, k, r.in_costs), omega (arith, k, room_opens xs ys bs os))
