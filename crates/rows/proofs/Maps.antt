-- The neighbour list of a lent map that is not refused: its arcs are the map's, it fits a search, and it leaves what is past the need as it was.
-- A map that is not refused has its ends below m and slices as long as the count: so the list may be made, and n links have at most n arcs if directed and 2n if
-- not, which the need covers. The rows hold exactly the arcs that leave their index (Members): those of the map for costs, the open ones for an f64 map, and those
-- of any cost where costs are left out.
-- Assumes nothing.
use mathlib.Core.Path.{◌≡◌, refl, sym, ap, ◌∙◌, subst}
use mathlib.Core.Bool.{Bool, true, false, cond, not}
use mathlib.Core.Logic.{inl, inr, ◌↔◌}
use mathlib.Core.List.{List, [], ◌∷◌, ◌++◌}
use Prim.Native.Nat.{ℕ, zero, suc, ◌+◌, ◌≤◌, ◌<◌}
use native.Mathlib.Nat.{not-suc-le-zero, le_of_suc-le-suc}
use native.Mathlib.Omega.{arith}
use lib.Dec.{eqb}
use lib.IntN.{ℤ}
use lib.ListN.{length, get_or, take}
use lib.Seq.{length-take-le, get_or-take}
use Rattle.table.specs.Links.{Link, link_of, zip3, links, ends, inside, all_inside, turned, arcs_of, arcs, Arc, Leads}
use Rattle.table.specs.Lent.{float_cost, float_costs, OpenArc}
use Rattle.table.specs.declared.FloatCost.{FloatCost}
use Rattle.table.proofs.Laws.{zip_at, zip_long, costs_long, all_at, present_below, both_below}
use Rattle.table.proofs.Arcs.{arc_inside}
use Rattle.net.specs.Net.{Net, net_of, net_of64, links_of, ArcOf, OpenArcOf, whole_net, inside_net, most_arcs, most_arcs_of}
use Rattle.net.proofs.Bounds.{whole_ints, long_ints, whole_floats, long_floats}
use Rattle.net.proofs.Same.{arc_below, open_below}
use Rattle.walks.specs.Costs.{Costs32}
use Rattle.rows.specs.Rows.{Lists, open_links, arcs_ends, Ready, EnoughFor, Rows}
use Rattle.rows.specs.RowArc.{RowArc, Sound}
use Rattle.rows.specs.Kept.{KeptLists, EnoughLists}
use Rattle.rows.proofs.Back.{some_of}
use Rattle.rows.proofs.Graph.{arc_of, row_of, sound}
use Rattle.rows.proofs.Kept.{lists_for, rows_kept}

-- a places hold the arcs of n links
arcs_most : {C : Type 0} (d : Bool) (ls : List (Link C)) → length (arcs d ls) ≤ most_arcs d (length ls)
unfolding arcs_of most_arcs
arcs_most d [] = omega arith
arcs_most true (l ∷ ls) = let h : length (arcs true ls) ≤ length ls = arcs_most true ls in omega arith
arcs_most false (l ∷ ls) = go (arcs_most false ls) (not (eqb l.a l.b))
  where
    go : length (arcs false ls) ≤ length ls + length ls → (t : Bool) → length (l ∷ cond t (turned l ∷ []) [] ++ arcs false ls) ≤ suc (length ls) + suc (length ls)
    go h true = omega arith
    go h false = omega arith

room_mono : (d : Bool) (k n : ℕ) → k ≤ n → most_arcs d k ≤ most_arcs d n
unfolding most_arcs
room_mono true k n h = h
room_mono false k n h = omega arith

take_few : {X : Type 0} (n : ℕ) (l : List X) → length (take n l) ≤ n
take_few zero l = omega arith
take_few (suc n) [] = omega arith
take_few (suc n) (x ∷ l) = let h = take_few n l in omega arith

open_few : (ls : List (Link FloatCost)) → length (open_links ls) ≤ length ls
open_few [] = omega arith
open_few (l ∷ ls) = go l.cost.opened (open_few ls)
  where
    go : (t : Bool) → length (open_links ls) ≤ length ls → length (cond t (link_of l.a l.b l.cost.bits ∷ open_links ls) (open_links ls)) ≤ suc (length ls)
    go true h = omega arith
    go false h = omega arith

pub links_room : {C : Type 0} (d : Bool) (n : ℕ) (l : List (Link C)) → length (arcs d (take n l)) ≤ most_arcs d n
links_room d n l = omega (arith, arcs_most d (take n l), room_mono d (length (take n l)) n (take_few n l))

pub open_room : (d : Bool) (n : ℕ) (l : List (Link FloatCost)) → length (arcs d (open_links (take n l))) ≤ most_arcs d n
open_room d n l = omega (arith, arcs_most d (open_links (take n l)), room_mono d (length (open_links (take n l))) n (omega (arith, open_few (take n l), take_few n l)))

-- a table that is not refused is ready
ready_of : {C : Type 0} (m n : ℕ) (marks xs ys : List ℕ) (cs : List C) → m ≤ 1024 → n ≤ 8192 → n ≤ length xs → n ≤ length ys → n ≤ length cs → all_inside m marks (links n xs ys cs) ≡ true
    → Ready m n xs ys
ready_of {C} m n marks xs ys cs h k p q s e = record { indices = h; few = k; in_from = p; in_to = q; tails = λ j l. (both j l).0; heads = λ j l. (both j l).1 }
  where
    both : (j : ℕ) → j < n → (get_or xs j 0 < m) × (get_or ys j 0 < m)
    both j l =
        let long = length-take-le n (zip3 xs ys cs) (zip_long xs ys cs n p q s) in
        let o : Link C = some_of (links n xs ys cs) (omega arith) in
        let at = get_or-take n (zip3 xs ys cs) j o l ∙ zip_at xs ys cs o j (omega arith) (omega arith) (omega arith) in
        both_below m marks (get_or xs j 0) (get_or ys j 0) (subst (λ (x : Link C). inside m marks x ≡ true) at (all_at m marks (links n xs ys cs) o j (omega (arith, long)) e))

pub ready_ints : (m n : ℕ) (d : Bool) (marks xs ys : List ℕ) (cs : List ℤ) → whole_net (net_of m n d marks xs ys cs) ≡ true → inside_net (net_of m n d marks xs ys cs) ≡ true
    → Ready m n xs ys × (n ≤ length cs)
ready_ints m n d marks xs ys cs e i =
    let w = whole_ints m n d marks xs ys cs e in
    let l = long_ints m n d marks xs ys cs e in
    (ready_of m n marks xs ys cs w.indices w.links l.0 l.1 l.2 i, l.2)

pub ready_floats : (m n : ℕ) (d : Bool) (marks xs ys bs os : List ℕ) → whole_net (net_of64 m n d marks xs ys bs os) ≡ true → inside_net (net_of64 m n d marks xs ys bs os) ≡ true
    → Ready m n xs ys × (n ≤ length (float_costs bs os))
ready_floats m n d marks xs ys bs os e i =
    let w = whole_floats m n d marks xs ys bs os e in
    let l = long_floats m n d marks xs ys bs os e in
    let c = costs_long bs os n l.2 l.3 in
    (ready_of m n marks xs ys (float_costs bs os) w.indices w.links l.0 l.1 c i, c)

-- slices as long as the need have room
pub room_of : {C : Type 0} (A : List (Link C)) (m a : ℕ) (s : Lists C) → length A ≤ a → m < length s.offsets → a ≤ length s.heads → a ≤ length s.weights → EnoughFor A m s
room_of A m a s h p q r = record { offsets = p; heads = omega arith; weights = omega arith }

-- so have those of a map, for its arcs
pub net_room : {C : Type 0} (g : Net C) {s : Lists C} → EnoughLists g.bound (most_arcs_of g) s → EnoughFor (arcs g.directed (links_of g)) g.bound s
net_room g n = lists_for (links_room g.directed g.count g.table) n

-- a map whose costs stand in the list
module _ {C : Type 0} (g : Net C) (i : inside_net g ≡ true) {s₀ nb : Lists C} (r : Rows (arcs g.directed (links_of g)) g.bound s₀ nb) where
  pub arcs_are : (u v : ℕ) (c : C) → RowArc g.bound nb u v c ↔ ArcOf g u v c
  arcs_are u v c = (arc_of g.directed (links_of g) r u v c, λ w. row_of g.directed (links_of g) r u v c (arc_below g i u v c w).0 w)

  pub net_sound : g.bound ≤ 1024 → EnoughFor (arcs g.directed (links_of g)) g.bound s₀ → Sound g.bound nb
  net_sound h w = sound g.directed (links_of g) r h w (λ u v c a. (arc_below g i u v c a).1)

  pub net_kept : KeptLists g.bound (most_arcs_of g) s₀ nb
  net_kept = rows_kept (links_room g.directed g.count g.table) r

-- each weight that stands in the list of an integer map is small
pub row_small : (d : Bool) (ls : List (Link ℤ)) {m : ℕ} {s₀ nb : Lists ℤ} → Rows (arcs d ls) m s₀ nb → Costs32 (Arc d ls) → Costs32 (RowArc m nb)
row_small d ls r f u v c a = f u v c (arc_of d ls r u v c a)

-- the open arcs of an f64 map
open_in : (d : Bool) (ls : List (Link FloatCost)) (u v x : ℕ) → OpenArc d ls u v x → Arc d (open_links ls) u v x
open_in d [] u v x w = w
open_in d (l ∷ ls) u v x (inl p) =
    let o : l.cost.opened ≡ true = ap (λ (c : FloatCost). c.opened) p.1 in
    subst (λ (t : Bool). Arc d (cond t (link_of l.a l.b l.cost.bits ∷ open_links ls) (open_links ls)) u v x) (sym o) (inl (p.0, ap (λ (c : FloatCost). c.bits) p.1))
open_in d (l ∷ ls) u v x (inr w) = go l.cost.opened (open_in d ls u v x w)
  where
    go : (t : Bool) → Arc d (open_links ls) u v x → Arc d (cond t (link_of l.a l.b l.cost.bits ∷ open_links ls) (open_links ls)) u v x
    go true a = inr a
    go false a = a

open_out : (d : Bool) (ls : List (Link FloatCost)) (u v x : ℕ) → Arc d (open_links ls) u v x → OpenArc d ls u v x
open_out d [] u v x w = w
open_out d (l ∷ ls) u v x w = go l.cost.opened refl (λ a. open_out d ls u v x a) w
  where
    go : (t : Bool) → l.cost.opened ≡ t → (Arc d (open_links ls) u v x → OpenArc d ls u v x) → Arc d (cond t (link_of l.a l.b l.cost.bits ∷ open_links ls) (open_links ls)) u v x
        → OpenArc d (l ∷ ls) u v x
    go true e f (inl p) = inl (p.0, λ i. float_cost (p.1 i) (e i))
    go true e f (inr a) = inr (f a)
    go false e f a = inr (f a)

pub open_arcs_lem : (d : Bool) (ls : List (Link FloatCost)) (u v x : ℕ) → Arc d (open_links ls) u v x ↔ OpenArc d ls u v x
open_arcs_lem d ls u v x = (open_out d ls u v x, open_in d ls u v x)

module _ (g : Net FloatCost) (i : inside_net g ≡ true) {s₀ nb : Lists ℕ} (r : Rows (arcs g.directed (open_links (links_of g))) g.bound s₀ nb) where
  pub open_are : (u v x : ℕ) → RowArc g.bound nb u v x ↔ OpenArcOf g u v x
  open_are u v x = (
    λ a. open_out g.directed (links_of g) u v x (arc_of g.directed (open_links (links_of g)) r u v x a),
    λ w. row_of g.directed (open_links (links_of g)) r u v x (open_below g i u v x w).0 (open_in g.directed (links_of g) u v x w),
  )

  pub open_sound : g.bound ≤ 1024 → EnoughFor (arcs g.directed (open_links (links_of g))) g.bound s₀ → Sound g.bound nb
  open_sound h w = sound g.directed (open_links (links_of g)) r h w (λ u v x a. (open_below g i u v x (open_out g.directed (links_of g) u v x a)).1)

  pub open_kept : KeptLists g.bound (most_arcs_of g) s₀ nb
  open_kept = rows_kept (open_room g.directed g.count g.table) r

-- the arcs of any cost, of either kind of map
module _ {C : Type 0} (d : Bool) (u v : ℕ) where
  ends_in : (xs ys : List ℕ) (cs : List C) (n : ℕ) → Leads d (links n xs ys cs) u v → Arc d (take n (ends xs ys)) u v tt
  ends_in xs ys cs zero w = w.1
  ends_in [] ys cs (suc n) w = w.1
  ends_in (x ∷ xs) [] cs (suc n) w = absurd w.1
  ends_in (x ∷ xs) (y ∷ ys) [] (suc n) w = absurd w.1
  ends_in (x ∷ xs) (y ∷ ys) (c ∷ cs) (suc n) (z, inl p) = inl (p.0, refl)
  ends_in (x ∷ xs) (y ∷ ys) (c ∷ cs) (suc n) (z, inr a) = inr (ends_in xs ys cs n (z, a))

  ends_out : (xs ys : List ℕ) (cs : List C) (n : ℕ) → n ≤ length cs → Arc d (take n (ends xs ys)) u v tt → Leads d (links n xs ys cs) u v
  ends_out xs ys cs zero h w = absurd w
  ends_out [] ys cs (suc n) h w = absurd w
  ends_out (x ∷ xs) [] cs (suc n) h w = absurd w
  ends_out (x ∷ xs) (y ∷ ys) [] (suc n) h w = absurd (not-suc-le-zero h)
  ends_out (x ∷ xs) (y ∷ ys) (c ∷ cs) (suc n) h (inl p) = (c, inl (p.0, refl))
  ends_out (x ∷ xs) (y ∷ ys) (c ∷ cs) (suc n) h (inr a) = let q = ends_out xs ys cs n (le_of_suc-le-suc h) a in (q.0, inr q.1)

module _ {C : Type 0} (m n : ℕ) (d : Bool) (marks xs ys : List ℕ) (cs : List C) (h : n ≤ length cs) (i : all_inside m marks (links n xs ys cs) ≡ true) {s₀ nb : Lists Unit}
    (r : Rows (arcs_ends d n xs ys) m s₀ nb) where
  below : (u v : ℕ) → Leads d (links n xs ys cs) u v → (u < m) × (v < m)
  below u v w = let k = arc_inside d m marks (links n xs ys cs) i u v w.0 w.1 in (present_below m marks u k.0, present_below m marks v k.1)

  pub leads_are : (u v : ℕ) → RowArc m nb u v tt ↔ Leads d (links n xs ys cs) u v
  leads_are u v = (
    λ a. ends_out d u v xs ys cs n h (arc_of d (take n (ends xs ys)) r u v tt a),
    λ w. row_of d (take n (ends xs ys)) r u v tt (below u v w).0 (ends_in d u v xs ys cs n w),
  )
