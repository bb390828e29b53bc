-- The arcs of a map that is inside, and maps that no question can tell apart.
-- Assumes nothing.
use mathlib.Core.Path.{◌≡◌, sym, ap, ◌∙◌}
use mathlib.Core.Bool.{Bool, true, false}
use mathlib.Core.List.{List, [], ◌∷◌}
use mathlib.Core.Logic.{inl, inr, ⊎_elim, ◌↔◌}
use Prim.Native.Nat.{ℕ, ◌<◌}
use lib.ListN.{length}
use Rattle.whole.proofs.Cases.{agree}
use Rattle.table.specs.Links.{Link, Arc}
use Rattle.table.specs.declared.FloatCost.{FloatCost}
use Rattle.table.proofs.Arcs.{arc_inside, inside_arc}
use Rattle.table.proofs.Joins.{joined, joins_of}
use Rattle.net.specs.Net.{Net, links_of, ArcOf, OpenArcOf, LeadsOf, has, rising, nodes_of, width, inside_net, most_arcs, most_arcs_of, SameNet}
use Rattle.net.proofs.Nodes.{rising_same, has_below}

-- both ends of an arc are indices that the map has
module _ {C : Type 0} (g : Net C) (e : inside_net g ≡ true) where
  pub arc_has : (u v : ℕ) (c : C) → ArcOf g u v c → (has g u ≡ true) × (has g v ≡ true)
  arc_has u v c w = arc_inside g.directed g.bound g.marks (links_of g) e u v c w

  pub arc_below : (u v : ℕ) (c : C) → ArcOf g u v c → (u < g.bound) × (v < g.bound)
  arc_below u v c w = let k = arc_has u v c w in (has_below g u k.0, has_below g v k.1)

  pub leads_has : (u v : ℕ) → LeadsOf g u v → (has g u ≡ true) × (has g v ≡ true)
  leads_has u v w = arc_has u v w.0 w.1

  pub leads_below : (u v : ℕ) → LeadsOf g u v → (u < g.bound) × (v < g.bound)
  leads_below u v w = arc_below u v w.0 w.1

-- undirected, an arc goes both ways
turned : {C : Type 0} (d : Bool) → d ≡ false → (ls : List (Link C)) (u v : ℕ) (c : C) → Arc d ls u v c → Arc d ls v u c
turned d e [] u v c a = a
turned d e (l ∷ ls) u v c (inl a) = inl (joins_of d v u l (⊎_elim (λ p. inr (e, p.0, p.1)) (λ p. inl (p.1, p.2)) (joined d u v l a.0)), a.1)
turned d e (l ∷ ls) u v c (inr a) = inr (turned d e ls u v c a)

pub arc_turned : {C : Type 0} (g : Net C) → g.directed ≡ false → (u v : ℕ) (c : C) → ArcOf g u v c → ArcOf g v u c
arc_turned g e u v c a = turned g.directed e (links_of g) u v c a

module _ (g : Net FloatCost) (e : inside_net g ≡ true) where
  pub open_has : (u v x : ℕ) → OpenArcOf g u v x → (has g u ≡ true) × (has g v ≡ true)
  open_has u v x w = arc_has g e u v _ w

  pub open_below : (u v x : ℕ) → OpenArcOf g u v x → (u < g.bound) × (v < g.bound)
  open_below u v x w = arc_below g e u v _ w

-- the same both ways
pub same_back : {C : Type 0} {g g' : Net C} → SameNet g g' → SameNet g' g
same_back s =
    record { bound = sym s.bound; count = sym s.count; directed = sym s.directed; has = λ i. sym (s.has i); whole = sym s.whole; arcs = λ u v c. ((s.arcs u v c).1, (s.arcs u v c).0) }

carry : {C : Type 0} (g g' : Net C) → SameNet g g' → inside_net g ≡ true → inside_net g' ≡ true
carry g g' s e =
    inside_arc g'.directed g'.bound g'.marks (links_of g')
    (λ u v c w. let k = arc_has g e u v c ((s.arcs u v c).1 w) in (sym (s.has u) ∙ k.0, sym (s.has v) ∙ k.1))

module _ {C : Type 0} {g g' : Net C} (s : SameNet g g') where
  -- refusal 2 for both or for none
  pub same_inside : inside_net g ≡ inside_net g'
  same_inside = agree (inside_net g) (inside_net g') (λ e. carry g g' s e) (λ e. carry g' g (same_back s) e)

  -- the same nodes, and the same room for arcs
  pub same_nodes : nodes_of g ≡ nodes_of g'
  same_nodes = rising_same (has g) (has g') (λ i. s.has i) g.bound ∙ ap (λ (m : ℕ). rising (has g') m) s.bound

  pub same_width : width g ≡ width g'
  same_width = ap length same_nodes

  pub same_size : most_arcs_of g ≡ most_arcs_of g'
  same_size = ap (λ (d : Bool). most_arcs d g.count) s.directed ∙ ap (λ (n : ℕ). most_arcs g'.directed n) s.count

  -- arcs of any cost
  pub same_leads : (u v : ℕ) → LeadsOf g u v ↔ LeadsOf g' u v
  same_leads u v = (λ w. (w.0, (s.arcs u v w.0).0 w.1), λ w. (w.0, (s.arcs u v w.0).1 w.1))

-- open arcs
pub same_open : {g g' : Net FloatCost} → SameNet g g' → (u v x : ℕ) → OpenArcOf g u v x ↔ OpenArcOf g' u v x
same_open s u v x = s.arcs u v _
