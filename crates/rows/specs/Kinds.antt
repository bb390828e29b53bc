-- What the links of either kind of map give: the weight of each, and the arcs of all.
-- Assumes nothing.
use Rattle.std.specs.Prelude.{◌≡◌, refl, Bool, true, false, cond, List, [], ◌∷◌, ◌++◌, ℕ, ◌<◌, ℤ, Option, None, Some, length, get_or}
use mathlib.Core.Path.{sym, ap}
use Rattle.table.specs.Links.{Link, link_of, links, arcs_of, arcs}
use Rattle.table.specs.Lent.{float_costs}
use Rattle.table.specs.declared.FloatCost.{FloatCost}
use Rattle.rows.specs.Rows.{open_links, arcs_ints, arcs_open}
use Rattle.rows.specs.Steps.{flat, given_by, given_arcs}

-- the weight of an integer map's link is its cost, and of an f64 map's its pattern; a closed one has none
abbrev pub int_weight : ℤ → Option ℤ
int_weight c = Some c

abbrev pub float_weight : FloatCost → Option ℕ
float_weight c = cond c.opened (Some c.bits) None

-- w is what the cost at place k gives, whatever is read for a place past the end
abbrev pub WeightAt : {C W : Type 0} → (C → Option W) → List C → ℕ → Option W → Type 0
WeightAt {C} f cs k w = (o : C) → w ≡ f (get_or cs k o)

-- w is what the link at place k gives, of these costs
abbrev pub Weighed : {C W : Type 0} → (C → Option W) → List C → ℕ → Option W → Type 0
Weighed f cs k w = (k < length cs) × WeightAt f cs k w

-- the arcs are what each link gives, one after the other: those of the links of an integer map
pub arcs_flat : {C : Type 0} (d : Bool) (ls : List (Link C)) → flat (arcs_of d) ls ≡ arcs d ls
arcs_flat d [] = refl
arcs_flat d (l ∷ ls) = ap (λ as'. arcs_of d l ++ as') (arcs_flat d ls)

pub ints_given : (d : Bool) (n : ℕ) (xs ys : List ℕ) (cs : List ℤ)
    → arcs_ints d n xs ys cs ≡ flat (given_arcs int_weight d) (links n xs ys cs)
ints_given d n xs ys cs = sym (arcs_flat d (links n xs ys cs))

-- and those of the open links of an f64 map
open_flat : (d : Bool) (ls : List (Link FloatCost)) → arcs d (open_links ls) ≡ flat (given_arcs float_weight d) ls
open_flat d [] = refl
open_flat d (l ∷ ls) = go l.cost.opened (open_flat d ls)
  where
    go : (t : Bool) → arcs d (open_links ls) ≡ flat (given_arcs float_weight d) ls
        → arcs d (cond t (link_of l.a l.b l.cost.bits ∷ open_links ls) (open_links ls))
        ≡ given_by d l.a l.b (cond t (Some l.cost.bits) None) ++ flat (given_arcs float_weight d) ls
    go true e = ap (λ as'. arcs_of d (link_of l.a l.b l.cost.bits) ++ as') e
    go false e = e

pub floats_given : (d : Bool) (n : ℕ) (xs ys bs os : List ℕ)
    → arcs_open d n xs ys bs os ≡ flat (given_arcs float_weight d) (links n xs ys (float_costs bs os))
floats_given d n xs ys bs os = open_flat d (links n xs ys (float_costs bs os))
