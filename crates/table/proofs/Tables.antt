-- The tables that the proofs of demand 3 work on: put as a function of a list of links, and of a table of either kind. Only proofs cite these.
-- Assumes nothing.
use mathlib.Core.Bool.{Bool, cond}
use mathlib.Core.List.{List, [], ◌∷◌}
use mathlib.Core.Option.{Option, none, some}
use Prim.Native.Nat.{ℕ}
use lib.Dec.{eqb}
use lib.ListN.{take, set}
use Rattle.table.specs.Links.{Link, link_of, joins, Place, placing, Arc}
use Rattle.table.specs.Feeds.{feed, accepted, names}

-- Put on a list: the first link that joins the record's ends takes its cost and keeps its place and ends; a new link goes at the end
abbrev pub put_list : {C : Type 0} → Bool → Link C → List (Link C) → List (Link C)
put_list d r [] = r ∷ []
put_list d r (l ∷ ls) = cond (joins d r.a r.b l) (link_of l.a l.b r.cost ∷ ls) (l ∷ put_list d r ls)

-- a feed of accepted records into a list of links
abbrev pub feed_into : {C : Type 0} → Bool → List (Link C) → List (Link C) → List (Link C)
feed_into d ls rs = feed (put_list d) ls rs

-- the cost of the first link that joins u and v
abbrev pub cost_of : {C : Type 0} → Bool → ℕ → ℕ → List (Link C) → Option C
cost_of d u v [] = none
cost_of d u v (l ∷ ls) = cond (joins d u v l) (some l.cost) (cost_of d u v ls)

-- the cost in the last record of the link u, v, if there is one
abbrev pub last_cost : {C : Type 0} → Bool → ℕ → ℕ → List (Link C) → Option C
last_cost d u v [] = none
last_cost d u v (r ∷ rs) = cond (names d u v rs) (last_cost d u v rs) (cond (joins d u v r) (some r.cost) none)

-- each link of ls stands in ks, at any place, and turned if undirected
abbrev pub Within : {C : Type 0} → Bool → List (Link C) → List (Link C) → Type 0
Within d [] ks = Unit
Within d (l ∷ ls) ks = Arc d ks l.a l.b l.cost × Within d ls ks

-- the cost at place k replaced
abbrev pub recost : {C : Type 0} → ℕ → C → List (Link C) → List (Link C)
recost k c [] = []
recost ℕ.zero c (l ∷ ls) = link_of l.a l.b c ∷ ls
recost (ℕ.suc k) c (l ∷ ls) = l ∷ recost k c ls

-- what a put leaves: its number, the count, and every place
pub record Table (C : Type 0) : Type 0 where
  pub number : ℕ
  pub count : ℕ
  pub places : List (Link C)

-- the links that a table holds
abbrev pub held : {C : Type 0} → Table C → List (Link C)
held t = take t.count t.places

-- the record written where it goes
unfoldable pub store : {C : Type 0} → Place → Link C → List (Link C) → Table C
store p r ls =
    record {
      number = p.number;
      count = p.count;
      places = cond (eqb p.number 0) (cond p.fresh (set ls p.slot r) (recost p.slot r.cost ls)) ls;
    }

-- Put into a table
abbrev pub put_table : {C : Type 0} → Bool → ℕ → ℕ → List ℕ → Link C → Table C → Table C
put_table d m room marks r t = store (placing d m room marks r.a r.b t.count t.places) r t.places

-- a feed into a table
abbrev pub after : {C : Type 0} → Bool → ℕ → ℕ → List ℕ → Table C → List (Link C) → Table C
after d m room marks t rs = feed (put_table d m room marks) t rs

-- its accepted records
abbrev pub accepted_into : {C : Type 0} → Bool → ℕ → ℕ → List ℕ → Table C → List (Link C) → List (Link C)
accepted_into d m room marks t rs = accepted (put_table d m room marks) (λ t. t.number) t rs
