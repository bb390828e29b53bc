-- What the parts of the page check promise it.
-- Assumes nothing.
use Rattle.std.specs.Prelude.{◌≡◌, Bool, true, false, List, ℕ, ◌+◌, ◌≤◌, ◌<◌, ℤ, ◌<ℤ◌, length, get_or, set}
use Rattle.numbers.specs.Tests.{first_no}
use Rattle.whole.specs.Zed.{◌⊕◌}
use Rattle.clean.specs.None.{none_i64}
use Rattle.table.specs.Links.{links, Arc}
use Rattle.net.specs.declared.Ints.{Ints}
use Rattle.net.specs.declared.Lent.{Lent}
use Rattle.net.specs.Net.{Net}
use Rattle.page.specs.Promise.{entry, Known, Holds, Meets, InRange, Ranged, table}

-- refusal 1, then 2, then 3, else 0
unfoldable pub refusal_no : Net ℤ → ℕ → List ℤ → ℕ
refusal_no g s page = first_no 3 (table g s page)

-- r tells A from B
pub record Tells (A B : Type 0) (r : Bool) : Type 0 where
  pub holds : r ≡ true → A
  pub fails : r ≡ false → B

-- r tells whether A holds
abbrev pub Decides : Type 0 → Bool → Type 0
Decides A r = Tells A (A → ⊥) r

-- a mark that is not 0
abbrev pub Marked : List ℕ → ℕ → Type 0
Marked met v = get_or met v 0 ≡ 0 → ⊥

-- an index other than the source that has a distance is marked
abbrev pub MarkedWhereKnown : ℕ → List ℤ → List ℕ → ℕ → Type 0
MarkedWhereKnown s page met v = (v ≡ s → ⊥) → Known page v → Marked met v

-- before an arc from u to v is looked at
pub record CanLook (page : List ℤ) (met : List ℕ) (u v : ℕ) : Type 0 where
  pub tail : u < length page
  pub head : v < length page
  pub mark : v < length met
  pub ranged : InRange (entry page u)

-- one arc looked at: r tells whether it holds, and an index that is met exactly is marked
pub data ArcChecked (page : List ℤ) (u v : ℕ) (c : ℤ) (met met' : List ℕ) (r : Bool) : Type 0 where
  -- from an index without a distance
  free : r ≡ true → entry page u ≡ none_i64 → met' ≡ met → ArcChecked page u v c met met' r
  -- to an index without a distance
  lost : r ≡ false → Known page u → entry page v ≡ none_i64 → met' ≡ met → ArcChecked page u v c met met' r
  -- to one with more than distance plus cost
  more : r ≡ false → Known page u → (entry page u ⊕ c) <ℤ entry page v → met' ≡ met → ArcChecked page u v c met met' r
  -- to one with less
  less : r ≡ true → Known page v → entry page v <ℤ (entry page u ⊕ c) → met' ≡ met → ArcChecked page u v c met met' r
  -- to one that it meets exactly
  exact : r ≡ true → Known page u → Known page v → entry page v ≡ entry page u ⊕ c → met' ≡ set met v 1 → ArcChecked page u v c met met' r

-- all arcs of A looked at: they hold, and just the indices that one of them meets exactly are marked
pub record Seen (A : ℕ → ℕ → ℤ → Type 0) (page : List ℤ) (met : List ℕ) : Type 0 where
  pub holds : Holds A page
  pub sound : (v : ℕ) → Marked met v → Meets A page v
  pub whole : (v : ℕ) → Meets A page v → Marked met v

-- what the n links, the page and the marks must be, for a map with bound m
pub record Ready (m n : ℕ) (xs ys : List ℕ) (cs : List ℤ) (page : List ℤ) (met : List ℕ) : Type 0 where
  pub in_from : n ≤ length xs
  pub in_to : n ≤ length ys
  pub in_costs : n ≤ length cs
  pub ends : (i : ℕ) → i < n → (get_or xs i 0 < m) × (get_or ys i 0 < m)
  pub paged : m ≤ length page
  pub marked : m ≤ length met

-- the first i links looked at
pub record Upto (d : Bool) (m n : ℕ) (xs ys : List ℕ) (cs : List ℤ) (i : ℕ) (page : List ℤ) (met : List ℕ) : Type 0 where
  pub ready : Ready m n xs ys cs page met
  pub ranged : Ranged m page
  pub seen : Seen (Arc d (links i xs ys cs)) page met

-- one link more looked at, or an arc does not hold
abbrev pub Step : Bool → ℕ → ℕ → List ℕ → List ℕ → List ℤ → ℕ → List ℤ → List ℕ → Bool → Type 0
Step d m n xs ys cs i page met r = Tells (Upto d m n xs ys cs (i + 1) page met) (Holds (Arc d (links n xs ys cs)) page → ⊥) r

-- every link looked at, or an arc does not hold
abbrev pub Scanned : Bool → ℕ → List ℕ → List ℕ → List ℤ → List ℤ → List ℕ → Bool → Type 0
Scanned d n xs ys cs page met r = Tells (Seen (Arc d (links n xs ys cs)) page met) (Holds (Arc d (links n xs ys cs)) page → ⊥) r

-- what is judged: a page for the source s, with marks that are all zero
pub record Ripe (m n : ℕ) (xs ys : List ℕ) (cs : List ℤ) (s : ℕ) (page : List ℤ) (met : List ℕ) : Type 0 where
  pub ready : Ready m n xs ys cs page met
  pub source : s < m
  pub zero : (v : ℕ) → get_or met v 0 ≡ 0

-- the same, of a lent map
abbrev pub UptoIn : Lent Ints → ℕ → List ℤ → List ℕ → Type 0
UptoIn l i page met = Upto l.map.directed l.map.bound l.map.count l.from.now l.to.now l.costs.costs.now i page met

abbrev pub StepIn : Lent Ints → ℕ → List ℤ → List ℕ → Bool → Type 0
StepIn l i page met r = Step l.map.directed l.map.bound l.map.count l.from.now l.to.now l.costs.costs.now i page met r

abbrev pub ScannedIn : Lent Ints → List ℤ → List ℕ → Bool → Type 0
ScannedIn l page met r = Scanned l.map.directed l.map.count l.from.now l.to.now l.costs.costs.now page met r

abbrev pub RipeIn : Lent Ints → ℕ → List ℤ → List ℕ → Type 0
RipeIn l s page met = Ripe l.map.bound l.map.count l.from.now l.to.now l.costs.costs.now s page met
