-- Feeds: records put one after the other into an empty table, and the map that demand 3 says they make,
-- which holds the last accepted record of each link. The theorems are in proofs/Demand3.antt.
-- Assumes nothing.
use Rattle.std.specs.Prelude.{◌≡◌, Bool, true, false, cond, ◌||◌, List, [], ◌∷◌, ◌++◌, map, ◌↔◌, ℕ, leb, eqb, ℤ, length, take}
use Rattle.table.specs.Links.{Link, joins, zip3, present, all_inside, lent_whole, Arc}
use Rattle.table.specs.Lent.{room_ints, room_floats, float_costs, RawCost, float_seen, Ints, ints_put, Floats, floats_put}
use Rattle.table.specs.declared.FloatCost.{FloatCost}

-- a feed: each record is put into what the one before it left
abbrev pub feed : {S R : Type 0} → (R → S → S) → S → List R → S
feed put s [] = s
feed put s (r ∷ rs) = feed put (put r s) rs

-- the records that are accepted: those whose put gives 0
abbrev pub accepted : {S R : Type 0} → (R → S → S) → (S → ℕ) → S → List R → List R
accepted put number s [] = []
accepted put number s (r ∷ rs) = cond (eqb (number (put r s)) 0) (r ∷ []) [] ++ accepted put number (put r s) rs

-- does one of the records name the link u, v?
abbrev pub names : {C : Type 0} → Bool → ℕ → ℕ → List (Link C) → Bool
names d u v [] = false
names d u v (r ∷ rs) = joins d u v r || names d u v rs

-- the last record of each link: a record goes where a later one names its link
abbrev pub lasts : {C : Type 0} → Bool → List (Link C) → List (Link C)
lasts d [] = []
lasts d (r ∷ rs) = cond (names d r.a r.b rs) (lasts d rs) (r ∷ lasts d rs)

-- no link stands twice
abbrev pub Single : {C : Type 0} → Bool → List (Link C) → Type 0
Single d [] = Unit
Single d (l ∷ ls) = (names d l.a l.b ls ≡ false) × Single d ls

-- a kind of map: how a record R is put into what is lent, S, and what engines see of both, with costs C
pub record Kind (C R S : Type 0) : Type 0 where
  pub put : Bool → ℕ → List ℕ → R → S → S
  pub seen : R → Link C
  pub number : S → ℕ
  pub count : S → ℕ
  pub room : S → ℕ
  pub places : S → List (Link C)

-- integer maps
abbrev pub ints : Kind ℤ (Link ℤ) Ints
ints =
    record {
      put = ints_put;
      seen = λ r. r;
      number = λ s. s.number;
      count = λ s. s.count;
      room = λ s. room_ints s.from s.to s.costs;
      places = λ s. zip3 s.from s.to s.costs;
    }

-- f64 maps
abbrev pub floats : Kind FloatCost (Link RawCost) Floats
floats =
    record {
      put = floats_put;
      seen = float_seen;
      number = λ s. s.number;
      count = λ s. s.count;
      room = λ s. room_floats s.from s.to s.bits s.opens;
      places = λ s. zip3 s.from s.to (float_costs s.bits s.opens);
    }

-- the inputs of a feed: the map, what is lent for its table, and the records in the order in which they are put
pub record Feed (R S : Type 0) : Type 0 where
  pub bound : ℕ
  pub directed : Bool
  pub marks : List ℕ
  pub lent : S
  pub records : List R

module _ {C R S : Type 0} (k : Kind C R S) where
  -- what the feed leaves
  abbrev pub fed : Feed R S → S
  fed f = feed (k.put f.directed f.bound f.marks) f.lent f.records

  -- the links that it then holds: the places below the count
  abbrev pub held_by : Feed R S → List (Link C)
  held_by f = take (k.count (fed f)) (k.places (fed f))

  -- its accepted records, as engines see them
  abbrev pub accepted_by : Feed R S → List (Link C)
  accepted_by f = map k.seen (accepted (k.put f.directed f.bound f.marks) k.number f.lent f.records)

  -- the last one of each link
  abbrev pub lasts_of : Feed R S → List (Link C)
  lasts_of f = lasts f.directed (accepted_by f)

  -- are the limits kept and the slices long enough after the feed?
  abbrev pub whole_after : Feed R S → Bool
  whole_after f = lent_whole f.bound (k.count (fed f)) (k.room (fed f)) f.marks

  -- what it leaves is the map of its last accepted records: the limits kept if the bound and the marks keep theirs, all links inside,
  -- none twice, one link for each of them, and their arcs
  pub record HoldsLasts (f : Feed R S) : Type 0 where
    pub limits : whole_after f ≡ lent_whole f.bound 0 0 f.marks
    pub inside : all_inside f.bound f.marks (held_by f) ≡ true
    pub once : Single f.directed (held_by f)
    pub counted : k.count (fed f) ≡ length (lasts_of f)
    pub arcs : (u v : ℕ) (c : C) → Arc f.directed (held_by f) u v c ↔ Arc f.directed (lasts_of f) u v c

  -- two feeds for the same map, both from count 0: same bound, direction and presence, m marks lent to both or to neither, and the same
  -- last accepted record of each link. Any put may be refused, with any number
  pub record SameFeeds (f g : Feed R S) : Type 0 where
    pub one : k.count f.lent ≡ 0
    pub other : k.count g.lent ≡ 0
    pub bound : f.bound ≡ g.bound
    pub directed : f.directed ≡ g.directed
    pub marked : leb f.bound (length f.marks) ≡ leb g.bound (length g.marks)
    pub has : (i : ℕ) → present f.bound f.marks i ≡ present g.bound g.marks i
    pub last : (u v : ℕ) (c : C) → Arc f.directed (lasts_of f) u v c ↔ Arc g.directed (lasts_of g) u v c

  -- they leave maps that no engine can tell apart: all that a question may depend on is the same
  pub record SameMaps (f g : Feed R S) : Type 0 where
    pub bound : f.bound ≡ g.bound
    pub directed : f.directed ≡ g.directed
    pub has : (i : ℕ) → present f.bound f.marks i ≡ present g.bound g.marks i
    pub count : k.count (fed f) ≡ k.count (fed g)
    pub whole : whole_after f ≡ whole_after g
    pub arcs : (u v : ℕ) (c : C) → Arc f.directed (held_by f) u v c ↔ Arc g.directed (held_by g) u v c
