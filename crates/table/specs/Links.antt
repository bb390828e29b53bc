-- A table of links as a list: presence, refusals 1 and 2, the place where a record goes, and arcs. Once for any type C of a link's cost.
-- Assumes nothing.
use Rattle.std.specs.Prelude.{◌≡◌, Bool, true, false, cond, not, ◌&&◌, ◌||◌, List, [], ◌∷◌, ◌++◌, ◌⊎◌, ℕ, ◌+◌, ◌≤◌, ◌<◌, ltb, leb}
use Rattle.std.specs.Prelude.{eqb, length, take, get_or, Option, None, Some}

-- a link, a record that is put, and an arc (from a to b); C is the type of its cost
pub record Link (C : Type 0) : Type 0 where
  pub a : ℕ
  pub b : ℕ
  pub cost : C

-- a link from its parts
abbrev pub link_of : {C : Type 0} → ℕ → ℕ → C → Link C
link_of x y c = record { a = x; b = y; cost = c }

-- the lent slices side by side, as far as the shortest goes
abbrev pub zip3 : {C : Type 0} → List ℕ → List ℕ → List C → List (Link C)
zip3 [] ys cs = []
zip3 (a ∷ xs) [] cs = []
zip3 (a ∷ xs) (b ∷ ys) [] = []
zip3 (a ∷ xs) (b ∷ ys) (c ∷ cs) = link_of a b c ∷ zip3 xs ys cs

-- the links of a lent table: the first n places
abbrev pub links : {C : Type 0} → ℕ → List ℕ → List ℕ → List C → List (Link C)
links n xs ys cs = take n (zip3 xs ys cs)

-- links without a cost: what the check and the search look at
abbrev pub ends : List ℕ → List ℕ → List (Link Unit)
ends [] ys = []
ends (a ∷ xs) [] = []
ends (a ∷ xs) (b ∷ ys) = link_of a b tt ∷ ends xs ys

-- is x, y the pair u, v?
unfoldable pub same_pair : ℕ → ℕ → ℕ → ℕ → Bool
same_pair u v x y = eqb x u && eqb y v

-- does the link x, y join u and v, in this order if directed, in either if not?
unfoldable pub joins_ends : Bool → ℕ → ℕ → ℕ → ℕ → Bool
joins_ends d u v x y = same_pair u v x y || (not d && same_pair v u x y)

-- the same of a link
abbrev pub joins : {C : Type 0} → Bool → ℕ → ℕ → Link C → Bool
joins d u v l = joins_ends d u v l.a l.b

-- the first place of a link that joins u and v, or the number of links
abbrev pub place_of : {C : Type 0} → Bool → ℕ → ℕ → List (Link C) → ℕ
place_of d u v [] = 0
place_of d u v (l ∷ ls) = cond (joins d u v l) 0 (1 + place_of d u v ls)

-- r is the first of the first n places whose ends are u and v, or n where none is
pub record FirstPlace (d : Bool) (u v n : ℕ) (xs ys : List ℕ) (r : ℕ) : Type 0 where
  pub within : r ≤ n
  pub before : (k : ℕ) → k < r → joins_ends d u v (get_or xs k 0) (get_or ys k 0) ≡ false
  pub found : r < n → joins_ends d u v (get_or xs r 0) (get_or ys r 0) ≡ true

-- the place that is found: the first one, or none
abbrev pub Found : Bool → ℕ → ℕ → ℕ → List ℕ → List ℕ → Option ℕ → Type 0
Found d u v n xs ys (Some k) = (k < n) × FirstPlace d u v n xs ys k
Found d u v n xs ys None = FirstPlace d u v n xs ys n

-- an index that the map has: below m, with a mark that is not 0
unfoldable pub present : ℕ → List ℕ → ℕ → Bool
present m marks i = ltb i m && not (eqb (get_or marks i 0) 0)

-- two indices that the map has
unfoldable pub present_both : ℕ → List ℕ → ℕ → ℕ → Bool
present_both m marks x y = present m marks x && present m marks y

-- does the map have both ends of a link?
abbrev pub inside : {C : Type 0} → ℕ → List ℕ → Link C → Bool
inside m marks l = present_both m marks l.a l.b

-- of each link?
abbrev pub all_inside : {C : Type 0} → ℕ → List ℕ → List (Link C) → Bool
all_inside m marks [] = true
all_inside m marks (l ∷ ls) = inside m marks l && all_inside m marks ls

-- are the limits kept, the marks long enough, and the count within the room?
unfoldable pub lent_whole : ℕ → ℕ → ℕ → List ℕ → Bool
lent_whole m n room marks = leb m 1024 && (leb m (length marks) && leb n room)

-- refusal 1, then 2, for a table whose first n places are links
unfoldable pub table_no : {C : Type 0} → ℕ → ℕ → ℕ → List ℕ → List (Link C) → ℕ
table_no m n room marks ls = cond (lent_whole m n room marks) (cond (all_inside m marks (take n ls)) 0 2) 1

-- where a record goes: the number that comes back, the count after it, the place, and whether the link is new
pub record Place : Type 0 where
  pub number : ℕ
  pub count : ℕ
  pub slot : ℕ
  pub fresh : Bool

-- a place from its parts
abbrev pub place_now : ℕ → ℕ → ℕ → Bool → Place
place_now x n k t = record { number = x; count = n; slot = k; fresh = t }

-- where a good record goes, k being the first place of its link among the first n: there, at the end, or 8 without room
unfoldable pub place_at : ℕ → ℕ → ℕ → Place
place_at room n k = cond (ltb k n) (place_now 0 n k false) (cond (ltb n room) (place_now 0 (n + 1) n true) (place_now 8 n 0 false))

-- where a record of the link u, v goes: refusals 1, 2 and 8 in this order, else its place
unfoldable pub placing : {C : Type 0} → Bool → ℕ → ℕ → List ℕ → ℕ → ℕ → ℕ → List (Link C) → Place
placing d m room marks u v n ls =
    cond (eqb (table_no m n room marks ls) 0)
    (cond (present_both m marks u v) (place_at room n (place_of d u v (take n ls))) (place_now 2 n 0 false))
    (place_now (table_no m n room marks ls) n 0 false)

-- a link seen from its other end
abbrev pub turned : {C : Type 0} → Link C → Link C
turned l = link_of l.b l.a l.cost

-- the arcs of a link: a self-link is one arc in either kind
unfoldable pub arcs_of : {C : Type 0} → Bool → Link C → List (Link C)
arcs_of d l = l ∷ cond (not d && not (eqb l.a l.b)) (turned l ∷ []) []

-- the arcs of a table, in table order
abbrev pub arcs : {C : Type 0} → Bool → List (Link C) → List (Link C)
arcs d [] = []
arcs d (l ∷ ls) = arcs_of d l ++ arcs d ls

-- the row of u: the arcs that leave it, in table order
abbrev pub row : {C : Type 0} → ℕ → List (Link C) → List (Link C)
row u [] = []
row u (x ∷ xs) = cond (eqb x.a u) (x ∷ row u xs) (row u xs)

-- the number of arcs that leave an index below u: where the row of u starts
abbrev pub starts : {C : Type 0} → List (Link C) → ℕ → ℕ
starts xs ℕ.zero = 0
starts xs (ℕ.suc u) = starts xs u + length (row u xs)

-- an arc from u to v of cost c: one of the links joins u and v at that cost
abbrev pub Arc : {C : Type 0} → Bool → List (Link C) → ℕ → ℕ → C → Type 0
Arc d [] u v c = ⊥
Arc d (l ∷ ls) u v c = ((joins d u v l ≡ true) × (l.cost ≡ c)) ⊎ Arc d ls u v c

-- an arc of any cost: what hops sees
abbrev pub Leads : {C : Type 0} → Bool → List (Link C) → ℕ → ℕ → Type 0
Leads {C} d ls u v = (c : C) × Arc d ls u v c
