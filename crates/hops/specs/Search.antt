-- What the parts of one breadth-first search promise each other: the neighbour list's arcs, the labels and the queue.
-- A label is 0 for an index not seen, else one more than its number of arcs from the source.
-- Assumes nothing.
use Rattle.std.specs.Prelude.{◌≡◌, cond, List, ◌⊎◌, ℕ, zero, suc, ◌+◌, ◌*◌, ◌≤◌, ◌<◌, eqb, length, get_or, drop, set}
use Rattle.clean.specs.None.{none_u32}
use Rattle.rows.specs.Rows.{end_lists}
use Rattle.rows.specs.RowArc.{RowArc}
use Rattle.hops.specs.Steps.{Steps, Entry}

-- an arc of the neighbour list, which has no weights
abbrev pub RowLeads : ℕ → List ℕ → List ℕ → ℕ → ℕ → Type 0
RowLeads m os hs u v = RowArc m (end_lists os hs) u v tt

-- how many of the first m labels are 0
abbrev pub blanks : List ℕ → ℕ → ℕ
blanks l zero = 0
blanks l (suc m) = cond (eqb (get_or l m 0) 0) (suc (blanks l m)) (blanks l m)

-- a label as the matrix shows it
abbrev pub shown_of : ℕ → ℕ
shown_of zero = none_u32
shown_of (suc d) = d

-- v has a label, of at most x
pub record Low (l : List ℕ) (v x : ℕ) : Type 0 where
  pub seen : 0 < get_or l v 0
  pub most : get_or l v 0 ≤ x

-- the label of an index looked at: the one it has, or k where it has none
abbrev pub label_of : ℕ → ℕ → ℕ
label_of zero k = k
label_of (suc d) k = suc d

-- how many stand in the queue then
abbrev pub size_after : ℕ → ℕ → ℕ
size_after zero n = n + 1
size_after (suc d) n = n

-- the index v looked at: it is written behind the queue, and an index not seen gets the label k and stays there
pub data Met (v k n : ℕ) (l q l' q' : List ℕ) (n' : ℕ) : Type 0 where
  old : 0 < get_or l v 0 → n' ≡ n → l' ≡ l → q' ≡ set q n v → Met v k n l q l' q' n'
  new : get_or l v 0 ≡ 0 → n' ≡ n + 1 → l' ≡ set l v k → q' ≡ set q n v → Met v k n l q l' q' n'

-- what holds of the labels and of the n indices in the queue at every moment
pub record Good (m s : ℕ) (E : ℕ → ℕ → Type 0) (n : ℕ) (l q : List ℕ) : Type 0 where
  pub room_l : m ≤ length l
  pub room_q : m < length q
  pub count : n + blanks l m ≡ m
  pub inside : (j : ℕ) → j < n → get_or q j 0 < m
  pub labelled : (j : ℕ) → j < n → 0 < get_or l (get_or q j 0) 0
  pub found : (v : ℕ) → v < m → 0 < get_or l v 0 → (j : ℕ) × (j < n) × (get_or q j 0 ≡ v)
  pub rising : (i j : ℕ) → i ≤ j → j < n → get_or l (get_or q i 0) 0 ≤ get_or l (get_or q j 0) 0
  pub small : (j : ℕ) → j < n → get_or l (get_or q j 0) 0 ≤ j + 1
  pub sound : (v d : ℕ) → v < m → get_or l v 0 ≡ suc d → Steps E s v d

-- the arcs of the first h indices of the queue are looked at
abbrev pub Closed : (ℕ → ℕ → Type 0) → ℕ → List ℕ → List ℕ → Type 0
Closed E h l q = (j v : ℕ) → j < h → E (get_or q j 0) v → Low l v (get_or l (get_or q j 0) 0 + 1)

-- between two turns: h of the n indices in the queue are done
pub record Turning (m s : ℕ) (E : ℕ → ℕ → Type 0) (h n : ℕ) (l q : List ℕ) : Type 0 where
  pub good : Good m s E n l q
  pub source : get_or l s 0 ≡ 1
  pub within : h ≤ n
  pub top : (j : ℕ) → h < n → j < n → get_or l (get_or q j 0) 0 ≤ get_or l (get_or q h 0) 0 + 1
  pub closed : Closed E h l q

-- within a turn: u stands at place h with the label k, and the arcs of its row before place i are looked at
pub record Open (m s : ℕ) (os hs : List ℕ) (u k i h n : ℕ) (l q : List ℕ) : Type 0 where
  pub good : Good m s (RowLeads m os hs) n l q
  pub source : get_or l s 0 ≡ 1
  pub here : h < n
  pub is : get_or q h 0 ≡ u
  pub label : get_or l u 0 ≡ k
  pub top : (j : ℕ) → j < n → get_or l (get_or q j 0) 0 ≤ k + 1
  pub closed : Closed (RowLeads m os hs) h l q
  pub from : get_or os u 0 ≤ i
  pub done : (j : ℕ) → get_or os u 0 ≤ j → j < i → Low l (get_or hs j 0) (k + 1)

-- the lengths stay, and so do the labels from m on and the queue past m
pub record Kept (m : ℕ) (l q l' q' : List ℕ) : Type 0 where
  pub long_l : length l' ≡ length l
  pub long_q : length q' ≡ length q
  pub labels : drop m l' ≡ drop m l
  pub queue : drop (m + 1) q' ≡ drop (m + 1) q

-- a row looked through
pub record RowDone (m s : ℕ) (os hs : List ℕ) (h : ℕ) (l q l' q' : List ℕ) (n' : ℕ) : Type 0 where
  pub turning : Turning m s (RowLeads m os hs) (h + 1) n' l' q'
  pub rest : Kept m l q l' q'

-- the labels before a search
pub record Fresh (m s : ℕ) (l q : List ℕ) : Type 0 where
  pub source : s < m
  pub room_l : m ≤ length l
  pub room_q : m < length q
  pub zeros : (v : ℕ) → v < m → get_or l v 0 ≡ 0

-- a search that is over
pub record Searched (m s : ℕ) (E : ℕ → ℕ → Type 0) (l q l' q' : List ℕ) : Type 0 where
  pub each : (v : ℕ) → v < m → Entry E s v (shown_of (get_or l' v 0))
  pub small : (v : ℕ) → v < m → get_or l' v 0 ≤ m
  pub rest : Kept m l q l' q'

-- the lists before a row of the matrix is shown
pub record CanShow (p at : ℕ) (ns l mat : List ℕ) : Type 0 where
  pub nodes : p ≤ length ns
  pub room : at + p ≤ length mat
  pub each : (j : ℕ) → j < p → (get_or ns j 0 < length l) × (get_or l (get_or ns j 0) 0 ≤ 1024)

-- the first p entries of the row that starts at a place are shown
pub record RowShown (p at : ℕ) (ns l mat mat' : List ℕ) : Type 0 where
  pub long : length mat' ≡ length mat
  pub shown : (j : ℕ) → j < p → get_or mat' (at + j) 0 ≡ shown_of (get_or l (get_or ns j 0) 0)
  pub other : (x : ℕ) → (x < at) ⊎ (at + p ≤ x) → get_or mat' x 0 ≡ get_or mat x 0

-- the lists before the row of a source is made
pub record CanRow (m p s at : ℕ) (ns l q mat : List ℕ) : Type 0 where
  pub source : s < m
  pub room_l : m ≤ length l
  pub room_q : m < length q
  pub nodes : p ≤ length ns
  pub room : at + p ≤ length mat
  pub each : (j : ℕ) → j < p → get_or ns j 0 < m

-- the row of a source is made
pub record RowMade (m p s at : ℕ) (E : ℕ → ℕ → Type 0) (ns l q mat l' q' mat' : List ℕ) : Type 0 where
  pub rest : Kept m l q l' q'
  pub long : length mat' ≡ length mat
  pub entry : (j : ℕ) → j < p → Entry E s (get_or ns j 0) (get_or mat' (at + j) 0)
  pub other : (x : ℕ) → (x < at) ⊎ (at + p ≤ x) → get_or mat' x 0 ≡ get_or mat x 0

-- the lists before the rows are made
pub record CanFill (m p : ℕ) (ns l q mat : List ℕ) : Type 0 where
  pub room_l : m ≤ length l
  pub room_q : m < length q
  pub nodes : p ≤ length ns
  pub few : p ≤ 1024
  pub room : p * p ≤ length mat
  pub each : (j : ℕ) → j < p → get_or ns j 0 < m

-- the first i rows are made
pub record Filled (m p i : ℕ) (E : ℕ → ℕ → Type 0) (ns l q mat l' q' mat' : List ℕ) : Type 0 where
  pub rest : Kept m l q l' q'
  pub long : length mat' ≡ length mat
  pub entry : (a b : ℕ) → a < i → b < p → Entry E (get_or ns a 0) (get_or ns b 0) (get_or mat' (a * p + b) 0)
  pub other : (x : ℕ) → i * p ≤ x → get_or mat' x 0 ≡ get_or mat x 0
