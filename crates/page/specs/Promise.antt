-- What the page check promises.
-- Assumes nothing.
use Rattle.std.specs.Prelude.{◌≡◌, Bool, true, false, ◌&&◌, List, [], ◌∷◌, ◌⊎◌, ℕ, ◌<◌, ◌^◌, leb, ℤ, pos, ◌≤ℤ◌, length, get_or}
use Rattle.std.specs.Prelude.{Result, Ok, Err}
use Rattle.numbers.specs.Numbers.{Row, row, done, fails, holds, Follows}
use Rattle.numbers.specs.declared.Refusal.{Refusal}
use Rattle.numbers.specs.Refusal.{no_of}
use Rattle.whole.specs.Zed.{◌⊕◌, Within}
use Rattle.clean.specs.None.{none_i64}
use Rattle.net.specs.Net.{Net, ArcOf, whole_net, inside_net, has}

-- what the page says of an index
abbrev pub entry : List ℤ → ℕ → ℤ
entry page v = get_or page v (pos 0)

-- the index has a distance: its entry is not none
abbrev pub Known : List ℤ → ℕ → Type 0
Known page v = entry page v ≡ none_i64 → ⊥

-- the first clause: the source has 0
abbrev pub Starts : List ℤ → ℕ → Type 0
Starts page s = entry page s ≡ pos 0

-- the second clause: no arc leads from an index with a distance to one with none or with more than distance plus cost
abbrev pub Holds : (ℕ → ℕ → ℤ → Type 0) → List ℤ → Type 0
Holds Arc page = (u v : ℕ) (c : ℤ) → Arc u v c → Known page u → Known page v × (entry page v ≤ℤ entry page u ⊕ c)

-- an arc into v, from an index with a distance, that meets it exactly
pub record Meets (Arc : ℕ → ℕ → ℤ → Type 0) (page : List ℤ) (v : ℕ) : Type 0 where
  pub u : ℕ
  pub c : ℤ
  pub arc : Arc u v c
  pub known : Known page u
  pub exact : entry page v ≡ entry page u ⊕ c

-- the third clause: each other index below m with a distance is met
abbrev pub EachMet : (ℕ → ℕ → ℤ → Type 0) → ℕ → ℕ → List ℤ → Type 0
EachMet Arc m s page = (v : ℕ) → v < m → (v ≡ s → ⊥) → Known page v → Meets Arc page v

-- an entry that a page may hold: none, or within -2^42 ..= 2^42
abbrev pub InRange : ℤ → Type 0
InRange d = (d ≡ none_i64) ⊎ Within (2 ^ 42) d

-- the range: every entry below m is such a one
abbrev pub Ranged : ℕ → List ℤ → Type 0
Ranged m page = (v : ℕ) → v < m → InRange (entry page v)

-- a page that gets yes, for the arcs of a map, its bound m and the source s
pub record Right (Arc : ℕ → ℕ → ℤ → Type 0) (m s : ℕ) (page : List ℤ) : Type 0 where
  pub starts : Starts page s
  pub holds : Holds Arc page
  pub reached : EachMet Arc m s page
  pub ranged : Ranged m page

-- nothing that refusal 1 names
abbrev pub enough : Net ℤ → List ℤ → Bool
enough g page = whole_net g && leb g.bound (length page)

-- what the check answers: its number, and yes or no
pub record Answer : Type 0 where
  pub number : ℕ
  pub yes : Bool

-- an answer from its parts
abbrev pub answer_of : ℕ → Bool → Answer
answer_of n r = record { number = n; yes = r }

-- of a call: the word that it gives, and no after a refusal
abbrev pub answer_in : Result Bool Refusal → Answer
answer_in (Ok b) = answer_of 0 b
answer_in (Err r) = answer_of (no_of r) false

-- the table, of the map g, the source s and the page; y is the word beside the number
abbrev pub table : Net ℤ → ℕ → List ℤ → List (Row Bool)
table g s page =
    -- 1: a limit is passed, or a lent slice is shorter than the part used
    row 1 (fails (enough g page)) (λ y. y ≡ false)
    -- 2: a link names an index at or above m, or absent
    ∷ row 2 (fails (inside_net g)) (λ y. y ≡ false)
    -- 3: a source that is absent or at or above m
    ∷ row 3 (fails (has g s)) (λ y. y ≡ false)
    -- 0 and yes
    ∷ row 0 (holds (Right (ArcOf g) g.bound s page)) (λ y. y ≡ true)
    -- 0 and no
    ∷ done (λ y. y ≡ false)
    ∷ []

-- the answer a is that of the first row whose condition holds
pub record Promise (g : Net ℤ) (s : ℕ) (page : List ℤ) (a : Answer) : Type 0 where
  pub follows : Follows (table g s page) a.yes a.number
