-- The largest words behind a bag: notions that only the bag's own functions speak of.
use Rattle.std.specs.Prelude.{◌≡◌, List, ℕ, zero, suc, ◌+◌, ◌-◌, ◌*◌, ◌/◌, ◌≤◌, ◌<◌, max, min, eqb, get_or, length}
use Rattle.bag.specs.Order.{pick}

-- the largest of n entries from i on; past the end stands 0
unfoldable pub peak : List ℕ → ℕ → ℕ → ℕ
peak l i zero = 0
peak l i (suc n) = max (get_or l i 0) (peak l (i + 1) n)

-- how many of the eight entries from i on stand before the end
abbrev pub span : ℕ → ℕ → ℕ
span i end = min 8 (end - i)

-- the largest of the j-th `size` words stands at entry `at j` of peaks
pub record Level (peaks words : List ℕ) (at : ℕ → ℕ) (size : ℕ) : Type 0 where
  pub holds : (j : ℕ) → j * size < length words → get_or peaks (at j) 0 ≡ peak words (j * size) size

-- the largest of each 8 words stand at the front of peaks, those of each 64 from its middle on, and those of each 512 in its last quarter
pub record Peaks (peaks words : List ℕ) : Type 0 where
  pub few : length words ≤ 1024
  pub same : length peaks ≡ length words
  pub low : Level peaks words (λ j. j) 8
  pub high : Level peaks words (λ j. length words / 2 + j) 64
  pub top : Level peaks words (λ j. length words / 2 + length words / 4 + j) 512

-- r is the first of n entries from i on that is w
pub record FirstOf (l : List ℕ) (i n w r : ℕ) : Type 0 where
  pub from : i ≤ r
  pub to : r < i + n
  pub is : get_or l r 0 ≡ w
  pub no_sooner : (k : ℕ) → i ≤ k → k < r → get_or l k 0 ≡ w → ⊥

-- the first of n entries from i on that is w, or else the one after them
unfoldable pub first_from : List ℕ → ℕ → ℕ → ℕ → ℕ
first_from l i zero w = i
first_from l i (suc n) w = pick (eqb (get_or l i 0) w) i (first_from l (i + 1) n w)
