-- The rounds of floyd_warshall on a matrix, as a function.
-- Assumes nothing.
use Rattle.std.specs.Prelude.{◌≡◌, Bool, true, false, ◌||◌, List, ℕ, zero, suc, ◌+◌, ◌*◌, ◌^◌, ◌≤◌, ◌<◌, ℤ, pos, length, get_or, set}
use Rattle.std.specs.Prelude.{◌≤ℤ◌, ◌<ℤ◌}
use Rattle.std.specs.Int.Signed.{lt_z}
use Rattle.whole.specs.Zed.{◌⊕◌, Within}

-- `if t then a else b`
abbrev pub pick_z : Bool → ℤ → ℤ → ℤ
pick_z true a b = a
pick_z false a b = b

-- a, unless b is smaller
unfoldable pub lesser : ℤ → ℤ → ℤ
lesser a b = pick_z (lt_z b a) b a

-- the entry in row u and column v of a matrix with p columns
abbrev pub cell : ℕ → List ℤ → ℕ → ℕ → ℤ
cell p l u v = get_or l (u * p + v) (pos 0)

-- the entry n places from `at` on, lowered to the sum of a and the entry n places from `by` on, where that is smaller
abbrev pub lower_at : ℕ → ℕ → ℤ → ℕ → List ℤ → List ℤ
lower_at at by a n l = set l (at + n) (lesser (get_or l (at + n) (pos 0)) (a ⊕ get_or l (by + n) (pos 0)))

-- the first n of these entries, one after another
unfoldable pub block : ℕ → ℕ → ℤ → ℕ → List ℤ → List ℤ
block at by a zero l = l
block at by a (suc n) l = lower_at at by a n (block at by a n l)

-- n entries from both places on lie in the list, and each sum is of small numbers when its turn comes
pub record Block (at by : ℕ) (a : ℤ) (n : ℕ) (l : List ℤ) : Type 0 where
  pub few : length l ≤ 1048576
  pub within : at + n ≤ length l
  pub across : by + n ≤ length l
  pub small : Within (2 ^ 60) a
  pub each : (x : ℕ) → x < n → Within (2 ^ 60) (get_or (block at by a x l) (by + x) (pos 0))

-- the matrix after k rounds
unfoldable pub after : (ℕ → ℕ → ℤ) → ℕ → ℕ → ℕ → ℤ
after A zero u v = A u v
after A (suc k) u v = lesser (after A k u v) (after A k u k ⊕ after A k k v)

-- no diagonal entry is below zero after the rounds up to k
abbrev pub Diagonal : (ℕ → ℕ → ℤ) → ℕ → ℕ → Type 0
Diagonal A p k = (h u : ℕ) → h ≤ k → u < p → pos 0 ≤ℤ after A h u u

-- may a row with the entry a in column k change in round k? Row k falls if it has an entry below zero
unfoldable pub reaching : Bool → ℤ → Bool
reaching falls a = falls || lt_z a (pos (2 ^ 50))

-- n places that lie in a list, from the first in steps
pub record Strided (first step n : ℕ) (l : List ℤ) : Type 0 where
  pub few : n ≤ 1024
  pub short : step ≤ 1025
  pub early : first ≤ 1048576
  pub within : (i : ℕ) → i < n → first + i * step < length l

-- is an entry below zero at one of them?
unfoldable pub any_below : List ℤ → ℕ → ℕ → ℕ → Bool
any_below l first step zero = false
any_below l first step (suc n) = any_below l first step n || lt_z (get_or l (first + n * step) (pos 0)) (pos 0)

-- p * p entries, of which each is in -2^50 ..= 2^50, and no diagonal entry is below zero
pub record Begun (p : ℕ) (l : List ℤ) : Type 0 where
  pub few : p ≤ 1024
  pub size : length l ≡ p * p
  pub near : (u v : ℕ) → u < p → v < p → Within (2 ^ 50) (cell p l u v)
  pub up : (u : ℕ) → u < p → pos 0 ≤ℤ cell p l u u

-- a diagonal entry that is below zero after some round
pub record Refused (p : ℕ) (A : ℕ → ℕ → ℤ) : Type 0 where
  pub k : ℕ
  pub u : ℕ
  pub turn : k ≤ p
  pub within : u < p
  pub low : after A k u u <ℤ pos 0

-- every round is done, and no diagonal entry was ever below zero
pub record Complete (p : ℕ) (l₀ l : List ℤ) : Type 0 where
  pub up : Diagonal (cell p l₀) p p
  pub all : (u v : ℕ) → u < p → v < p → cell p l u v ≡ after (cell p l₀) p u v

-- what the rounds leave
abbrev pub Rounded : ℕ → List ℤ → List ℤ → Bool → Type 0
Rounded p l₀ l true = Refused p (cell p l₀)
Rounded p l₀ l false = Complete p l₀ l
