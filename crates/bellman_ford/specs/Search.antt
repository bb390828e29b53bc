-- What the parts of the search promise each other: the ring of waiting indices, and what holds of the labels at every moment.
-- Assumes nothing.
use Rattle.std.specs.Prelude.{◌≡◌, Bool, true, false, cond, List, ◌⊎◌, ℕ, ◌+◌, ◌-◌, ◌≤◌, ◌<◌, ◌^◌, ltb, ℤ, pos, ◌<ℤ◌, length, get_or, set}
use Rattle.std.specs.Int.Signed.{lt_z}
use Rattle.whole.specs.Zed.{◌⊕◌, P, N, Within}
use Rattle.clean.specs.None.{none_i64}
use Rattle.clean.specs.Better.{better_than}
use Rattle.walks.specs.Pigeon.{In}
use Rattle.walks.specs.Walk.{NoNeg, NegativeFrom, Total}
use Rattle.walks.specs.Costs.{Costs32}
use Rattle.walks.specs.Hist.{Low, Hist}
use Rattle.walks.specs.Weigh.{weigh}
use Rattle.rows.specs.Rows.{Lists}
use Rattle.rows.specs.RowArc.{RowArc, Sound}
use Rattle.rows.specs.Kept.{Kept}

-- the lists that the search writes
pub record Memory : Type 0 where
  pub dist : List ℤ
  pub queue : List ℕ
  pub queued : List ℕ
  pub lengths : List ℕ

-- such lists from the slices
abbrev pub memory_of : List ℤ → List ℕ → List ℕ → List ℕ → Memory
memory_of d q i l = record { dist = d; queue = q; queued = i; lengths = l }

-- lists long enough for m indices
pub record Wide (m : ℕ) (M : Memory) : Type 0 where
  pub dist : m ≤ length M.dist
  pub queue : m ≤ length M.queue
  pub queued : m ≤ length M.queued
  pub lengths : m ≤ length M.lengths

-- the lengths stay, and so do the entries from m on
pub record KeptMemory (m : ℕ) (M M' : Memory) : Type 0 where
  pub dist : Kept m M.dist M'.dist
  pub queue : Kept m M.queue M'.queue
  pub queued : Kept m M.queued M'.queued
  pub lengths : Kept m M.lengths M'.lengths

-- the neighbour list fits a search from s over p indices below m
pub record Fit (m p s : ℕ) (nb : Lists ℤ) : Type 0 where
  pub sound : Sound m nb
  pub indices : List ℕ
  pub many : length indices ≡ p
  pub few : p ≤ 1024
  pub source : In s indices
  pub below : s < m
  pub ends : (u v : ℕ) (c : ℤ) → RowArc m nb u v c → In u indices × In v indices
  pub small : Costs32 (RowArc m nb)

-- v has the label d
abbrev pub Label : ℕ → List ℤ → ℕ → ℤ → Type 0
Label m l v d = (v < m) × (get_or l v (pos 0) ≡ d) × (none_i64 <ℤ d)

-- the place of what stands i after the first, in a ring of m places
unfoldable pub slot_of : ℕ → ℕ → ℕ → ℕ
slot_of m h i = cond (ltb (h + i) m) (h + i) (h + i - m)

-- what stands i after the first
abbrev pub waits : ℕ → ℕ → List ℕ → ℕ → ℕ
waits m h q i = get_or q (slot_of m h i) 0

-- the ring holds each index that is marked as queued, once, and no other
pub record Ring (m h n : ℕ) (q qd : List ℕ) : Type 0 where
  pub first : h < m
  pub few : n ≤ m
  pub room_q : m ≤ length q
  pub room_d : m ≤ length qd
  pub inside : (i : ℕ) → i < n → waits m h q i < m
  pub marked : (i : ℕ) → i < n → get_or qd (waits m h q i) 0 ≡ 1
  pub apart : (i j : ℕ) → i < j → j < n → waits m h q i ≡ waits m h q j → ⊥
  pub found : (v : ℕ) → v < m → (get_or qd v 0 ≡ 0 → ⊥) → (i : ℕ) × (i < n) × (waits m h q i ≡ v)

-- what holds of the labels and the path lengths at every moment:
-- each label came by a walk of as many arcs as its path length says, fewer than p
pub record Good (m p s : ℕ) (nb : Lists ℤ) (l : List ℤ) (ks : List ℕ) : Type 0 where
  pub room_l : m ≤ length l
  pub room_k : m ≤ length ks
  pub kinds : (v : ℕ) → v < m → (get_or l v (pos 0) ≡ none_i64) ⊎ (none_i64 <ℤ get_or l v (pos 0))
  pub first : Low (Label m l) s (pos 0)
  pub came : (v : ℕ) (d : ℤ) → Label m l v d → Hist (RowArc m nb) s (Label m l) v d (get_or ks v 0)
  pub short : (v : ℕ) (d : ℤ) → Label m l v d → get_or ks v 0 < p

-- what holds of the ring and the labels at every moment, n indices waiting from the place h on
pub record Held (m p s : ℕ) (nb : Lists ℤ) (h n : ℕ) (M : Memory) : Type 0 where
  pub good : Good m p s nb M.dist M.lengths
  pub ring : Ring m h n M.queue M.queued
  pub pending : (v : ℕ) → v < m → (get_or M.queued v 0 ≡ 0 → ⊥) → (d : ℤ) × Label m M.dist v d

-- between two turns: an index that is not queued has no arc to relax
pub record Calm (m p s : ℕ) (nb : Lists ℤ) (h n : ℕ) (M : Memory) : Type 0 where
  pub held : Held m p s nb h n M
  pub relaxed : (u v : ℕ) (d c : ℤ) → get_or M.queued u 0 ≡ 0 → Label m M.dist u d → RowArc m nb u v c
      → Low (Label m M.dist) v (d ⊕ c)

-- within a turn: u was taken with the label d and the path length k, and the arcs of its row before place i are relaxed
pub record Open (m p s : ℕ) (nb : Lists ℤ) (u : ℕ) (d : ℤ) (k i h n : ℕ) (M : Memory) : Type 0 where
  pub held : Held m p s nb h n M
  pub index : u < m
  pub came : Hist (RowArc m nb) s (Label m M.dist) u d k
  pub short : k < p
  pub others : (x v : ℕ) (e c : ℤ) → (x ≡ u → ⊥) → get_or M.queued x 0 ≡ 0 → Label m M.dist x e → RowArc m nb x v c
      → Low (Label m M.dist) v (e ⊕ c)
  pub mine : get_or M.queued u 0 ≡ 0 → Label m M.dist u d
  pub from : get_or nb.offsets u 0 ≤ i
  pub done : (j : ℕ) → get_or nb.offsets u 0 ≤ j → j < i
      → Low (Label m M.dist) (get_or nb.heads j 0) (d ⊕ get_or nb.weights j (pos 0))

-- what one arc asks
pub record Safe (m : ℕ) (d : ℤ) (k v : ℕ) (c : ℤ) (h n : ℕ) (M : Memory) : Type 0 where
  pub bounded : m ≤ 1024
  pub index : v < m
  pub first : h < m
  pub few : n ≤ m
  pub length_few : k < 1024
  pub label : Within (2 ^ 60) d
  pub cost : Within (2 ^ 60) c
  pub wide : Wide m M

-- an index goes to the end of the ring, unless it waits there, as each does where the ring is full; past the end nothing waits
pub data Pushed (m h n v : ℕ) (q qd q' qd' : List ℕ) (r : ℕ) : Type 0 where
  full : m ≤ n → r ≡ n → q' ≡ q → qd' ≡ qd → Pushed m h n v q qd q' qd' r
  waiting : n < m → (get_or qd v 0 ≡ 0 → ⊥) → r ≡ n → q' ≡ set q (slot_of m h n) v → qd' ≡ set qd v 1 → Pushed m h n v q qd q' qd' r
  pushed : get_or qd v 0 ≡ 0 → r ≡ n + 1 → q' ≡ set q (slot_of m h n) v → qd' ≡ set qd v 1 → Pushed m h n v q qd q' qd' r

-- one arc to v of cost c, looked at from an index with the label d and the path length k
pub data ArcRelaxed (m p : ℕ) (d : ℤ) (k v : ℕ) (c : ℤ) (h n : ℕ) (M M' : Memory) (negative : Bool) (n' : ℕ) : Type 0 where
  kept : better_than (d ⊕ c) (get_or M.dist v (pos 0)) ≡ false → negative ≡ false → n' ≡ n → M' ≡ M
      → ArcRelaxed m p d k v c h n M M' negative n'
  long : better_than (d ⊕ c) (get_or M.dist v (pos 0)) ≡ true → p ≤ k + 1 → negative ≡ true → M' ≡ M
      → ArcRelaxed m p d k v c h n M M' negative n'
  stored : better_than (d ⊕ c) (get_or M.dist v (pos 0)) ≡ true → k + 1 < p → negative ≡ false → M'.dist ≡ set M.dist v (d ⊕ c)
      → M'.lengths ≡ set M.lengths v (k + 1)
      → Pushed m h n v M.queue M.queued M'.queue M'.queued n' → ArcRelaxed m p d k v c h n M M' negative n'

-- what a label weighs, none the most; each store makes the whole lighter
unfoldable pub weight_of : ℤ → ℕ
weight_of d = cond (lt_z none_i64 d) (P d + (2 ^ 43 - N d)) (2 ^ 45)

-- what is left to do: it falls with each turn
abbrev pub to_do : Memory → ℕ → ℕ
to_do M n = weigh weight_of M.dist + weigh weight_of M.dist + n

-- a row looked through: a negative closed walk, or calm again
pub record RowDone (m p s : ℕ) (nb : Lists ℤ) (h n : ℕ) (M M' : Memory) (negative : Bool) (n' : ℕ) : Type 0 where
  pub yes : negative ≡ true → NegativeFrom (RowArc m nb) s
  pub no : negative ≡ false → Calm m p s nb h n' M'
  pub lighter : negative ≡ false → to_do M' n' ≤ to_do M n
  pub rest : KeptMemory m M M'

-- the lists before a search: no labels, nothing queued
pub record Fresh (m : ℕ) (M : Memory) : Type 0 where
  pub wide : Wide m M
  pub dist : (v : ℕ) → v < m → get_or M.dist v (pos 0) ≡ none_i64
  pub queued : (v : ℕ) → v < m → get_or M.queued v 0 ≡ 0
  pub lengths : (v : ℕ) → v < m → get_or M.lengths v 0 ≡ 0

-- a search that is over
pub record Searched (m s : ℕ) (nb : Lists ℤ) (M M' : Memory) (negative : Bool) : Type 0 where
  pub yes : negative ≡ true → NegativeFrom (RowArc m nb) s
  pub no : negative ≡ false → NoNeg (RowArc m nb) s × ((v : ℕ) → v < m → Total (RowArc m nb) s v (get_or M'.dist v (pos 0)))
  pub rest : KeptMemory m M M'
