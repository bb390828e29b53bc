-- The neighbour list with its weights shifted by the potentials, in place, and a total found over it shifted back.
-- Assumes nothing.
use Rattle.std.specs.Prelude.{◌≡◌, cond, List, ℕ, ◌+◌, ◌≤◌, ◌<◌, ◌^◌, ℤ, pos, length, get_or}
use Rattle.std.specs.Int.Signed.{lt_z}
use Rattle.whole.specs.Zed.{◌⊕◌, ◌⊖◌, Cost32}
use Rattle.clean.specs.None.{none_i64}
use Rattle.rows.specs.Rows.{Lists, lists_of}
use Rattle.johnson.specs.Rounds.{label, Deep}

-- a shifted cost
abbrev pub shifted_cost : List ℤ → ℕ → ℕ → ℤ → ℤ
shifted_cost h u v c = c ⊕ label h u ⊖ label h v

-- what was found from s to v, shifted back; none stays none
unfoldable pub shifted_back : List ℤ → ℕ → ℕ → ℤ → ℤ
shifted_back h s v d = cond (lt_z none_i64 d) (d ⊕ label h v ⊖ label h s) none_i64

-- where the row of u starts
abbrev pub start : Lists ℤ → ℕ → ℕ
start nb u = get_or nb.offsets u 0

-- a neighbour list over the indices below m, with potentials; the weights from the row of u on are costs of 32 bits still
pub record Listed (m u : ℕ) (nb : Lists ℤ) (h : List ℤ) : Type 0 where
  pub starts : m < length nb.offsets
  pub rising : (v w : ℕ) → v ≤ w → w ≤ m → start nb v ≤ start nb w
  pub few : start nb m ≤ 16384
  pub room_h : start nb m ≤ length nb.heads
  pub room_w : start nb m ≤ length nb.weights
  pub inside : (j : ℕ) → j < start nb m → get_or nb.heads j 0 < m
  pub small : (j : ℕ) → start nb u ≤ j → j < start nb m → Cost32 (get_or nb.weights j (pos 0))
  pub long : length h ≡ m
  pub deep : (v : ℕ) → Deep (2 ^ 59) (label h v)

-- the weights ws of the list nb, shifted at the places below k; the rest is as it was
pub record ShiftedTo (m : ℕ) (nb : Lists ℤ) (h ws : List ℤ) (k : ℕ) : Type 0 where
  pub long : length ws ≡ length nb.weights
  pub each : (u j : ℕ) → u < m → start nb u ≤ j → j < start nb (u + 1) → j < k
      → get_or ws j (pos 0) ≡ shifted_cost h u (get_or nb.heads j 0) (get_or nb.weights j (pos 0))
  pub rest : (j : ℕ) → k ≤ j → get_or ws j (pos 0) ≡ get_or nb.weights j (pos 0)

-- the row of u shifted, after the rows before it
pub record RowShifted (m u : ℕ) (os hs : List ℕ) (h ws ws' : List ℤ) : Type 0 where
  pub long : length ws' ≡ length ws
  pub next : (ws₀ : List ℤ) → ShiftedTo m (lists_of os hs ws₀) h ws (get_or os u 0)
      → ShiftedTo m (lists_of os hs ws₀) h ws' (get_or os (u + 1) 0)
