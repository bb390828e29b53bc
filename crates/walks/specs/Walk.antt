-- Walks over a relation of arcs, their totals, least totals, and closed walks below zero.
use Rattle.std.specs.Prelude.{◌≡◌, ◌⊎◌, ℕ, ◌^◌, ℤ, pos, ◌≤ℤ◌, ◌<ℤ◌}
use Rattle.whole.specs.Zed.{◌⊕◌, Within}
use Rattle.clean.specs.None.{none_i64}

-- a walk from an index to another, with its total; it may have no arcs
pub data Walk (Arc : ℕ → ℕ → ℤ → Type 0) : ℕ → ℕ → ℤ → Type 0 where
  stay : {u : ℕ} {t : ℤ} → t ≡ pos 0 → Walk Arc u u t
  step : {u v w : ℕ} {c t r : ℤ} → Arc u v c → Walk Arc v w t → r ≡ c ⊕ t → Walk Arc u w r

-- d is the least total of a walk from s to v
pub record Least (Arc : ℕ → ℕ → ℤ → Type 0) (s v : ℕ) (d : ℤ) : Type 0 where
  pub walk : Walk Arc s v d
  pub least : (t : ℤ) → Walk Arc s v t → d ≤ℤ t

-- no closed walk that can be reached from s totals below zero
abbrev pub NoNeg : (ℕ → ℕ → ℤ → Type 0) → ℕ → Type 0
NoNeg Arc s = (x : ℕ) (a t : ℤ) → Walk Arc s x a → Walk Arc x x t → pos 0 ≤ℤ t

-- a closed walk that totals below zero, in reach of o
pub record NegativeFrom (Arc : ℕ → ℕ → ℤ → Type 0) (o : ℕ) : Type 0 where
  pub x : ℕ
  pub a : ℤ
  pub t : ℤ
  pub reach : Walk Arc o x a
  pub loop : Walk Arc x x t
  pub below : t <ℤ pos 0

-- a closed walk that totals below zero, anywhere
pub record Negative (Arc : ℕ → ℕ → ℤ → Type 0) : Type 0 where
  pub x : ℕ
  pub t : ℤ
  pub loop : Walk Arc x x t
  pub below : t <ℤ pos 0

-- what an answer holds for v: the least total of a walk from s,
-- which lies in -2^41 ..= 2^41 and so is never none, or none where there is no walk
abbrev pub Entry : (ℕ → ℕ → ℤ → Type 0) → ℕ → ℕ → ℤ → Type 0
Entry Arc s v d = (Least Arc s v d × Within (2 ^ 41) d) ⊎ ((d ≡ none_i64) × ((t : ℤ) → Walk Arc s v t → ⊥))

-- the same without the range, for a search inside a question
abbrev pub Total : (ℕ → ℕ → ℤ → Type 0) → ℕ → ℕ → ℤ → Type 0
Total Arc s v d = Least Arc s v d ⊎ ((d ≡ none_i64) × ((t : ℤ) → Walk Arc s v t → ⊥))
