-- Walks by their number of arcs, over a relation that tells which index leads to which.
-- Assumes nothing.
use Rattle.std.specs.Prelude.{◌≡◌, ◌⊎◌, ℕ, suc, ◌≤◌}
use Rattle.clean.specs.None.{none_u32}

-- a walk of so many arcs from an index to another; it may have none
pub data Steps (Leads : ℕ → ℕ → Type 0) : ℕ → ℕ → ℕ → Type 0 where
  stay : {u : ℕ} → Steps Leads u u 0
  step : {u v w n : ℕ} → Leads u v → Steps Leads v w n → Steps Leads u w (suc n)

-- d is the least number of arcs of a walk from s to v
pub record LeastSteps (Leads : ℕ → ℕ → Type 0) (s v d : ℕ) : Type 0 where
  pub walk : Steps Leads s v d
  pub least : (n : ℕ) → Steps Leads s v n → d ≤ n

-- what the answer holds for s and v: the least number of arcs of a walk, or none without a walk
abbrev pub Entry : (ℕ → ℕ → Type 0) → ℕ → ℕ → ℕ → Type 0
Entry Leads s v d = LeastSteps Leads s v d ⊎ ((d ≡ none_u32) × ((n : ℕ) → Steps Leads s v n → ⊥))
