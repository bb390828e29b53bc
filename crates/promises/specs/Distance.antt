-- A distance as demand 2 has it, in total cost and in number of arcs.
-- Assumes nothing.
use Rattle.std.specs.Prelude.{◌≡◌, ◌↔◌, ℕ, ◌≤◌, ℤ, ◌≤ℤ◌}
use Rattle.clean.specs.None.{none_i64, none_u32}
use Rattle.walks.specs.Walk.{Walk}
use Rattle.hops.specs.Steps.{Steps}

-- d is the distance from s to v: a number given is the total of a walk, no walk has a lower total, and it is none exactly without a walk
pub record Distance (Arc : ℕ → ℕ → ℤ → Type 0) (s v : ℕ) (d : ℤ) : Type 0 where
  pub attained : (d ≡ none_i64 → ⊥) → Walk Arc s v d
  pub lowest : (t : ℤ) → Walk Arc s v t → d ≤ℤ t
  pub none_exactly : (d ≡ none_i64) ↔ ((t : ℤ) → Walk Arc s v t → ⊥)

-- d is the number of hops from s to v: a number given is that of the arcs of a walk,
-- no walk has fewer, and it is none exactly without a walk
pub record Hops (Leads : ℕ → ℕ → Type 0) (s v d : ℕ) : Type 0 where
  pub attained : (d ≡ none_u32 → ⊥) → Steps Leads s v d
  pub lowest : (n : ℕ) → Steps Leads s v n → d ≤ n
  pub none_exactly : (d ≡ none_u32) ↔ ((n : ℕ) → Steps Leads s v n → ⊥)
