-- The path that predecessors in a lent slice give.
-- Assumes nothing.
use Rattle.std.specs.Prelude.{◌≡◌, true, false, List, [], ◌∷◌, ◌++◌, ℕ, zero, suc, ◌<◌, eqb, length, get_or}

-- the path from s to v, its first index first, where at most k arcs go back
abbrev pub trail : List ℕ → ℕ → ℕ → ℕ → List ℕ
trail ps s zero v = v ∷ []
trail ps s (suc k) v = elim (eqb v s) [ true ↦ v ∷ [] | false ↦ trail ps s k (get_or ps v 0) ++ (v ∷ []) ]

-- the predecessors lead from v back to s by at most k arcs
abbrev pub GoesBack : List ℕ → ℕ → ℕ → ℕ → Type 0
GoesBack ps s zero v = (v < length ps) × (v ≡ s)
GoesBack ps s (suc k) v = (v < length ps) × ((v ≡ s → ⊥) → GoesBack ps s k (get_or ps v 0))
