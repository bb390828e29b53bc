-- Costs shifted by a potential.
use Rattle.std.specs.Prelude.{◌≡◌, ℕ, ℤ}
use Rattle.whole.specs.Zed.{◌⊕◌, ◌⊖◌}

-- an arc with its cost shifted: what its tail has more than its head
abbrev pub Shifted : (ℕ → ℕ → ℤ → Type 0) → (ℕ → ℤ) → ℕ → ℕ → ℤ → Type 0
Shifted Arc h u v c = (b : ℤ) × Arc u v b × (c ≡ b ⊕ h u ⊖ h v)
