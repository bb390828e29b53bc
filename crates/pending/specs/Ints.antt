-- Whole-number keys and costs: `dijkstra` and `a_star`. A cost below zero is bad, and nothing is cut.
use Rattle.std.specs.Prelude.{false, ℕ, ℤ, pos}
use Rattle.std.proofs.Math.Option.{Option, none, some}
use Rattle.std.specs.Int.Signed.{lt_z}
use Rattle.whole.specs.Zed.{◌⊕◌}
use Rattle.pending.specs.Setting.{Setting}

-- a search over whole numbers by any rule for the key, with or without a target
abbrev pub whole : (ℤ → ℕ → ℤ) → Option ℕ → ℕ → Setting ℤ ℤ
whole key target s = record {
  lt = lt_z;
  zero = pos 0;
  plus = λ d c. d ⊕ c;
  key = key;
  bad = λ c. lt_z c (pos 0);
  cut = λ k. false;
  target = target;
  source = s;
}

-- `dijkstra` from a source
abbrev pub dijkstra : ℕ → Setting ℤ ℤ
dijkstra s = whole (λ d v. d) none s

-- `a_star` from a source to a target by a heuristic
abbrev pub a_star : (ℕ → ℤ) → ℕ → ℕ → Setting ℤ ℤ
a_star h s t = whole (λ d v. d ⊕ h v) (some t) s
