-- The f64 search: its keys are the distances that can be and its costs any,
-- both patterns of 64 bits, and a total past the cutoff is passed over.
use Rattle.std.specs.Prelude.{Bool, ℕ}
use Rattle.std.proofs.Math.Option.{Option}
use Rattle.std.specs.Float.{binary64}
use Rattle.float.specs.Dist.{zero64, lt64, plus64}
use Rattle.float.specs.Cost.{bad_cost}
use Rattle.pending.specs.Setting.{Setting}

-- from a source, with a test for what is past the cutoff
abbrev pub search64 : (ℕ → Bool) → Option ℕ → ℕ → Setting ℕ ℕ
search64 cut target s =
    record { lt = lt64; zero = zero64; plus = plus64; key = λ d v. d; bad = bad_cost binary64; cut = cut; target = target; source = s }
