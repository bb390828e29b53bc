-- What the f64 search goes by: the pending bag's rules at f64, with a cutoff, and how a lent distance is read.
-- Assumes nothing.
use Rattle.std.proofs.Math.Option.{Option, none, some}
use Rattle.std.specs.Prelude.{ℕ, ◌<◌, eqb, Float}
use Rattle.std.specs.Float.{binary64}
use Rattle.clean.specs.None.{none_f64}
use Rattle.float.specs.Dist.{Dist64, zero64, plus64}
use Rattle.float.specs.Cost.{bad_cost}
use Rattle.float.specs.Cutoff.{past}
use Rattle.std.specs.Prelude.{Some}
use Rattle.bag.specs.Floats.{floats}
use Rattle.bag.specs.Order.{pick}
use Rattle.rows.specs.Rows.{Lists}
use Rattle.rows.specs.RowArc.{Sound}
use Rattle.turns.specs.Kind.{Kind}
use Rattle.turns.specs.Asks.{Asks}

-- the distance that a lent entry stands for
unfoldable pub read64 : ℕ → Option ℕ
read64 x = pick (eqb x none_f64) none (some x)

-- a search with a cutoff at a limit: its keys are the distances; they and the costs are patterns
abbrev pub kind64 : Float → Kind ℕ ℕ
kind64 limit = record {
  order = floats;
  zero = zero64;
  plus = plus64;
  key = λ d v. d;
  bad = bad_cost binary64;
  cut = past (Some limit);
  blank = none_f64;
  read = read64;
  good = Dist64;
}

-- the neighbour list and the source fit
pub record Fit64 (m s : ℕ) (nb : Lists ℕ) : Type 0 where
  pub rows : Sound m nb
  pub source : s < m

-- what it asks: no sum and no key is out of range
abbrev pub limited_asks : Asks ℕ ℕ
limited_asks = record { fit = λ m s g nb. Fit64 m s nb; sum = λ d c. Unit {0}; key = λ d v. Dist64 d }
