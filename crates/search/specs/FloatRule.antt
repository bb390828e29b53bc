-- The f64 search keeps the laws of its rule.
-- Keys are distances, and no rounded sum is below the distance that it starts from; so no index is taken twice, and the takes count up to
-- m.
-- Assumes nothing.
use mathlib.Core.Path.{◌≡◌, refl, sym, ap, subst}
use mathlib.Core.Bool.{Bool}
use mathlib.Core.Option.{Option, none, some}
use Prim.Native.Nat.{ℕ, ◌-◌, ◌≤◌}
use native.Mathlib.Omega.{arith}
use lib.Ieee.{Float}
use Rattle.clean.specs.None.{none_f64}
use Rattle.float.specs.Dist.{Dist64, plus64}
use Rattle.float.specs.Cutoff.{past}
use Rattle.std.specs.Prelude.{Some}
use Rattle.float.proofs.Cost.{zero_dist, plus_dist, plus_grows}
use Rattle.float.proofs.BitOrder.{lt64_asym}
use Rattle.float.proofs.None.{dist_not_none, none_itself}
use Rattle.rows.specs.Rows.{Lists}
use Rattle.rows.specs.RowArc.{RowArc}
use Rattle.bag.specs.Order.{pick}
use Rattle.pending.specs.Setting.{Setting}
use Rattle.pending.specs.Laws.{Laws}
use Rattle.pending.specs.OnePlace.{Cell}
use Rattle.pending.specs.Floats.{search64}
use Rattle.pending.proofs.Floats.{laws64}
use Rattle.pending.proofs.Once.{Within, Once, begin_once, next_once, once_few}
use Rattle.turns.proofs.Lawful.{Lawful}
use Rattle.turns.proofs.Turns.{upto, upto_long, Course}
use Rattle.turns.proofs.Right.{Way, Right}
use Rattle.search.specs.Floats.{read64, kind64, Fit64, limited_asks}

-- ---- the laws of its kind
-- a distance is read back
read_back : (x : ℕ) → Dist64 x → read64 x ≡ some x
unfolding read64
read_back x p = ap (λ (b : Bool). pick b none (some x)) (dist_not_none x p)

-- none is none
read_none : read64 none_f64 ≡ none
unfolding read64
read_none = ap (λ (b : Bool). pick b none (some none_f64)) none_itself

lawful : (l : Float) → Lawful (kind64 l) Dist64
lawful l = record {
  laws = laws64 (past (Some l)) none 0;
  good_ok = λ d p. p;
  good_zero = zero_dist;
  good_plus = plus_dist;
  back = read_back;
  empty = read_none;
  lower = λ d e v p q l. lt64_asym d e p q l;
}

-- ---- the course
module _ (l : Float) (m : ℕ) (target : Option ℕ) (source : ℕ) (nb : Lists ℕ) where
  abbrev setting : Setting ℕ ℕ
  setting = search64 (past (Some l)) target source

  abbrev its_laws : Laws setting Dist64
  its_laws = laws64 (past (Some l)) target source

  -- no index was taken twice, after so many takes
  abbrev pub Keeps64 : (ℕ → Cell ℕ) → ℕ → Type 0
  Keeps64 = Once (search64 (past (Some l)) target source) (laws64 (past (Some l)) target source) (λ d v. refl) plus_grows (RowArc m nb)

  -- so there were at most m
  few : {s : ℕ → Cell ℕ} {t : ℕ} → Keeps64 s t → Within (upto m) s → t ≤ m
  few h w = omega (arith, upto_long m, once_few setting its_laws (λ d v. refl) plus_grows (RowArc m nb) (upto m) w h)

  course64 : Fit64 m source nb → Course (kind64 l) m target source nb Keeps64 Dist64 (λ s t. m - t)
  course64 fit = record {
    lawful = lawful l;
    rows = fit.rows;
    inside = fit.source;
    first = λ w. begin_once setting its_laws (λ d v. refl) plus_grows (RowArc m nb);
    again = λ h w x w'. let n = next_once setting its_laws (λ d v. refl) plus_grows (RowArc m nb) h x in (n, omega (arith, few n w'));
    few = λ h w. omega (arith, few h w, fit.rows.bounded);
  }

abbrev pub limited_way : Float → Way ℕ ℕ
limited_way l = record { ok = Dist64; keeps = Keeps64 l; left = λ m target source nb s t. m - t }

pub limited_right : (l : Float) → Right (kind64 l) limited_asks (limited_way l)
limited_right l = record {
  lawful = lawful l;
  course = λ {m} {s} {g} target {nb} fit. course64 l m target s nb fit;
  first = λ fit. zero_dist;
  row = λ fit w o v c a b. record { sum = tt; key = subst (λ (z : ℕ). Dist64 (plus64 z c)) (sym o.entry) (plus_dist o.d c o.fine b) };
  fine = λ d v k. k;
}
