-- The whole-number search keeps the laws of its rule, and its sums and keys are in range.
-- Distances are not below zero, so none (-2^63) stands for no distance only. A key is a distance and a heuristic: for one index a smaller
-- distance has no greater key. No cost is above `dear`. A distance came by fewer arcs than there are indices, so it is at most `far`
-- (pending, Bound); a heuristic lies within 2^42: so the sums fit 64 bits and the keys the range of the bag. Each turn gives an index its
-- first distance, or lowers one, or takes a pending index out: `to_do` falls, and bounds the number of takes.
-- Assumes nothing.
use mathlib.Core.Path.{◌≡◌, refl, sym, ap, subst}
use mathlib.Core.Bool.{Bool, true, false}
use mathlib.Core.List.{List}
use mathlib.Core.Option.{Option, none, some}
use Prim.Native.Nat.{ℕ, suc, ◌+◌, ◌-◌, ◌*◌, ◌≤◌, ◌<◌, ◌^◌}
use native.Mathlib.Omega.{arith}
use lib.IntN.{ℤ, pos, negsuc}
use lib.Signed.{lt_z, ◌≤ℤ◌}
use lib.ListN.{length, get_or}
use Rattle.whole.specs.Zed.{◌⊕◌, P, zed, sum, le_in, lt_yes, lt_no}
use Rattle.clean.specs.None.{none_i64}
use Rattle.rows.specs.Rows.{Lists}
use Rattle.rows.specs.RowArc.{RowArc}
use Rattle.bag.specs.Ints.{Near}
use Rattle.bag.specs.Order.{pick}
use Rattle.pending.specs.Setting.{Setting}
use Rattle.pending.specs.OnePlace.{Cell, begin, Next}
use Rattle.pending.proofs.Ints.{AnyZ, lt_is, lt_isnt, whole_laws}
use Rattle.pending.proofs.Once.{Within}
use Rattle.pending.proofs.Whole.{Has, Inv, begin_inv, next_inv}
use Rattle.pending.proofs.Bound.{Bounded, begin_bounded, next_bounded, distance_within}
use Rattle.pending.proofs.Falls.{over}
use Rattle.pending.proofs.Measure.{load, load_falls, over_most}
use Rattle.turns.specs.Kind.{setting_of}
use Rattle.turns.specs.Asks.{InRange, RowInRange}
use Rattle.turns.specs.Memory.{Memory}
use Rattle.turns.proofs.Lawful.{Lawful}
use Rattle.turns.proofs.Turns.{upto, upto_long, Head, Course, Popped}
use Rattle.turns.proofs.Right.{Way, Right}
use Rattle.search.specs.Ints.{dear, Fit, asked_of, key_of, dist_in, guided}
use Rattle.search.specs.Steps.{far, Keyed, guided_asks}

-- ---- the laws of its kind
-- a distance not below zero is read back
dist_back : (d : ℤ) → pos 0 ≤ℤ d → dist_in d ≡ some d
unfolding dist_in
dist_back d h = ap (λ (b : Bool). pick b (some d) none) (lt_is none_i64 d (omega (arith, zed)))

-- none is none
dist_none : dist_in none_i64 ≡ none
unfolding dist_in
dist_none = refl

-- a smaller distance has no greater key
key_lower : (h : List ℤ) (d e : ℤ) (v : ℕ) → lt_z d e ≡ true → lt_z (key_of h e v) (key_of h d v) ≡ false
unfolding key_of
key_lower h d e v l = let g = get_or h v (pos 0) in lt_isnt (e ⊕ g) (d ⊕ g) (omega (arith, zed, lt_yes d e l, sum e g, sum d g))

lawful : (h : List ℤ) → Lawful (guided h) AnyZ
lawful h = record {
  laws = whole_laws (key_of h) none 0;
  good_ok = λ d p. tt;
  good_zero = omega (arith, zed);
  good_plus = λ d c p b. omega (arith, zed, lt_no c (pos 0) b, sum d c);
  back = dist_back;
  empty = dist_none;
  lower = λ d e v p q l. key_lower h d e v l;
}

-- ---- keys
-- a number not past 2^52 is one that the bag has room for
near_in : (z : ℤ) → negsuc (2 ^ 52) ≤ℤ z → z ≤ℤ pos (2 ^ 52) → Near z
near_in (pos n) a b = record { up = omega (arith, le_in (pos n) (pos (2 ^ 52)) b); down = omega arith }
near_in (negsuc n) a b = record { up = omega arith; down = omega (arith, le_in (negsuc (2 ^ 52)) (negsuc n) a) }

-- so is a key in range
key_near : (h : List ℤ) (d : ℤ) (v : ℕ) → Keyed h d v → Near (key_of h d v)
unfolding key_of
key_near h d v k =
    let g = get_or h v (pos 0) in
    let low : negsuc (2 ^ 42 - 1) ≤ℤ g = k.fair.low in
    let high : g ≤ℤ pos (2 ^ 42) = k.fair.high in
    near_in (d ⊕ g) (omega (arith, zed, sum d g, k.low, k.high)) (omega (arith, zed, sum d g, k.low, k.high))

-- ---- the course
module _ (h : List ℤ) (m : ℕ) (target : Option ℕ) (source : ℕ) (nb : Lists ℤ) where
  -- what falls
  abbrev pub to_do : (ℕ → Cell ℤ) → ℕ → ℕ
  to_do s takes = over (load far) s (upto m)

  -- what is kept, after so many takes
  pub record Keeps (s : ℕ → Cell ℤ) (takes : ℕ) : Type 0 where
    pub inv : Inv (key_of h) target source (RowArc m nb) s
    pub bounded : Bounded dear s
    pub few : takes + to_do s takes ≤ 2 ^ 63

abbrev pub guided_way : List ℤ → Way ℤ ℤ
guided_way h = record { ok = AnyZ; keeps = Keeps h; left = to_do h }

module _ (h : List ℤ) {m source t : ℕ} (target : Option ℕ) {nb : Lists ℤ} (fit : Fit (asked_of m source t h) nb) where
  abbrev setting : Setting ℤ ℤ
  setting = setting_of (guided h) target source

  abbrev kept : (ℕ → Cell ℤ) → ℕ → Type 0
  kept = Keeps h m target source nb

  abbrev left : (ℕ → Cell ℤ) → ℕ → ℕ
  left = to_do h m target source nb

  -- how large a distance is
  range : {s : ℕ → Cell ℤ} → Bounded dear s → Within (upto m) s → (v : ℕ) (d : ℤ) (p : Option ℕ) → Has (s v) d p → P d ≤ far
  range f w v d p x =
      let k = distance_within (key_of h) target source (RowArc m nb) dear fit.cheap (upto m) w f v d p x in
      let a : k.0 < length (upto m) = k.1 in
      let b : P d ≤ k.0 * dear = k.2 in
      omega (arith, upto_long m, fit.rows.bounded)

  first : Within (upto m) (begin setting) → kept (begin setting) 0
  first w = record {
    inv = begin_inv (key_of h) target source (RowArc m nb);
    bounded = bounded;
    few = omega (arith, over_most far (begin setting) (range bounded w) (upto m), upto_long m, fit.rows.bounded);
  }
    where
      bounded : Bounded dear (begin setting)
      bounded = begin_bounded (key_of h) target source (RowArc m nb) dear fit.cheap

  again : {s s' : ℕ → Cell ℤ} {n : ℕ} → kept s n → Within (upto m) s → Next setting (RowArc m nb) s s' → Within (upto m) s'
      → kept s' (suc n) × (left s' (suc n) < left s n)
  again {s} {s'} {n} k w x w' =
      let inv = next_inv (key_of h) target source (RowArc m nb) k.inv x in
      (record { inv = inv; bounded = bounded; few = omega (arith, falls, k.few) }, falls)
    where
      bounded : Bounded dear s'
      bounded = next_bounded (key_of h) target source (RowArc m nb) dear fit.cheap k.inv x k.bounded

      falls : left s' (suc n) < left s n
      falls = load_falls far (key_of h) target source (RowArc m nb) k.inv x (range bounded w') (upto m) (w x.u x.d x.p true x.taken.held)

  course : Course (guided h) m target source nb kept AnyZ left
  course = record {
    lawful = lawful h;
    rows = fit.rows;
    inside = fit.source;
    first = first;
    again = again;
    few = λ k w. omega (arith, k.few);
  }

  -- the sums and the keys of a row whose index was taken are in range
  in_range_lem : {M M₁ : Memory ℤ} {n k u : ℕ} → Head (guided h) m target source nb kept M n k → Popped (guided h) m target source M M₁ n u
      → RowInRange (guided h) (guided_asks h) m nb u (get_or M.dist u none_i64)
  in_range_lem {u = u} w o v c a' b = subst (λ (z : ℤ). InRange (guided h) (guided_asks h) z v c) (sym o.entry) (record {
    sum = record { high = high; cheap = fit.cheap u v c a' };
    key = record { fair = fit.fair u v c a'; low = sums.0; high = sums.1 };
  })
    where
      high : o.d ≤ℤ pos far
      high =
          let l : pos 0 ≤ℤ o.d = o.fine in
          let b : P o.d ≤ far = range w.kept.bounded w.within u o.d o.p (record { flag = true; is = o.taken.held }) in
          omega (arith, zed)

      sums : (pos 0 ≤ℤ o.d ⊕ c) × (o.d ⊕ c ≤ℤ pos (far + dear))
      sums =
          let l : pos 0 ≤ℤ o.d = o.fine in
          let a : o.d ≤ℤ pos far = high in
          let z : pos 0 ≤ℤ c = omega (arith, zed, lt_no c (pos 0) b) in
          (omega (arith, zed, sum o.d c), omega (arith, zed, sum o.d c, fit.cheap u v c a'))

pub guided_right : (h : List ℤ) → Right (guided h) (guided_asks h) (guided_way h)
guided_right h = record {
  lawful = lawful h;
  course = λ target fit. course h target fit;
  first = λ fit. record { fair = fit.first; low = omega (arith, zed); high = omega (arith, zed) };
  row = λ {m} {s} {g} {target} fit w o. in_range_lem h target fit w o;
  fine = key_near h;
}
