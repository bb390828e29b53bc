-- What a step of the reading keeps: the map has no more indices than there are marks, and the reading goes on within the file.
-- Assumes nothing.
use mathlib.Core.Path.{◌≡◌, refl}
use mathlib.Core.Bool.{true, false, ◌&&◌}
use mathlib.Core.List.{List}
use Prim.Native.Nat.{ℕ, ◌+◌, ◌≤◌, ◌<◌}
use native.Mathlib.Omega.{arith}
use borrow.Author.Tests.{leb-true, eqb-true}
use lib.Dec.{ltb, leb, eqb}
use Rattle.std.proofs.Common.{Result, Ok, Err}
use lib.ListN.{length, get_or, length-set}
use Rattle.whole.proofs.Cases.{by_test, and_right}
use Rattle.clean.proofs.Filled.{filled_length}
use Rattle.mapfile.specs.Bytes.{u16_at}
use Rattle.mapfile.specs.Records.{record_at, kind_at, head_at, float_link_at}
use Rattle.mapfile.specs.Load.{broken_at, State, with_reading, at_start, at_head, goes_on, head_step, absent_step, link_may}
use Rattle.mapfile.specs.Load.{link_step, after_put, float_step, ask_engine, ask_step, take_record, one_step}
use Rattle.mapfile.specs.Engines.{engine_of, has_engine}
use Rattle.mapfile.specs.declared.Engine.{Engine}
use Rattle.mapfile.specs.declared.Reading.{Reading}
use Rattle.mapfile.specs.declared.Record.{Record}
use Rattle.mapfile.specs.declared.Record.TheVariants.{End, Broken, Head, Absent, Link, FloatLink, Ask}

-- how many bytes a record takes, its length and kind included
abbrev width_of : Record → ℕ
width_of End = 0
width_of Broken = 0
width_of (Head m d f) = 8
width_of (Absent i) = 6
width_of (Link a b c) = 12
width_of (FloatLink a b bits mark) = 17
width_of (Ask e s t) = 9

-- a record lies within the file
module _ (s : List ℕ) (at : ℕ) where
  abbrev Within : Record → Type 0
  Within r = at + width_of r ≤ length s

  module _ (n k : ℕ) (fits : at + 2 + n ≤ length s) where
    kind_within : (kind : ℕ) → Within (kind_at s n kind k)
    unfolding kind_at head_at float_link_at
    kind_within kind =
        let z : Within Broken = omega arith in
        by_test Within (eqb kind 1) _ _
        (λ _. by_test Within (eqb n 6) _ _
        (λ e. by_test Within (leb (get_or s (k + 2) 0) 1) _ _ (λ _. by_test Within (leb (get_or s (k + 3) 0) 1) _ _ (λ _. omega (arith, eqb-true n 6 e)) (λ _. z)) (λ _. z)) (λ _. z))
        (λ _. by_test Within (eqb kind 2) _ _
        (λ _. by_test Within (eqb n 4) _ _ (λ e. omega (arith, eqb-true n 4 e)) (λ _. z))
        (λ _. by_test Within (eqb kind 3) _ _
        (λ _. by_test Within (eqb n 10) _ _ (λ e. omega (arith, eqb-true n 10 e)) (λ _. z))
        (λ _. by_test Within (eqb kind 4) _ _
        (λ _. by_test Within (eqb n 15) _ _ (λ e. by_test Within (leb (get_or s (k + 12) 0) 1) _ _ (λ _. omega (arith, eqb-true n 15 e)) (λ _. z)) (λ _. z))
        (λ _. by_test Within (eqb kind 5) _ _
        (λ _. by_test Within (eqb n 7) _ _ (λ e. omega (arith, eqb-true n 7 e)) (λ _. z))
        (λ _. z)))))

  pub record_within : at ≤ length s → at + width_of (record_at s at) ≤ length s
  unfolding record_at
  record_within h =
      let z : Within Broken = omega arith in
      by_test Within (leb (length s) at) _ _ (λ _. omega arith)
      (λ _. by_test Within (leb (at + 4) (length s)) _ _
      (λ _. by_test Within (leb (at + 2 + u16_at s at) (length s)) _ _ (λ e. kind_within (u16_at s at) (at + 4) (leb-true _ _ e) (u16_at s (at + 2))) (λ _. z))
      (λ _. z))

-- the map has no more indices than there are marks, as many as before; the reading lies within the file and, where it does not end, is further on
pub record Keeps (len : ℕ) (s t : State) : Type 0 where
  pub even : length t.marks ≡ length s.marks
  pub bounded : t.reading.bound ≤ length s.marks
  pub within : t.reading.at ≤ len
  pub further : goes_on t.reading.stage ≡ true → s.reading.at < t.reading.at

module _ (len : ℕ) (s : State) (h : s.reading.at ≤ len) (f : s.reading.bound ≤ length s.marks) where
  abbrev w : Reading
  w = s.reading

  abbrev P : State → Type 0
  P t = Keeps len s t

  -- a rule is broken, at the record or after it
  keeps_broken : (k : ℕ) → k ≤ len → P (with_reading (broken_at k w) s)
  keeps_broken k l = record { even = refl; bounded = f; within = l; further = λ z. cc }

  -- what a put leaves of the reading
  abbrev Q : Reading → Type 0
  Q v = (v.bound ≤ length s.marks) × (v.at ≤ len) × (goes_on v.stage ≡ true → w.at < v.at)

  keeps_after : (n k c : ℕ) → 0 < n → w.at + n ≤ len → Q (after_put n k c w)
  unfolding after_put
  keeps_after n k c p q = by_test Q (eqb k 0) _ _ (λ _. (f, q, λ _. omega arith)) (λ _. (f, h, λ z. cc))

  keeps_take : (r : Record) → w.at + width_of r ≤ len → P (take_record r len s)
  unfolding head_step absent_step link_step float_step ask_step
  keeps_take End q = keeps_broken w.at h
  keeps_take Broken q = keeps_broken w.at h
  keeps_take (Head m d g) q =
      by_test P (at_start w.stage && leb m (length s.marks)) _ _
      (λ e. let l : m ≤ length s.marks = leb-true m _ (and_right (at_start w.stage) _ e) in
      record { even = filled_length m 1 s.marks l; bounded = l; within = q; further = λ _. omega arith })
      (λ _. keeps_broken w.at h)
  keeps_take (Absent i) q =
      by_test P (at_head w.stage && ltb i w.bound) _ _ (λ _. record { even = length-set s.marks i 0; bounded = f; within = q; further = λ _. omega arith }) (λ _. keeps_broken w.at h)
  keeps_take (Link a b c) q =
      by_test P (link_may false w) _ _ (λ _. let k = keeps_after 12 _ _ (omega arith) q in record { even = refl; bounded = k.0; within = k.1; further = k.2 }) (λ _. keeps_broken w.at h)
  keeps_take (FloatLink a b x o) q =
      by_test P (link_may true w) _ _ (λ _. let k = keeps_after 17 _ _ (omega arith) q in record { even = refl; bounded = k.0; within = k.1; further = k.2 }) (λ _. keeps_broken w.at h)
  keeps_take (Ask e src t) q =
      let k : Q (ask_step len e src t w) = by_test Q (at_start w.stage) _ _ (λ _. (f, h, λ z. cc)) (λ _. by_engine (engine_of e)) in
      record { even = refl; bounded = k.0; within = k.1; further = k.2 }
    where
      by_engine : (r : Result Engine ℕ) → Q (ask_engine len r src t w)
      by_engine (Ok g) =
          by_test Q (has_engine g w.float) _ _
          (λ _. by_test Q (ltb (w.at + 9) len) _ _ (λ _. (f, q, λ z. cc)) (λ _. (f, h, λ z. cc)))
          (λ _. (f, h, λ z. cc))
      by_engine (Err n) = (f, h, λ z. cc)

-- one record of the file
pub keeps_step : (file : List ℕ) (s : State) → s.reading.at ≤ length file → s.reading.bound ≤ length s.marks → Keeps (length file) s (one_step file s)
unfolding one_step
keeps_step file s h f = keeps_take (length file) s h f (record_at file s.reading.at) (record_within file s.reading.at h)
