-- How the reading of a file ends: with a rule broken, or asked for an engine that the map's kind has. Each record leaves the reading going on, broken or asked; and the reading
-- has a turn for each byte and one more, while a record that lets it go on takes a byte or more.
-- Assumes nothing.
use mathlib.Core.Path.{◌≡◌, refl}
use mathlib.Core.Bool.{true, false, ◌&&◌}
use mathlib.Core.List.{List}
use Prim.Native.Nat.{ℕ, zero, suc, ◌+◌, ◌≤◌, ◌<◌}
use native.Mathlib.Omega.{arith}
use lib.Dec.{ltb, leb, eqb}
use Rattle.std.proofs.Common.{Result, Ok, Err}
use lib.IntN.{ℤ}
use lib.ListN.{length}
use Rattle.whole.proofs.Cases.{by_test}
use Rattle.mapfile.specs.Records.{record_at}
use Rattle.mapfile.specs.Engines.{engine_of, has_engine}
use Rattle.mapfile.specs.Load.{State, start_reading, state_of, at_start, at_head, goes_on, head_step, absent_step, link_may, link_step}
use Rattle.mapfile.specs.Load.{after_put, float_step, ask_engine, ask_step, take_record, one_step, read_on, loaded}
use Rattle.mapfile.specs.declared.Engine.{Engine}
use Rattle.mapfile.specs.declared.Question.{Question}
use Rattle.mapfile.specs.declared.Stage.TheVariants.{Bad, Asked}
use Rattle.mapfile.specs.declared.Reading.{Reading}
use Rattle.mapfile.specs.declared.Record.{Record}
use Rattle.mapfile.specs.declared.Record.TheVariants.{End, Broken, Head, Absent, Link, FloatLink, Ask}
use Rattle.mapfile.proofs.Keeps.{keeps_step}

-- how a reading can stand
data Stands (w : Reading) : Type 0 where
  going : goes_on w.stage ≡ true → Stands w
  broke : w.stage ≡ Bad → Stands w
  asked : (q : Question) → w.stage ≡ Asked q → has_engine q.engine w.float ≡ true → Stands w

-- and how it can end
pub data Ended (w : Reading) : Type 0 where
  broken : w.stage ≡ Bad → Ended w
  asks : (q : Question) → w.stage ≡ Asked q → has_engine q.engine w.float ≡ true → Ended w

-- a put goes on or is refused
put_stands : (n number count : ℕ) (w : Reading) → Stands (after_put n number count w)
unfolding after_put
put_stands n number count w = by_test Stands (eqb number 0) _ _ (λ _. going refl) (λ _. broke refl)

-- an ask, by its engine
ask_stands : (len : ℕ) (e : Result Engine ℕ) (source target : ℕ) (w : Reading) → Stands (ask_engine len e source target w)
ask_stands len (Ok e) source target w =
    by_test Stands (has_engine e w.float) _ _ (λ m. by_test Stands (ltb (w.at + 9) len) _ _ (λ _. broke refl) (λ _. asked _ refl m)) (λ _. broke refl)
ask_stands len (Err n) source target w = broke refl

-- what a record leaves
abbrev StandsIn : State → Type 0
StandsIn t = Stands t.reading

record_stands : (r : Record) (len : ℕ) (s : State) → StandsIn (take_record r len s)
unfolding head_step absent_step link_step float_step ask_step
record_stands End len s = broke refl
record_stands Broken len s = broke refl
record_stands (Head m d f) len s = by_test StandsIn (at_start s.reading.stage && leb m (length s.marks)) _ _ (λ _. going refl) (λ _. broke refl)
record_stands (Absent i) len s = by_test StandsIn (at_head s.reading.stage && ltb i s.reading.bound) _ _ (λ _. going refl) (λ _. broke refl)
record_stands (Link a b c) len s = by_test StandsIn (link_may false s.reading) _ _ (λ _. put_stands 12 _ _ s.reading) (λ _. broke refl)
record_stands (FloatLink a b x o) len s = by_test StandsIn (link_may true s.reading) _ _ (λ _. put_stands 17 _ _ s.reading) (λ _. broke refl)
record_stands (Ask e source target) len s = by_test Stands (at_start s.reading.stage) _ _ (λ _. broke refl) (λ _. ask_stands len (engine_of e) source target s.reading)

step_stands : (file : List ℕ) (s : State) → StandsIn (one_step file s)
unfolding one_step
step_stands file s = record_stands (record_at file s.reading.at) (length file) s

-- a reading that does not go on has ended
stopped : (s : State) → goes_on s.reading.stage ≡ false → StandsIn s → Ended s.reading
stopped s h (going g) = cc
stopped s h (broke b) = broken b
stopped s h (asked q a m) = asks q a m

-- a reading with turns enough ends
reading_ends : (k : ℕ) (file : List ℕ) (s : State) → StandsIn s → s.reading.at ≤ length file → s.reading.bound ≤ length s.marks → (goes_on s.reading.stage ≡ true → length file < s.reading.at + k)
    → Ended (read_on k file s).reading
reading_ends zero file s (going h) l f e = absurd (omega (arith, e h))
reading_ends zero file s (broke h) l f e = broken h
reading_ends zero file s (asked q h m) l f e = asks q h m
reading_ends (suc k) file s st l f e =
    by_test (λ (t : State). Ended t.reading) (goes_on s.reading.stage) _ _
    (λ q. let o = keeps_step file s l f in
    let n = e q in
    reading_ends k file (one_step file s) (step_stands file s) o.within (omega (arith, o.bounded, o.even)) (λ z. omega (arith, n, o.further z)))
    (λ q. stopped s q st)

-- the whole file
pub file_ends : (limit : ℕ) (file ms xs ys : List ℕ) (cs : List ℤ) (bs os : List ℕ) → Ended (loaded limit file ms xs ys cs bs os).reading
unfolding loaded
file_ends limit file ms xs ys cs bs os =
    by_test (λ (t : State). Ended t.reading) (ltb limit (length file)) _ _ (λ _. broken refl)
    (λ _. reading_ends (length file + 1) file (state_of start_reading ms xs ys cs bs os) (going refl) (omega arith) (omega arith) (λ _. omega arith))
