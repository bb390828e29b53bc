-- A map that was read to its ask is one that every engine takes: it has no more than 64 indices and 512 links, and its links lie within it. For it begins without links, and
-- a put leaves a table that neither 1 nor 2 refuses where it was lent one. So an engine never gives 1 or 2 on it.
-- Assumes nothing.
use mathlib.Core.Path.{◌≡◌, refl, sym, ap, ◌∙◌, subst}
use mathlib.Core.Bool.{Bool, true, false, cond, not, ◌&&◌}
use mathlib.Core.List.{List}
use Prim.Native.Nat.{ℕ, zero, suc, ◌+◌, ◌≤◌}
use native.Mathlib.Omega.{arith}
use borrow.Author.Tests.{leb-true}
use lib.Dec.{ltb, leb, eqb}
use Rattle.std.proofs.Common.{Result, Ok, Err}
use lib.ListN.{length, length-set}
use Rattle.whole.proofs.Cases.{clash, by_test, and_left, and_right, not_t}
use Rattle.clean.proofs.Filled.{filled_length}
use Rattle.table.specs.Links.{Link, link_of, table_no}
use Rattle.table.specs.Lent.{room_ints, room_floats, ints_no, floats_no, raw_cost, ints_now, floats_now}
use Rattle.table.specs.Feeds.{Kind, ints, floats}
use Rattle.table.proofs.Laws.{room_ints_lem, room_floats_lem, no_whole, whole, whole_back, whole_of_no, all_of_no}
use Rattle.table.proofs.Tables.{Table}
use Rattle.table.proofs.Puts.{put_step}
use Rattle.table.proofs.Slices.{table_of, Follows, follows_ints, follows_floats}
use Rattle.mapfile.specs.Records.{record_at}
use Rattle.mapfile.specs.Engines.{engine_of, has_engine}
use Rattle.mapfile.specs.Load.{State, start_reading, state_of, at_start, at_head, goes_on, head_step, absent_step, link_may, link_step}
use Rattle.mapfile.specs.Load.{after_put, float_step, ask_engine, ask_step, take_record, one_step, read_on, loaded}
use Rattle.mapfile.specs.declared.Engine.{Engine}
use Rattle.mapfile.specs.declared.Question.{Question}
use Rattle.mapfile.specs.declared.Stage.{Stage}
use Rattle.mapfile.specs.declared.Stage.TheVariants.{Start, Headed, Linked, Bad, Asked}
use Rattle.mapfile.specs.declared.Reading.{Reading}
use Rattle.mapfile.specs.declared.Record.{Record}
use Rattle.mapfile.specs.declared.Record.TheVariants.{End, Broken, Head, Absent, Link as LinkRecord, FloatLink, Ask}
use Rattle.mapfile.proofs.Keeps.{keeps_step}
use Rattle.answers.specs.Answers.{zeros, zeros_i}
use Rattle.sheet.specs.Sheet.{read_file}

-- ---- a table
-- without links it is good
empty_good : {C : Type 0} (m room : ℕ) (marks : List ℕ) (ls : List (Link C)) → m ≤ 1024 → m ≤ length marks → table_no m 0 room marks ls ≡ 0
empty_good m room marks ls a b = no_whole m 0 room marks ls (whole_back (record { indices = a; marked = b; few = omega arith }))

-- a put keeps it so
put_good : {C R S : Type 0} (k : Kind C R S) → Follows k → (d : Bool) (m : ℕ) (marks : List ℕ) (r : R) (s : S)
    → table_no m (k.count s) (k.room s) marks (k.places s) ≡ 0 → let t = k.put d m marks r s in table_no m (k.count t) (k.room t) marks (k.places t) ≡ 0
put_good {C} k l d m marks r s g =
    let t = k.put d m marks r s in
    let w = whole m (k.count s) (k.room s) marks (whole_of_no m (k.count s) (k.room s) marks (k.places s) g) in
    let p = put_step d m (k.room s) marks (k.seen r) (table_of k s) (record { few = w.few; inside = all_of_no m (k.count s) (k.room s) marks (k.places s) g; roomy = l.roomy s }) in
    ap (λ (n : ℕ). table_no m (k.count t) n marks (k.places t)) (l.keeps d m marks r s)
    ∙ subst (λ (x : Table C). table_no m x.count (k.room s) marks x.places ≡ 0) (sym (l.shows d m marks r s))
    (no_whole m _ (k.room s) marks _ (whole_back (record { indices = w.indices; marked = w.marked; few = p.sound.few })) ∙ ap (λ (b : Bool). cond b 0 2) p.sound.inside)

-- ---- what is read
-- before the links
abbrev bare : Stage → Bool
bare Start = true
bare Headed = true
bare _ = false

bare_start : (x : Stage) → at_start x ≡ true → bare x ≡ true
bare_start Start e = refl
bare_start Headed e = cc
bare_start Linked e = cc
bare_start Bad e = cc
bare_start (Asked q) e = cc

bare_head : (x : Stage) → at_head x ≡ true → bare x ≡ true
bare_head Start e = cc
bare_head Headed e = refl
bare_head Linked e = cc
bare_head Bad e = cc
bare_head (Asked q) e = cc

module _ (s : State) where
  -- an integer map that neither 1 nor 2 refuses, with room for no more than 512 links
  abbrev pub GoodInts : Type 0
  GoodInts = (ints_no s.reading.bound s.reading.count s.marks s.from s.to s.costs ≡ 0) × (room_ints s.from s.to s.costs ≤ 512)

  -- such an f64 map
  abbrev pub GoodFloats : Type 0
  GoodFloats = (floats_no s.reading.bound s.reading.count s.marks s.from s.to s.bits s.opens ≡ 0) × (room_floats s.from s.to s.bits s.opens ≤ 512)

  -- before the links
  abbrev Bare : Type 0
  Bare = (s.reading.count ≡ 0) × (room_ints s.from s.to s.costs ≤ 512) × (room_floats s.from s.to s.bits s.opens ≤ 512)

  -- the table of its kind is good
  pub record Good : Type 0 where
    pub ints : s.reading.float ≡ false → GoodInts
    pub floats : s.reading.float ≡ true → GoodFloats
    pub early : bare s.reading.stage ≡ true → Bare

-- where no rule is broken
abbrev Fine : State → Type 0
Fine t = (t.reading.stage ≡ Bad → ⊥) → Good t

-- a map without links is good
bare_good : (s : State) → s.reading.bound ≤ 1024 → s.reading.bound ≤ length s.marks → Bare s → Good s
bare_good s a b e = record {
  ints = λ _. (ap (λ (n : ℕ). ints_no s.reading.bound n s.marks s.from s.to s.costs) e.0 ∙ empty_good s.reading.bound _ s.marks _ a b, e.1);
  floats = λ _. (ap (λ (n : ℕ). floats_no s.reading.bound n s.marks s.from s.to s.bits s.opens) e.0 ∙ empty_good s.reading.bound _ s.marks _ a b, e.2);
  early = λ _. e;
}

-- a link may stand in a map of its kind
int_may : (w : Reading) → link_may false w ≡ true → w.float ≡ false
unfolding link_may
int_may w e = not_t w.float (and_right (not (at_start w.stage)) _ e)

float_may : (w : Reading) → link_may true w ≡ true → w.float ≡ true
unfolding link_may
float_may w e = and_right (not (at_start w.stage)) _ e

-- a record
module _ (len : ℕ) (s : State) (g : Good s) (few : length s.marks ≤ 1024) (marked : s.reading.bound ≤ length s.marks) where
  abbrev P : Reading → Type 0
  P w = Fine (state_of w s.marks s.from s.to s.costs s.bits s.opens)

  record_good : (r : Record) → Fine (take_record r len s)
  unfolding head_step absent_step link_step float_step ask_step after_put
  record_good End = λ f. absurd (f refl)
  record_good Broken = λ f. absurd (f refl)
  record_good (Head m d x) =
      by_test Fine (at_start s.reading.stage && leb m (length s.marks)) _ _
      (λ e _. let l : m ≤ length s.marks = leb-true m _ (and_right (at_start s.reading.stage) _ e) in
      let b = g.early (bare_start s.reading.stage (and_left (at_start s.reading.stage) _ e)) in
      bare_good _ (omega arith) (omega (arith, filled_length m 1 s.marks l)) (refl, b.1, b.2))
      (λ _ f. absurd (f refl))
  record_good (Absent i) =
      by_test Fine (at_head s.reading.stage && ltb i s.reading.bound) _ _
      (λ e _. bare_good _ (omega arith) (omega (arith, length-set s.marks i 0)) (g.early (bare_head s.reading.stage (and_left (at_head s.reading.stage) _ e))))
      (λ _ f. absurd (f refl))
  record_good (LinkRecord a b c) =
      by_test Fine (link_may false s.reading) _ _
      (λ e. let n = int_may s.reading e in
      let lent = ints_now 0 s.reading.count s.from s.to s.costs in
      let put = ints.put s.reading.directed s.reading.bound s.marks (link_of a b c) lent in
      by_test (λ (w : Reading). Fine (state_of w s.marks put.from put.to put.costs s.bits s.opens)) (eqb put.number 0) _ _
      (λ q _. record {
        ints = λ _. (
          put_good ints follows_ints s.reading.directed s.reading.bound s.marks (link_of a b c) lent (g.ints n).0,
          omega (arith, (g.ints n).1, follows_ints.keeps s.reading.directed s.reading.bound s.marks (link_of a b c) lent),
        );
        floats = λ t. absurd (clash t n);
        early = λ z. cc;
      })
      (λ _ f. absurd (f refl)))
      (λ _ f. absurd (f refl))
  record_good (FloatLink a b x o) =
      by_test Fine (link_may true s.reading) _ _
      (λ e. let n = float_may s.reading e in
      let lent = floats_now 0 s.reading.count s.from s.to s.bits s.opens in
      let put = floats.put s.reading.directed s.reading.bound s.marks (link_of a b (raw_cost x o)) lent in
      by_test (λ (w : Reading). Fine (state_of w s.marks put.from put.to s.costs put.bits put.opens)) (eqb put.number 0) _ _
      (λ q _. record {
        ints = λ t. absurd (clash n t);
        floats = λ _. (
          put_good floats follows_floats s.reading.directed s.reading.bound s.marks (link_of a b (raw_cost x o)) lent (g.floats n).0,
          omega (arith, (g.floats n).1, follows_floats.keeps s.reading.directed s.reading.bound s.marks (link_of a b (raw_cost x o)) lent),
        );
        early = λ z. cc;
      })
      (λ _ f. absurd (f refl)))
      (λ _ f. absurd (f refl))
  record_good (Ask e source target) =
      by_test P (at_start s.reading.stage) _ _ (λ _ f. absurd (f refl)) (λ _. by_engine (engine_of e))
    where
      by_engine : (r : Result Engine ℕ) → P (ask_engine len r source target s.reading)
      by_engine (Ok q) =
          by_test P (has_engine q s.reading.float) _ _
          (λ _. by_test P (ltb (s.reading.at + 9) len) _ _ (λ _ f. absurd (f refl)) (λ _ _. record { ints = g.ints; floats = g.floats; early = λ z. cc }))
          (λ _ f. absurd (f refl))
      by_engine (Err n) = λ f. absurd (f refl)

-- a reading that goes on breaks no rule
not_bad : (x : Stage) → goes_on x ≡ true → x ≡ Bad → ⊥
not_bad x q e = let f : goes_on x ≡ false = ap goes_on e in cc

-- the reading
reading_good : (k : ℕ) (file : List ℕ) (s : State) → Fine s → length s.marks ≤ 1024 → s.reading.at ≤ length file → s.reading.bound ≤ length s.marks → Fine (read_on k file s)
unfolding one_step
reading_good zero file s g few l f = g
reading_good (suc k) file s g few l f =
    by_test Fine (goes_on s.reading.stage) _ _
    (λ q. let o = keeps_step file s l f in
    reading_good k file (one_step file s) (record_good (length file) s (g (not_bad s.reading.stage q)) few f (record_at file s.reading.at)) (omega (arith, o.even)) o.within
    (omega (arith, o.bounded, o.even)))
    (λ _. g)

-- the fresh tables have room for 512 links
int_room : room_ints (zeros 512) (zeros 512) (zeros_i 512) ≤ 512
int_room = (room_ints_lem (zeros 512) (zeros 512) (zeros_i 512)).in_from

float_room : room_floats (zeros 512) (zeros 512) (zeros 512) (zeros 512) ≤ 512
float_room = (room_floats_lem (zeros 512) (zeros 512) (zeros 512) (zeros 512)).in_from

-- the whole file, unless a rule is broken
all_good : (file : List ℕ) → Fine (read_file file)
unfolding loaded
all_good file =
    by_test Fine (ltb 16384 (length file)) _ _ (λ _ f. absurd (f refl))
    (λ _. reading_good (length file + 1) file start (λ _. bare_good start (omega arith) (omega arith) (refl, int_room, float_room)) (omega arith) (omega arith) (omega arith))
  where
    start : State
    start = state_of start_reading (zeros 64) (zeros 512) (zeros 512) (zeros_i 512) (zeros 512) (zeros 512)

-- a file that ends in its ask
pub file_good : (file : List ℕ) {q : Question} → (read_file file).reading.stage ≡ Asked q → Good (read_file file)
file_good file e = all_good file (λ z. cc)
