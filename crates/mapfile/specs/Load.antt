-- What the records of a map file make of a map, one after the other:
-- the first record that breaks a rule and its offset, or the map and the ask.
-- A file may have as many bytes as a limit says, a map as many indices as there are marks,
-- and as many links as the lent tables have room for.
-- Assumes nothing.
use Rattle.std.specs.Prelude.{ℕ, zero, suc, ◌+◌, Bool, true, false, cond, not, ◌&&◌, List, leb, ltb, eqb, ℤ, length, set, Result, Ok, Err}
use Rattle.clean.specs.Fill.{filled}
use Rattle.table.specs.Links.{link_of}
use Rattle.table.specs.Lent.{Ints, put_ints, Floats, raw_cost, put_floats}
use Rattle.mapfile.specs.Records.{record_at}
use Rattle.mapfile.specs.Engines.{engine_of, has_engine}
use Rattle.mapfile.specs.declared.Engine.{Engine}
use Rattle.mapfile.specs.declared.Stage.{Stage}
use Rattle.mapfile.specs.declared.Stage.TheVariants.{Start, Headed, Linked, Bad, Asked}
use Rattle.mapfile.specs.declared.Reading.{Reading}
use Rattle.mapfile.specs.declared.Record.{Record}
use Rattle.mapfile.specs.declared.Record.TheVariants.{End, Broken, Head, Absent, Link, FloatLink, Ask}

-- is a reading before the first record, and is it after the head and before the links?
abbrev pub at_start : Stage → Bool
at_start Start = true
at_start _ = false

abbrev pub at_head : Stage → Bool
at_head Headed = true
at_head _ = false

-- no rule is broken yet, and the ask is not read
abbrev pub goes_on : Stage → Bool
goes_on Bad = false
goes_on (Asked q) = false
goes_on _ = true

-- before the first record
abbrev pub start_reading : Reading
start_reading = record { stage = Start; at = 0; bound = 0; count = 0; directed = false; float = false }

-- a rule is broken at an offset
abbrev pub broken_at : ℕ → Reading → Reading
broken_at k w = record w { stage = Bad; at = k }

-- past a record of n bytes, at a stage and with a count of links
abbrev pub onward : Stage → ℕ → ℕ → Reading → Reading
onward stage' n count' w = record w { stage = stage'; at = w.at + n; count = count' }

-- past the head, whose map has no links yet
abbrev pub headed : ℕ → Bool → Bool → Reading → Reading
headed m d f w = record { stage = Headed; at = w.at + 8; bound = m; count = 0; directed = d; float = f }

-- asked
abbrev pub asked : Engine → ℕ → ℕ → Reading → Reading
asked e s t w = record w { stage = Asked (record { engine = e; source = s; target = t }) }

-- a reading and the lent tables
pub record State : Type 0 where
  pub reading : Reading
  pub marks : List ℕ
  pub from : List ℕ
  pub to : List ℕ
  pub costs : List ℤ
  pub bits : List ℕ
  pub opens : List ℕ

-- the same from its parts
abbrev pub state_of : Reading → List ℕ → List ℕ → List ℕ → List ℤ → List ℕ → List ℕ → State
state_of w ms xs ys cs bs os = record { reading = w; marks = ms; from = xs; to = ys; costs = cs; bits = bs; opens = os }

-- with another reading
abbrev pub with_reading : Reading → State → State
with_reading w s = state_of w s.marks s.from s.to s.costs s.bits s.opens

-- with another reading and other marks
abbrev pub with_marks : Reading → List ℕ → State → State
with_marks w ms s = state_of w ms s.from s.to s.costs s.bits s.opens

-- the record at hand breaks a rule
abbrev pub broken : State → State
broken s = with_reading (broken_at s.reading.at s.reading) s

-- kind 1: the first record, with no more indices than there are marks; every index below m is then present
unfoldable pub head_step : ℕ → Bool → Bool → State → State
head_step m d f s =
    cond (at_start s.reading.stage && leb m (length s.marks))
    (with_marks (headed m d f s.reading) (filled m 1 s.marks) s) (broken s)

-- kind 2: after the head and before the links, an index below m
unfoldable pub absent_step : ℕ → State → State
absent_step i s =
    cond (at_head s.reading.stage && ltb i s.reading.bound)
    (with_marks (onward Headed 6 s.reading.count s.reading) (set s.marks i 0) s) (broken s)

-- a link may stand after the head, in a map of its kind
unfoldable pub link_may : Bool → Reading → Bool
link_may f w = not (at_start w.stage) && cond f w.float (not w.float)

-- after a put with a number and a count: past a record of n bytes, or broken where the put is refused
unfoldable pub after_put : ℕ → ℕ → ℕ → Reading → Reading
after_put n number count' w = cond (eqb number 0) (onward Linked n count' w) (broken_at w.at w)

-- what a put leaves in the tables of an integer map
abbrev pub with_ints : Ints → State → State
with_ints l s = state_of (after_put 12 l.number l.count s.reading) s.marks l.from l.to l.costs s.bits s.opens

-- and in those of an f64 map
abbrev pub with_floats : Floats → State → State
with_floats l s = state_of (after_put 17 l.number l.count s.reading) s.marks l.from l.to s.costs l.bits l.opens

-- kind 3: put into the table of an integer map
unfoldable pub link_step : ℕ → ℕ → ℤ → State → State
link_step a b c s =
    cond (link_may false s.reading)
    (with_ints
    (put_ints s.reading.directed s.reading.bound s.marks (link_of a b c) s.reading.count s.from s.to s.costs) s)
    (broken s)

-- kind 4: put into the table of an f64 map
unfoldable pub float_step : ℕ → ℕ → ℕ → ℕ → State → State
float_step a b x o s =
    cond (link_may true s.reading)
    (with_floats
    (put_floats s.reading.directed s.reading.bound s.marks (link_of a b (raw_cost x o)) s.reading.count s.from s.to
    s.bits s.opens) s)
    (broken s)

-- kind 5: after the head, an engine for the map's kind, and nothing after it; len is the file's length
abbrev pub ask_engine : ℕ → Result Engine ℕ → ℕ → ℕ → Reading → Reading
ask_engine len (Ok e) s t w =
    cond (has_engine e w.float)
    (cond (ltb (w.at + 9) len) (broken_at (w.at + 9) w) (asked e s t w)) (broken_at w.at w)
ask_engine len (Err n) s t w = broken_at w.at w

unfoldable pub ask_step : ℕ → ℕ → ℕ → ℕ → Reading → Reading
ask_step len e s t w = cond (at_start w.stage) (broken_at w.at w) (ask_engine len (engine_of e) s t w)

-- what a record makes of the state; a file that ends before its ask is broken at its length
abbrev pub take_record : Record → ℕ → State → State
take_record End len s = broken s
take_record Broken len s = broken s
take_record (Head m d f) len s = head_step m d f s
take_record (Absent i) len s = absent_step i s
take_record (Link a b c) len s = link_step a b c s
take_record (FloatLink a b x o) len s = float_step a b x o s
take_record (Ask e src t) len s = with_reading (ask_step len e src t s.reading) s

-- one record of the file
unfoldable pub one_step : List ℕ → State → State
one_step file s = take_record (record_at file s.reading.at) (length file) s

-- at most k records, until a rule is broken or the ask is read
abbrev pub read_on : ℕ → List ℕ → State → State
read_on zero file s = s
read_on (suc k) file s = cond (goes_on s.reading.stage) (read_on k file (one_step file s)) s

-- the whole reading: a record takes a byte or more, so that there are no more records than bytes;
-- a file over the limit is broken at the limit
unfoldable pub loaded : ℕ → List ℕ → List ℕ → List ℕ → List ℕ → List ℤ → List ℕ → List ℕ → State
loaded limit file ms xs ys cs bs os =
    cond (ltb limit (length file))
    (state_of (broken_at limit start_reading) ms xs ys cs bs os)
    (read_on (length file + 1) file (state_of start_reading ms xs ys cs bs os))
