-- Where a map file breaks a rule, kind of break by kind of break: small files over tables for two indices and one link, by computation.
-- Each case is a file with the stage and the offset at which its reading has to end. The lists of cases go over 01's rules one after another, and one equation says
-- that the reading of every file ends as its case says: both sides compute to the same list.
-- Assumes nothing.
use mathlib.Core.Path.{◌≡◌, refl}
use mathlib.Core.List.{List, [], ◌∷◌, ◌++◌, map}
use Prim.Native.Nat.{ℕ}
use lib.IntN.{pos}
use Rattle.clean.specs.Fill.{filled}
use Rattle.table.specs.Links.{same_pair, joins_ends, present, present_both, lent_whole, table_no, place_at, placing}
use Rattle.table.specs.Lent.{shorter, room_ints, room_floats, store_ints, put_ints, store_floats, put_floats}
use Rattle.mapfile.specs.Bytes.{u16_at, u32_at, u64_at, cost_of}
use Rattle.mapfile.specs.Records.{head_at, float_link_at, kind_at, record_at}
use Rattle.mapfile.specs.Engines.{engine_of}
use Rattle.mapfile.specs.declared.Engine.{Engine}
use Rattle.mapfile.specs.declared.Engine.TheVariants.{Dijkstra, BellmanFord, Hops, DijkstraPath}
use Rattle.mapfile.specs.declared.Stage.{Stage}
use Rattle.mapfile.specs.declared.Stage.TheVariants.{Bad, Asked}
use Rattle.mapfile.specs.Load.{head_step, absent_step, link_may, after_put, link_step, float_step, ask_step, one_step, loaded}

-- a file, and the stage and the offset at which its reading ends
pub record Case : Type 0 where
  pub file : List ℕ
  pub stage : Stage
  pub at : ℕ

abbrev ends : Stage → ℕ → List ℕ → Case
ends x k f = record { file = f; stage = x; at = k }

-- a rule is broken at k; the ask at k is read, for an engine and from 0 to 0
abbrev bad : ℕ → List ℕ → Case
bad k f = ends Bad k f

abbrev good : Engine → ℕ → List ℕ → Case
good e k f = ends (Asked (record { engine = e; source = 0; target = 0 })) k f

-- the reading of a case's file
abbrev reading : Case → Case
reading c = let s = loaded 16384 c.file (0 ∷ 0 ∷ []) (0 ∷ []) (0 ∷ []) (pos 0 ∷ []) (0 ∷ []) (0 ∷ []) in ends s.reading.stage s.reading.at c.file

-- heads for two indices, directed, of an integer map (8 bytes) and of an f64 map
abbrev head : List ℕ
head = 6 ∷ 0 ∷ 1 ∷ 0 ∷ 2 ∷ 0 ∷ 1 ∷ 0 ∷ []

abbrev head_float : List ℕ
head_float = 6 ∷ 0 ∷ 1 ∷ 0 ∷ 2 ∷ 0 ∷ 1 ∷ 1 ∷ []

-- the link from 0 to 1 at cost 5 (12 bytes), and in an f64 map (17 bytes)
abbrev link : List ℕ
link = 10 ∷ 0 ∷ 3 ∷ 0 ∷ 0 ∷ 0 ∷ 1 ∷ 0 ∷ 5 ∷ 0 ∷ 0 ∷ 0 ∷ []

abbrev link_float : List ℕ
link_float = 15 ∷ 0 ∷ 4 ∷ 0 ∷ 0 ∷ 0 ∷ 1 ∷ 0 ∷ 0 ∷ 0 ∷ 0 ∷ 0 ∷ 0 ∷ 0 ∷ 0 ∷ 0 ∷ 1 ∷ []

-- index 1 is absent (6 bytes)
abbrev absent : List ℕ
absent = 4 ∷ 0 ∷ 2 ∷ 0 ∷ 1 ∷ 0 ∷ []

-- an ask for an engine (9 bytes)
abbrev ask : ℕ → List ℕ
ask e = 7 ∷ 0 ∷ 5 ∷ 0 ∷ e ∷ 0 ∷ 0 ∷ 0 ∷ 0 ∷ []

-- sound files
abbrev sound : List Case
sound =
    good Dijkstra 8 (head ++ ask 1)
    ∷ good BellmanFord 26 (head ++ absent ++ (10 ∷ 0 ∷ 3 ∷ 0 ∷ 0 ∷ 0 ∷ 0 ∷ 0 ∷ 0 ∷ 0 ∷ 0 ∷ 0 ∷ []) ++ ask 2)
    ∷ good DijkstraPath 25 (head_float ++ link_float ++ ask 7)
    ∷ good Hops 32 (head ++ link ++ link ++ ask 6)
    ∷ []

-- an empty file, no head first, a head cut short, of a wrong length, with too many indices, or with a flag above 1
abbrev first : List Case
first =
    bad 0 []
    ∷ bad 0 (link ++ ask 1)
    ∷ bad 0 (ask 1)
    ∷ bad 0 (6 ∷ 0 ∷ 1 ∷ 0 ∷ 2 ∷ [])
    ∷ bad 0 (7 ∷ 0 ∷ 1 ∷ 0 ∷ 2 ∷ 0 ∷ 1 ∷ 0 ∷ 0 ∷ [])
    ∷ bad 0 (6 ∷ 0 ∷ 1 ∷ 0 ∷ 3 ∷ 0 ∷ 1 ∷ 0 ∷ [])
    ∷ bad 0 (6 ∷ 0 ∷ 1 ∷ 0 ∷ 2 ∷ 0 ∷ 2 ∷ 0 ∷ [])
    ∷ []

-- no ask: nothing left, or less than a length and a kind
abbrev no_ask : List Case
no_ask =
    bad 8 head
    ∷ bad 20 (head ++ link)
    ∷ bad 8 (head ++ (7 ∷ 0 ∷ 5 ∷ []))
    ∷ []

-- a length below 2, a length that is not its kind's, an unknown kind, a body past the end
abbrev shapes : List Case
shapes =
    bad 8 (head ++ (1 ∷ 0 ∷ 2 ∷ 0 ∷ []))
    ∷ bad 8 (head ++ (5 ∷ 0 ∷ 2 ∷ 0 ∷ 1 ∷ 0 ∷ 0 ∷ []))
    ∷ bad 8 (head ++ (4 ∷ 0 ∷ 6 ∷ 0 ∷ 1 ∷ 0 ∷ []))
    ∷ bad 8 (head ++ (4 ∷ 0 ∷ 2 ∷ 0 ∷ 1 ∷ []))
    ∷ []

-- a second head, an absent index after a link or not below m, a link of the other kind, an open byte above 1
abbrev places : List Case
places =
    bad 8 (head ++ head)
    ∷ bad 20 (head ++ link ++ absent)
    ∷ bad 8 (head ++ (4 ∷ 0 ∷ 2 ∷ 0 ∷ 2 ∷ 0 ∷ []))
    ∷ bad 8 (head ++ link_float)
    ∷ bad 8 (head_float ++ link)
    ∷ bad 8 (head_float ++ (15 ∷ 0 ∷ 4 ∷ 0 ∷ 0 ∷ 0 ∷ 1 ∷ 0 ∷ 0 ∷ 0 ∷ 0 ∷ 0 ∷ 0 ∷ 0 ∷ 0 ∷ 0 ∷ 2 ∷ []))
    ∷ []

-- a put that is refused: an absent end, no room
abbrev puts : List Case
puts =
    bad 14 (head ++ absent ++ link)
    ∷ bad 20 (head ++ link ++ (10 ∷ 0 ∷ 3 ∷ 0 ∷ 0 ∷ 0 ∷ 0 ∷ 0 ∷ 0 ∷ 0 ∷ 0 ∷ 0 ∷ []))
    ∷ []

-- an ask with an unknown engine, or for the other kind of map; a byte after a sound ask
abbrev asks : List Case
asks =
    bad 8 (head ++ ask 8)
    ∷ bad 8 (head ++ ask 0 ++ ask 1)
    ∷ bad 8 (head ++ ask 7)
    ∷ bad 8 (head_float ++ ask 1)
    ∷ bad 17 (head ++ ask 1 ++ (0 ∷ []))
    ∷ []

-- every one of them ends so
pub offsets : map reading (sound ++ first ++ no_ask ++ shapes ++ places ++ puts ++ asks) ≡ sound ++ first ++ no_ask ++ shapes ++ places ++ puts ++ asks
unfolding filled same_pair joins_ends present present_both lent_whole table_no place_at placing shorter room_ints room_floats store_ints put_ints store_floats
    put_floats u16_at u32_at u64_at cost_of head_at
    float_link_at kind_at record_at head_step absent_step link_may after_put link_step float_step engine_of ask_step one_step loaded
offsets = refl
