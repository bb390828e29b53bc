-- 01's example of a map file, by computation: it is read to its ask, and its links are those of 01's map. So there are files of which the sheet says more than `bad map`.
-- Assumes nothing.
use mathlib.Core.Path.{◌≡◌, refl}
use mathlib.Core.List.{List, [], ◌∷◌}
use Prim.Native.Nat.{ℕ}
use lib.IntN.{pos, negsuc}
use Rattle.clean.specs.Fill.{filled}
use Rattle.table.specs.Links.{link_of, same_pair, joins_ends, present, present_both, lent_whole, table_no, place_at, placing}
use Rattle.table.specs.Lent.{shorter, room_ints, store_ints, put_ints}
use Rattle.net.specs.Net.{links_of}
use Rattle.mapfile.specs.Bytes.{u16_at, u32_at, cost_of}
use Rattle.mapfile.specs.Records.{head_at, kind_at, record_at}
use Rattle.mapfile.specs.Load.{head_step, link_may, after_put, link_step, ask_step, one_step, loaded}
use Rattle.mapfile.specs.Engines.{engine_of}
use Rattle.mapfile.specs.declared.Engine.TheVariants.{BellmanFord}
use Rattle.mapfile.specs.declared.Stage.TheVariants.{Asked}
use Rattle.sheet.specs.Sheet.{read_file, int_map}

-- its 53 bytes: the head, three links, the ask
abbrev sample : List ℕ
sample =
    6 ∷ 0 ∷ 1 ∷ 0 ∷ 3 ∷ 0 ∷ 1 ∷ 0
    ∷ 10 ∷ 0 ∷ 3 ∷ 0 ∷ 0 ∷ 0 ∷ 1 ∷ 0 ∷ 5 ∷ 0 ∷ 0 ∷ 0
    ∷ 10 ∷ 0 ∷ 3 ∷ 0 ∷ 1 ∷ 0 ∷ 2 ∷ 0 ∷ 254 ∷ 255 ∷ 255 ∷ 255
    ∷ 10 ∷ 0 ∷ 3 ∷ 0 ∷ 0 ∷ 0 ∷ 2 ∷ 0 ∷ 4 ∷ 0 ∷ 0 ∷ 0
    ∷ 7 ∷ 0 ∷ 5 ∷ 0 ∷ 2 ∷ 0 ∷ 0 ∷ 0 ∷ 0
    ∷ []

-- the ask, and the links
pub sample_read : ((read_file sample).reading.stage ≡ Asked (record { engine = BellmanFord; source = 0; target = 0 }))
    × (links_of (int_map (read_file sample)) ≡ link_of 0 1 (pos 5) ∷ link_of 1 2 (negsuc 1) ∷ link_of 0 2 (pos 4) ∷ [])
unfolding filled same_pair joins_ends present present_both lent_whole table_no place_at placing shorter room_ints store_ints put_ints
    u16_at u32_at cost_of head_at kind_at record_at head_step link_may after_put link_step engine_of ask_step one_step loaded
sample_read = (refl, refl)
