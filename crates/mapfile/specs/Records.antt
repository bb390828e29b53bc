-- What stands at an offset of a map file, by the table of kinds.
-- Assumes nothing.
use Rattle.std.specs.Prelude.{ℕ, ◌+◌, cond, List, leb, eqb, length, get_or}
use Rattle.mapfile.specs.Bytes.{u16_at, u32_at, u64_at, cost_of}
use Rattle.mapfile.specs.declared.Record.{Record}
use Rattle.mapfile.specs.declared.Record.TheVariants.{End, Broken, Head, Absent, Link, FloatLink, Ask}

-- kind 1: m 16; directed 8; f64 8; the flags 0 or 1
unfoldable pub head_at : List ℕ → ℕ → Record
head_at s k =
    cond (leb (get_or s (k + 2) 0) 1)
    (cond (leb (get_or s (k + 3) 0) 1) (Head (u16_at s k) (eqb (get_or s (k + 2) 0) 1) (eqb (get_or s (k + 3) 0) 1)) Broken)
    Broken

-- kind 2: index 16
abbrev pub absent_at : List ℕ → ℕ → Record
absent_at s k = Absent (u16_at s k)

-- kind 3: ends 16, 16; cost 32
abbrev pub link_at : List ℕ → ℕ → Record
link_at s k = Link (u16_at s k) (u16_at s (k + 2)) (cost_of (u32_at s (k + 4)))

-- kind 4: ends 16, 16; bits 64; open 8, 0 or 1
unfoldable pub float_link_at : List ℕ → ℕ → Record
float_link_at s k =
    cond (leb (get_or s (k + 12) 0) 1) (FloatLink (u16_at s k) (u16_at s (k + 2)) (u64_at s (k + 4)) (get_or s (k + 12) 0)) Broken

-- kind 5: engine 8; source 16; target 16
abbrev pub ask_at : List ℕ → ℕ → Record
ask_at s k = Ask (get_or s k 0) (u16_at s (k + 1)) (u16_at s (k + 3))

-- a record of length n (kind and body) and of a kind, whose body stands at k: its length is its kind's
unfoldable pub kind_at : List ℕ → ℕ → ℕ → ℕ → Record
kind_at s n kind k =
    cond (eqb kind 1) (cond (eqb n 6) (head_at s k) Broken)
    (cond (eqb kind 2) (cond (eqb n 4) (absent_at s k) Broken)
    (cond (eqb kind 3) (cond (eqb n 10) (link_at s k) Broken)
    (cond (eqb kind 4) (cond (eqb n 15) (float_link_at s k) Broken)
    (cond (eqb kind 5) (cond (eqb n 7) (ask_at s k) Broken)
    Broken))))

-- at the end, the end; else a length and a kind, and as many bytes as the length says
unfoldable pub record_at : List ℕ → ℕ → Record
record_at s at =
    cond (leb (length s) at) End
    (cond (leb (at + 4) (length s))
    (cond (leb (at + 2 + u16_at s at) (length s)) (kind_at s (u16_at s at) (u16_at s (at + 2)) (at + 4)) Broken)
    Broken)
