-- Small maps, by computation: S9, and its f64 form, where a second record replaces the open mark too. Two feeds that are the same for demand 3,
-- with a record refused as outside and one refused as full. And why demand 3 asks that m marks are lent to both or to neither: m 1, marks 0
-- against no marks, where no index is present in either.
-- Assumes nothing.
use mathlib.Core.Path.{◌≡◌, refl}
use mathlib.Core.Bool.{true, false}
use mathlib.Core.List.{[], ◌∷◌}
use Prim.Native.Nat.{ℕ, zero, suc}
use lib.IntN.{ℤ, pos}
use Rattle.table.specs.Links.{Link, link_of, same_pair, joins_ends, present, present_both, lent_whole, table_no, place_at, placing}
use Rattle.table.specs.Lent.{shorter, room_ints, room_floats, raw_cost, Ints, ints_now, store_ints, put_ints, ints_put, floats_now, store_floats, put_floats, floats_put}
use Rattle.table.specs.Feeds.{feed, ints, Feed, fed, SameFeeds}

-- S9: 1→0 7 put, then 1→0 4: one link, cost 4
pub s9 : feed (ints_put true 2 (1 ∷ 1 ∷ [])) (ints_now 0 0 (0 ∷ 0 ∷ []) (0 ∷ 0 ∷ []) (pos 0 ∷ pos 0 ∷ [])) (link_of 1 0 (pos 7) ∷ link_of 1 0 (pos 4) ∷ [])
    ≡ ints_now 0 1 (1 ∷ 0 ∷ []) (0 ∷ 0 ∷ []) (pos 4 ∷ pos 0 ∷ [])
unfolding same_pair joins_ends present present_both lent_whole table_no place_at placing shorter room_ints store_ints put_ints
s9 = refl

-- undirected, 1-0 open and then 0-1 closed: one link with its first ends, closed
pub second_closed : feed (floats_put false 2 (1 ∷ 1 ∷ [])) (floats_now 0 0 (0 ∷ []) (0 ∷ []) (0 ∷ []) (0 ∷ [])) (link_of 1 0 (raw_cost 7 1) ∷ link_of 0 1 (raw_cost 4 0) ∷ [])
    ≡ floats_now 0 1 (1 ∷ []) (0 ∷ []) (4 ∷ []) (0 ∷ [])
unfolding same_pair joins_ends present present_both lent_whole table_no place_at placing shorter room_floats store_floats put_floats
second_closed = refl

-- 1→0 7, then 1→0 4
abbrev twice : Feed (Link ℤ) Ints
twice = record { bound = 2; directed = true; marks = 1 ∷ 1 ∷ []; lent = ints_now 0 0 (0 ∷ 0 ∷ []) (0 ∷ 0 ∷ []) (pos 0 ∷ pos 0 ∷ []); records = link_of 1 0 (pos 7) ∷ link_of 1 0 (pos 4) ∷ [] }

-- 0→2 1 gives 2, 1→0 4, and 0→1 3 gives 8, in slices with room for one link
abbrev once : Feed (Link ℤ) Ints
once = record { bound = 2; directed = true; marks = 1 ∷ 1 ∷ []; lent = ints_now 0 0 (5 ∷ []) (5 ∷ []) (pos 5 ∷ []); records = link_of 0 2 (pos 1) ∷ link_of 1 0 (pos 4) ∷ link_of 0 1 (pos 3) ∷ [] }

pub full_once : fed ints once ≡ ints_now 8 1 (1 ∷ []) (0 ∷ []) (pos 4 ∷ [])
unfolding same_pair joins_ends present present_both lent_whole table_no place_at placing shorter room_ints store_ints put_ints
full_once = refl

pub twice_once : SameFeeds ints twice once
unfolding same_pair joins_ends present present_both lent_whole table_no place_at placing shorter room_ints store_ints put_ints
twice_once = record { one = refl; other = refl; bound = refl; directed = refl; marked = refl; has = λ i. refl; last = λ u v c. (λ w. w, λ w. w) }

-- the same presence, and yet the limits are kept with the one and not with the other
pub no_marks : ((i : ℕ) → present 1 (0 ∷ []) i ≡ present 1 [] i) × (lent_whole 1 0 0 (0 ∷ []) ≡ true) × (lent_whole 1 0 0 [] ≡ false)
unfolding present lent_whole
no_marks = (go, refl, refl)
  where
    go : (i : ℕ) → present 1 (0 ∷ []) i ≡ present 1 [] i
    go zero = refl
    go (suc i) = refl
