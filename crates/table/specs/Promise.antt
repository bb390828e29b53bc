-- What a put promises, as the table of its numbers: 1, 2, 8, 0. The contracts say it as a function (`put_ints`, `put_floats`), which is
-- shown to follow the table.
-- Assumes nothing.
use Rattle.std.specs.Prelude.{◌≡◌, Bool, List, [], ◌∷◌, ℕ, ◌+◌, ◌≤◌, ◌<◌, ℤ, take, set}
use Rattle.numbers.specs.Numbers.{Row, row, done, fails, holds}
use Rattle.table.specs.Links.{Link, zip3, place_of, present_both, all_inside, lent_whole}
use Rattle.table.specs.Lent.{float_costs, RawCost, room_ints, room_floats, Ints, ints_now, Floats, floats_now}

-- both puts, of a record with the ends u, v into the first n places: `same k` is what was lent, with the number k; `replaced i` has
-- the record's cost at the place i, `added` the record at the end
module _ {C E : Type 0} (d : Bool) (m room : ℕ) (marks : List ℕ) (u v n : ℕ) (ls : List (Link C)) (same replaced : ℕ → E) (added : E) where
  abbrev pub put_table : List (Row E)
  put_table =
      -- 1: a limit is passed, the marks are shorter than m, or the count is over the room; untouched
      row 1 (fails (lent_whole m n room marks)) (λ e. e ≡ same 1)
      -- 2: a link names an index at or above m, or absent; untouched
      ∷ row 2 (fails (all_inside m marks (take n ls))) (λ e. e ≡ same 2)
      -- 2: the record does; untouched
      ∷ row 2 (fails (present_both m marks u v)) (λ e. e ≡ same 2)
      -- 8: a new link, and the count is the room; untouched
      ∷ row 8 (holds ((n ≤ place_of d u v (take n ls)) × (n ≡ room))) (λ e. e ≡ same 8)
      -- 0: the link is there; at its first place the cost is replaced
      ∷ row 0 (holds (place_of d u v (take n ls) < n)) (λ e. e ≡ replaced (place_of d u v (take n ls)))
      -- 0: a new link; it goes at the end
      ∷ done (λ e. e ≡ added)
      ∷ []

-- `put`: what it answers and leaves
abbrev pub ints_table : Bool → ℕ → List ℕ → Link ℤ → ℕ → List ℕ → List ℕ → List ℤ → List (Row Ints)
ints_table d m marks r n xs ys cs =
    put_table d m (room_ints xs ys cs) marks r.a r.b n (zip3 xs ys cs) (λ k. ints_now k n xs ys cs)
    (λ i. ints_now 0 n xs ys (set cs i r.cost))
    (ints_now 0 (n + 1) (set xs n r.a) (set ys n r.b) (set cs n r.cost))

-- `put_f64`
abbrev pub floats_table : Bool → ℕ → List ℕ → Link RawCost → ℕ → List ℕ → List ℕ → List ℕ → List ℕ → List (Row Floats)
floats_table d m marks r n xs ys bs os =
    put_table d m (room_floats xs ys bs os) marks r.a r.b n (zip3 xs ys (float_costs bs os)) (λ k. floats_now k n xs ys bs os)
    (λ i. floats_now 0 n xs ys (set bs i r.cost.bits) (set os i r.cost.mark))
    (floats_now 0 (n + 1) (set xs n r.a) (set ys n r.b) (set bs n r.cost.bits) (set os n r.cost.mark))
