-- The premises of the demands can be met, so that none of them is a statement of nothing.
-- `converted_map`: of every integer map whose costs are whole numbers from 0 to 2^31 - 1 there is the f64 map that the exact case asks for: the same slices, the pattern
-- of each cost, every link open.
-- Of the others: a heuristic as `a_star_path` asks for it is 0 at every index, where no cost is below zero (a_star, `zero_modest`); that lent buffers are long enough and
-- no engine gives 1 or 2 is shown of every map that a file holds (sheet, `possible`), and 01's example is such a file (sheet, `sample_read`).
-- Assumes nothing.
use mathlib.Core.Path.{◌≡◌, refl, ap}
use mathlib.Core.Bool.{Bool}
use mathlib.Core.List.{List, [], ◌∷◌, map}
use Prim.Native.Nat.{ℕ, zero, suc}
use lib.IntN.{ℤ}
use lib.ListN.{take}
use Rattle.table.specs.Links.{Link, link_of, zip3}
use Rattle.table.specs.Lent.{float_costs}
use Rattle.table.specs.declared.FloatCost.{FloatCost}
use Rattle.net.specs.Net.{net_of, net_of64, ArcOf}
use Rattle.promises.specs.Exact.{WholeSize, pattern, converted, Converted}

-- ---- the exact case
-- a cost's open mark
abbrev open1 : ℤ → ℕ
open1 c = 1

-- the slices of the converted map, link by link
converted_links : (n : ℕ) (xs ys : List ℕ) (cs : List ℤ) → take n (zip3 xs ys (float_costs (map pattern cs) (map open1 cs))) ≡ map converted (take n (zip3 xs ys cs))
converted_links zero xs ys cs = refl
converted_links (suc n) [] ys cs = refl
converted_links (suc n) (x ∷ xs) [] cs = refl
converted_links (suc n) (x ∷ xs) (y ∷ ys) [] = refl
converted_links (suc n) (x ∷ xs) (y ∷ ys) (c ∷ cs) = ap (λ (l : List (Link FloatCost)). converted (link_of x y c) ∷ l) (converted_links n xs ys cs)

pub converted_map : (m n : ℕ) (d : Bool) (marks xs ys : List ℕ) (cs : List ℤ) → ((u v : ℕ) (c : ℤ) → ArcOf (net_of m n d marks xs ys cs) u v c → WholeSize c)
    → Converted (net_of m n d marks xs ys cs) (net_of64 m n d marks xs ys (map pattern cs) (map open1 cs))
converted_map m n d marks xs ys cs whole = record { bound = refl; count = refl; directed = refl; has = λ i. refl; links = converted_links n xs ys cs; whole = whole }
