-- Which numbers each engine can give on a map that was read, to be laid beside 01's table of numbers.
-- Assumes nothing.
use Rattle.std.specs.Prelude.{◌≡◌, List, [], ◌∷◌, ℕ}
use Rattle.walks.specs.Pigeon.{In}
use Rattle.mapfile.specs.declared.Engine.{Engine}
use Rattle.mapfile.specs.Load.{State}
use Rattle.sheet.specs.Sheet.{Answer, dijkstra, bellman_ford, a_star, floyd_warshall, johnson, hops, hops64, dijkstra_path}

-- 3 where a source must be present, 4 where a target must be, 6 for a bad cost met,
-- 7 for a negative closed walk; hops give 0 alone ("never 6 or 7")
abbrev pub Possible : {s : State} {engine : Engine} {source target : ℕ} {text : List ℕ} → Answer s engine source target text → Type 0
Possible (dijkstra e x) = In x.number (0 ∷ 3 ∷ 6 ∷ [])
Possible (bellman_ford e x) = In x.number (0 ∷ 7 ∷ [])
Possible (a_star e x) = In x.number (0 ∷ 3 ∷ 4 ∷ 6 ∷ [])
Possible (floyd_warshall e x) = In x.number (0 ∷ 7 ∷ [])
Possible (johnson e x) = In x.number (0 ∷ 7 ∷ [])
Possible (hops e f x) = x.number ≡ 0
Possible (hops64 e f x) = x.number ≡ 0
Possible (dijkstra_path e x) = In x.number (0 ∷ 3 ∷ 6 ∷ [])
