-- The engines that an ask can name: the number of each, and the kinds of map that have it.
-- Assumes nothing.
use Rattle.std.specs.Prelude.{ℕ, Bool, true, not, cond, eqb, Result, Ok, Err}
use Rattle.mapfile.specs.declared.Engine.{Engine}
use Rattle.mapfile.specs.declared.Engine.TheVariants.{Dijkstra, BellmanFord, AStar, FloydWarshall, Johnson, Hops, DijkstraPath}

-- the number of an engine
abbrev pub number_of : Engine → ℕ
number_of Dijkstra = 1
number_of BellmanFord = 2
number_of AStar = 3
number_of FloydWarshall = 4
number_of Johnson = 5
number_of Hops = 6
number_of DijkstraPath = 7

-- the engine of a number, or the number where it is no engine's
unfoldable pub engine_of : ℕ → Result Engine ℕ
engine_of n =
    cond (eqb n 1) (Ok Dijkstra)
    (cond (eqb n 2) (Ok BellmanFord)
    (cond (eqb n 3) (Ok AStar)
    (cond (eqb n 4) (Ok FloydWarshall)
    (cond (eqb n 5) (Ok Johnson)
    (cond (eqb n 6) (Ok Hops)
    (cond (eqb n 7) (Ok DijkstraPath)
    (Err n)))))))

-- has a map's kind the engine? 1 to 5 an integer map, 7 an f64 map, 6 either
abbrev pub has_engine : Engine → Bool → Bool
has_engine Dijkstra float = not float
has_engine BellmanFord float = not float
has_engine AStar float = not float
has_engine FloydWarshall float = not float
has_engine Johnson float = not float
has_engine Hops float = true
has_engine DijkstraPath float = float
