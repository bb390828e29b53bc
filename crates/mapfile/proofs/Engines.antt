-- The numbers of the engines: each is read back as its engine.
-- Assumes nothing.
use mathlib.Core.Path.{◌≡◌, refl}
use Rattle.std.proofs.Common.{Ok}
use Rattle.mapfile.specs.Engines.{number_of, engine_of}
use Rattle.mapfile.specs.declared.Engine.{Engine}
use Rattle.mapfile.specs.declared.Engine.TheVariants.{Dijkstra, BellmanFord, AStar, FloydWarshall, Johnson, Hops, DijkstraPath}

pub read_back : (e : Engine) → engine_of (number_of e) ≡ Ok e
unfolding engine_of
read_back Dijkstra = refl
read_back BellmanFord = refl
read_back AStar = refl
read_back FloydWarshall = refl
read_back Johnson = refl
read_back Hops = refl
read_back DijkstraPath = refl
