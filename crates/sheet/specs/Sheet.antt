-- The sheet of a map file, to be laid beside 01: which text the program may print for the bytes of a file.
-- Assumes nothing.
use Rattle.std.specs.Prelude.{◌≡◌, true, false, List, ℕ, ℤ}
use Rattle.table.specs.declared.FloatCost.{FloatCost}
use Rattle.net.specs.Net.{Net, net_of, net_of64}
use Rattle.mapfile.specs.declared.Engine.{Engine}
use Rattle.mapfile.specs.declared.Engine.TheVariants as asked
use Rattle.mapfile.specs.declared.Question.{Question}
use Rattle.mapfile.specs.declared.Stage.TheVariants.{Bad, Asked}
use Rattle.mapfile.specs.Engines.{number_of}
use Rattle.mapfile.specs.Load.{State, loaded}
use Rattle.text.specs.Text.{sound_text, bad_text}
use Rattle.answers.specs.Answers.{zeros, zeros_i, Dijkstra, BellmanFord, AStar, FloydWarshall, Johnson, Hops, DijkstraPath}

-- what the records of a file make of fresh tables: at most 16,384 bytes, m at most 64, room 512
abbrev pub read_file : List ℕ → State
read_file file = loaded 16384 file (zeros 64) (zeros 512) (zeros 512) (zeros_i 512) (zeros 512) (zeros 512)

-- the map that was read, of integers
abbrev pub int_map : State → Net ℤ
int_map s = net_of s.reading.bound s.reading.count s.reading.directed s.marks s.from s.to s.costs

-- or of f64
abbrev pub float_map : State → Net FloatCost
float_map s = net_of64 s.reading.bound s.reading.count s.reading.directed s.marks s.from s.to s.bits s.opens

-- the answer of the engine that is asked; of source and target an engine sees what its line names
pub data Answer (s : State) (engine : Engine) (source target : ℕ) (text : List ℕ) : Type 0 where
  dijkstra : engine ≡ asked.Dijkstra → Dijkstra (int_map s) source text → Answer s engine source target text
  bellman_ford : engine ≡ asked.BellmanFord → BellmanFord (int_map s) source text → Answer s engine source target text
  a_star : engine ≡ asked.AStar → AStar (int_map s) source target text → Answer s engine source target text
  floyd_warshall : engine ≡ asked.FloydWarshall → FloydWarshall (int_map s) text → Answer s engine source target text
  johnson : engine ≡ asked.Johnson → Johnson (int_map s) text → Answer s engine source target text
  hops : engine ≡ asked.Hops → s.reading.float ≡ false → Hops (int_map s) text → Answer s engine source target text
  hops64 : engine ≡ asked.Hops → s.reading.float ≡ true → Hops (float_map s) text → Answer s engine source target text
  dijkstra_path : engine ≡ asked.DijkstraPath → DijkstraPath (float_map s) source text → Answer s engine source target text

-- `engine E`; then the answer; then `end`
pub record Sound (s : State) (q : Question) (text : List ℕ) : Type 0 where
  pub answer : List ℕ
  pub gives : Answer s q.engine q.source q.target answer
  pub says : text ≡ sound_text (number_of q.engine) answer

-- the text for a file
pub data Sheet (file text : List ℕ) : Type 0 where
  -- a rule is broken at K: the single line `bad map at K`
  bad : (read_file file).reading.stage ≡ Bad → text ≡ bad_text (read_file file).reading.at → Sheet file text
  -- the file ends in its ask
  sound : {q : Question} → (read_file file).reading.stage ≡ Asked q → Sound (read_file file) q text → Sheet file text
