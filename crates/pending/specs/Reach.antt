-- What 01 asks of the arcs: an arc below zero in reach, the indices in reach, and a heuristic that is never above what is left.
use Rattle.std.specs.Prelude.{◌≡◌, List, ℕ, ℤ, pos, ◌≤ℤ◌, ◌<ℤ◌}
use Rattle.walks.specs.Pigeon.{In, NoDup}
use Rattle.walks.specs.Walk.{Walk}

-- an arc below zero leaves an index in reach of o
pub record BadInReach (Arc : ℕ → ℕ → ℤ → Type 0) (o : ℕ) : Type 0 where
  pub u : ℕ
  pub t : ℤ
  pub v : ℕ
  pub c : ℤ
  pub reach : Walk Arc o u t
  pub arc_is : Arc u v c
  pub below : c <ℤ pos 0

-- every index of a list is in reach, every index in reach is listed, and none twice
pub record Reachable (Arc : ℕ → ℕ → ℤ → Type 0) (o : ℕ) (l : List ℕ) : Type 0 where
  pub distinct : NoDup l
  pub reached : (v : ℕ) → In v l → (t : ℤ) × Walk Arc o v t
  pub all : (v : ℕ) (t : ℤ) → Walk Arc o v t → In v l

-- no more than the total of any walk to g, and 0 there
pub record Admissible (Arc : ℕ → ℕ → ℤ → Type 0) (h : ℕ → ℤ) (g : ℕ) : Type 0 where
  pub at_target : h g ≡ pos 0
  pub under : (x : ℕ) (t : ℤ) → Walk Arc x g t → h x ≤ℤ t
