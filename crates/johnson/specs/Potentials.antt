-- What `potentials` promises: a closed walk below zero, or potentials that no arc lowers.
-- Assumes nothing.
use Rattle.std.specs.Prelude.{◌≡◌, Bool, true, false, List, ℕ, ◌-◌, ◌*◌, ◌≤◌, ◌^◌, ℤ, pos, ◌≤ℤ◌, length}
use Rattle.whole.specs.Zed.{◌⊕◌, P, N}
use Rattle.table.specs.Links.{Arc, links}
use Rattle.walks.specs.Pigeon.{In}
use Rattle.walks.specs.Walk.{Negative}
use Rattle.walks.specs.Costs.{Costs32}
use Rattle.johnson.specs.Rounds.{label, Table, Linked}

-- the arcs of the first n links
abbrev pub ArcsOf : Table → ℕ → ℕ → ℕ → ℤ → Type 0
ArcsOf t n = Arc t.directed (links n t.tails t.heads t.costs)

-- no arc lowers a potential
abbrev pub Resting : (ℕ → ℕ → ℤ → Type 0) → List ℤ → Type 0
Resting Arc h = (u v : ℕ) (c : ℤ) → Arc u v c → label h v ≤ℤ label h u ⊕ c

-- before the rounds: a sound table over p of the indices below m, and potentials of 0
pub record Ask (t : Table) (n p : ℕ) (h : List ℤ) : Type 0 where
  pub sound : Linked (length h) n t
  pub few : p ≤ 1024
  pub indices : List ℕ
  pub many : length indices ≡ p
  pub ends : (u v : ℕ) (c : ℤ) → ArcsOf t n u v c → In u indices × In v indices
  pub zeros : (v : ℕ) → label h v ≡ pos 0

-- potentials for p indices: no arc lowers one, and each lies in -(p - 1) * 2 ^ 31 ..= 0
pub record Potentials (Arc : ℕ → ℕ → ℤ → Type 0) (p : ℕ) (h : List ℤ) : Type 0 where
  pub resting : Resting Arc h
  pub high : (v : ℕ) → P (label h v) ≡ 0
  pub low : (v : ℕ) → N (label h v) ≤ (p - 1) * 2 ^ 31
  pub small : Costs32 Arc

-- the answer: is some closed walk below zero? If not, the potentials hold
pub record Answered (t : Table) (n p : ℕ) (h h' : List ℤ) (negative : Bool) : Type 0 where
  pub long : length h' ≡ length h
  pub yes : negative ≡ true → Negative (ArcsOf t n)
  pub no : negative ≡ false → Potentials (ArcsOf t n) p h'
