-- Predecessors: the chain of them from an index back to the source. Paths, and the total of a path with the cheapest arc at each step.
use Rattle.std.specs.Prelude.{◌≡◌, List, [], ◌∷◌, ◌++◌, ℕ, suc, ℤ, pos, ◌≤ℤ◌}
use Rattle.std.proofs.Math.Option.{Option, some}
use Rattle.whole.specs.Zed.{◌⊕◌}

-- an arc, not below zero, from u to v, that costs at most the difference of the distances
pub record ChainArc (Arc : ℕ → ℕ → ℤ → Type 0) (dist : ℕ → Option ℤ) (u v : ℕ) : Type 0 where
  pub d : ℤ
  pub e : ℤ
  pub c : ℤ
  pub from : dist u ≡ some d
  pub to : dist v ≡ some e
  pub arc_is : Arc u v c
  pub up : pos 0 ≤ℤ c
  pub low : d ⊕ c ≤ℤ e

-- from v back to o
pub data Chain (Arc : ℕ → ℕ → ℤ → Type 0) (o : ℕ) (dist : ℕ → Option ℤ) (pred : ℕ → Option ℕ) : ℕ → Type 0 where
  source : {v : ℕ} → v ≡ o → Chain Arc o dist pred v
  via : {v : ℕ} (u : ℕ) → (v ≡ o → ⊥) → pred v ≡ some u → ChainArc Arc dist u v → Chain Arc o dist pred u → Chain Arc o dist pred v

module _ {Arc : ℕ → ℕ → ℤ → Type 0} {o : ℕ} {dist : ℕ → Option ℤ} {pred : ℕ → Option ℕ} where
  -- how many arcs
  abbrev pub hops : {v : ℕ} → Chain Arc o dist pred v → ℕ
  hops (source e) = 0
  hops (via u n p l c) = suc (hops c)

  -- the indices passed, v first and o last
  abbrev pub passed : {v : ℕ} → Chain Arc o dist pred v → List ℕ
  passed {v} (source e) = v ∷ []
  passed {v} (via u n p l c) = v ∷ passed c

-- a path from s to v: its indices, s first, each joined to the next by an arc
pub data Path (Arc : ℕ → ℕ → ℤ → Type 0) (s : ℕ) : ℕ → List ℕ → Type 0 where
  start : {v : ℕ} {l : List ℕ} → v ≡ s → l ≡ s ∷ [] → Path Arc s v l
  onto : {v : ℕ} {l : List ℕ} (u : ℕ) (k : List ℕ) (c : ℤ) → Path Arc s u k → Arc u v c → l ≡ k ++ (v ∷ []) → Path Arc s v l

-- c is the cost of the cheapest arc from u to v
pub record CheapestArc (Arc : ℕ → ℕ → ℤ → Type 0) (u v : ℕ) (c : ℤ) : Type 0 where
  pub arc_is : Arc u v c
  pub lowest : (b : ℤ) → Arc u v b → c ≤ℤ b

-- t is the total of a path with the cheapest arc at each step, the path written from its end back to its start
abbrev pub Cheapest : (ℕ → ℕ → ℤ → Type 0) → List ℕ → ℤ → Type 0
Cheapest Arc [] t = ⊥
Cheapest Arc (v ∷ []) t = t ≡ pos 0
Cheapest Arc (v ∷ u ∷ l) t = (c : ℤ) × (r : ℤ) × CheapestArc Arc u v c × Cheapest Arc (u ∷ l) r × (t ≡ r ⊕ c)
