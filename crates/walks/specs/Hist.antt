-- How a label came about: for contracts inside an engine that lowers labels until none can fall.
use Rattle.std.specs.Prelude.{◌≡◌, List, [], ◌∷◌, ℕ, length, ℤ, pos, ◌≤ℤ◌, ◌<ℤ◌}
use Rattle.whole.specs.Zed.{◌⊕◌}

-- an index that was passed, and the total it had then
pub record Mark : Type 0 where
  pub ix : ℕ
  pub had : ℤ

-- x was passed with a
pub data At (x : ℕ) (a : ℤ) : List Mark → Type 0 where
  at_here : {m : Mark} {h : List Mark} → x ≡ m.ix → a ≡ m.had → At x a (m ∷ h)
  at_there : {m : Mark} {h : List Mark} → At x a h → At x a (m ∷ h)

-- a walk from o, by its last arc, with the marks of what it passed, the last first; an index that comes again has less than before
pub data Trail (Arc : ℕ → ℕ → ℤ → Type 0) (o : ℕ) : ℕ → ℤ → List Mark → Type 0 where
  begin : {e : ℤ} → e ≡ pos 0 → Trail Arc o o e []
  snoc : {u v : ℕ} {d e c : ℤ} {h : List Mark} → Trail Arc o u d h → Arc u v c → e ≡ d ⊕ c
      → ((a : ℤ) → At v a (record { ix = u; had = d } ∷ h) → e <ℤ a) → Trail Arc o v e (record { ix = u; had = d } ∷ h)

-- D v d says that v has the label d now: v has a label that is at most t
abbrev pub Low : (ℕ → ℤ → Type 0) → ℕ → ℤ → Type 0
Low D v t = (e : ℤ) × D v e × e ≤ℤ t

-- d came to v by a trail of k arcs, and what each index on it had then is no less than what it has now
pub record Hist (Arc : ℕ → ℕ → ℤ → Type 0) (o : ℕ) (D : ℕ → ℤ → Type 0) (v : ℕ) (d : ℤ) (k : ℕ) : Type 0 where
  pub h : List Mark
  pub trail : Trail Arc o v d h
  pub arcs : length h ≡ k
  pub low : (x : ℕ) (a : ℤ) → At x a (record { ix = v; had = d } ∷ h) → Low D x a

-- labels that only fall
abbrev pub Falls : (ℕ → ℤ → Type 0) → (ℕ → ℤ → Type 0) → Type 0
Falls D D' = (x : ℕ) (e : ℤ) → D x e → Low D' x e
