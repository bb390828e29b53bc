-- For contracts inside an engine: the content of its bag, a key or none per index,
-- beside the cells of the search; and how far the search has come.
use Rattle.std.specs.Prelude.{◌≡◌, Bool, true, ℕ}
use Rattle.std.proofs.Math.Option.{Option, none, some}
use Rattle.pending.specs.Setting.{Setting, End}
use Rattle.pending.specs.OnePlace.{Cell, out, has, begin, Ends}

-- a cell from a distance, a predecessor and whether the index is pending
abbrev pub cell_of : {K : Type 0} → Option K → Option ℕ → Bool → Cell K
cell_of none p b = out
cell_of (some d) p b = has d p b

module _ {K C : Type 0} (S : Setting K C) where
  -- the content holds a key exactly for the pending indices: the key of the index's distance
  pub record Holds (content : ℕ → Option K) (s : ℕ → Cell K) : Type 0 where
    pub pending : (v : ℕ) (d : K) (p : Option ℕ) → s v ≡ has d p true → content v ≡ some (S.key d v)
    pub held : (v : ℕ) (k : K) → content v ≡ some k → (d : K) × (p : Option ℕ) × (s v ≡ has d p true) × (k ≡ S.key d v)

  module _ (Arc : ℕ → ℕ → C → Type 0) where
    -- the search from s after n kept takes leads on from the start: whatever it ends in, the whole search ends in
    pub record Leads (s : ℕ → Cell K) (n : ℕ) : Type 0 where
      pub to : (e : End K) → Ends S Arc s n e → Ends S Arc (begin S) 0 e
