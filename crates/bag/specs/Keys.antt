-- The keys of a bag: which of two is smaller, which keys are good ones, and the words that pairs are in the lent memory.
use Rattle.std.specs.Prelude.{◌≡◌, Bool, true, false, List, ℕ, ◌≤◌, ◌<◌, get_or}

-- a kind of key: the machine's test `<`, the keys that a bag takes, one of any, and the word of a pair, which is never 0
pub record Keys (K : Type 0) : Type 1 where
  pub lt : K → K → Bool
  pub ok : K → Type 0
  pub none : K
  pub word : K → ℕ → ℕ

-- what the words of a kind owe its pairs: none is 0, a key that is lowered has a larger one, and so has a smaller key; where neither key is
-- smaller, a pair whose word is no larger has an index that is no smaller, if that holds where the two words are one
pub record RightWords {K : Type 0} (o : Keys K) : Type 0 where
  pub some : (k : K) (v : ℕ) → o.ok k → 0 < o.word k v
  pub grow : (j k : K) (v : ℕ) → o.ok j → o.ok k → o.lt j k ≡ false → o.word j v ≤ o.word k v
  pub below : (j : K) (u : ℕ) (k : K) (v : ℕ) → o.ok j → o.ok k → u < 1024 → v < 1024 → o.lt j k ≡ true → o.word k v < o.word j u
  pub tie : (j : K) (u : ℕ) (k : K) (v : ℕ) → o.ok j → o.ok k → u < 1024 → v < 1024 → o.lt j k ≡ false → o.lt k j ≡ false
      → o.word j u ≤ o.word k v → (o.word j u ≡ o.word k v → v ≤ u) → v ≤ u

-- each word that is not 0 is its index's with some key
pub record Worded {K : Type 0} (o : Keys K) (words : List ℕ) : Type 0 where
  pub key : (v : ℕ) → 0 < get_or words v 0 → K
  pub is : (v : ℕ) (h : 0 < get_or words v 0) → get_or words v 0 ≡ o.word (key v h) v
