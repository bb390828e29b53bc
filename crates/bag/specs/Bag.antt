-- A sound bag, and what a key may be replaced by.
use Rattle.std.specs.Prelude.{◌≡◌, false, List, ℕ, ◌<◌, get_or, length}
use Rattle.std.proofs.Math.Option.{Option, none, some}
use Rattle.bag.specs.Keys.{Keys}
use Rattle.bag.specs.Content.{held}
use Rattle.bag.specs.Peaks.{Peaks}

-- the three lent lists stand for a bag of n pairs: each index that is pending has the word of its pair.
-- An engine hands this on, and looks at none of its fields
pub record Bag {K : Type 0} (o : Keys K) (peaks words : List ℕ) (keys : List K) (n : ℕ) : Type 0 where
  pub long : length keys ≡ length words
  pub many : n ≡ held words
  pub word : (v : ℕ) → 0 < get_or words v 0 → get_or words v 0 ≡ o.word (get_or keys v o.none) v
  pub okay : (v : ℕ) → 0 < get_or words v 0 → o.ok (get_or keys v o.none)
  pub shape : Peaks peaks words

-- k is not above the key that v has, if it has one
pub record NotAbove {K : Type 0} (o : Keys K) (content : List (Option K)) (v : ℕ) (k : K) : Type 0 where
  pub lower : (j : K) → get_or content v none ≡ some j → o.lt j k ≡ false
