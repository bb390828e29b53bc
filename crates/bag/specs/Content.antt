-- What a bag holds: for each index a key, or none.
use Rattle.std.specs.Prelude.{◌≡◌, Bool, false, List, [], ◌∷◌, ℕ, zero, suc, get_or}
use Rattle.std.proofs.Math.Option.{Option, none, some}
use Rattle.bag.specs.Order.{before}

-- a key, unless the place is 0
abbrev pub entry : {K : Type 0} → ℕ → K → Option K
entry zero k = none
entry (suc p) k = some k

-- the content that words and keys stand for; the two lists are equally long
unfoldable pub content_of : {K : Type 0} → List ℕ → List K → List (Option K)
content_of [] ks = []
content_of (p ∷ ps) [] = []
content_of (p ∷ ps) (k ∷ ks) = entry p k ∷ content_of ps ks

-- how many indices have a place
unfoldable pub held : List ℕ → ℕ
held [] = 0
held (zero ∷ ps) = held ps
held (suc p ∷ ps) = suc (held ps)

-- (k, v) is the least pair of the content: it is held, and no pair that is held stands before it
pub record IsLeast {K : Type 0} (lt : K → K → Bool) (content : List (Option K)) (k : K) (v : ℕ) : Type 0 where
  pub found : get_or content v none ≡ some k
  pub least : (j : K) (u : ℕ) → get_or content u none ≡ some j → before lt j u k v ≡ false
