-- Which of two pending pairs is taken first: the smaller key first, and of equal keys the smaller index.
use Rattle.std.specs.Prelude.{◌≡◌, Bool, true, false, ℕ, ltb}

-- if t then a else b
abbrev pub pick : {X : Type 0} → Bool → X → X → X
pick true a b = a
pick false a b = b

-- (k, i) stands before (l, j): the smaller key first, and of equal keys the smaller index
unfoldable pub before : {K : Type 0} → (K → K → Bool) → K → ℕ → K → ℕ → Bool
before lt k i l j = pick (lt k l) true (pick (lt l k) false (ltb i j))

-- lt is an order of the good keys: not both ways round, passed on where it fails, and where it fails both ways the keys are one
pub record IsOrder {K : Type 0} (lt : K → K → Bool) (ok : K → Type 0) : Type 0 where
  pub asym : (a b : K) → ok a → ok b → lt a b ≡ true → lt b a ≡ false
  pub neg : (a b c : K) → ok a → ok b → ok c → lt a b ≡ false → lt b c ≡ false → lt a c ≡ false
  pub same : (a b : K) → ok a → ok b → lt a b ≡ false → lt b a ≡ false → a ≡ b
