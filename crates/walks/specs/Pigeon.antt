-- Members of a list of indices, and lists without repeats.
use Rattle.std.specs.Prelude.{◌≡◌, List, [], ◌∷◌, ℕ}

-- x is a member
pub data In (x : ℕ) : List ℕ → Type 0 where
  here : {y : ℕ} {l : List ℕ} → x ≡ y → In x (y ∷ l)
  there : {y : ℕ} {l : List ℕ} → In x l → In x (y ∷ l)

-- no member twice
abbrev pub NoDup : List ℕ → Type 0
NoDup [] = Unit {0}
NoDup (x ∷ l) = (In x l → ⊥) × NoDup l
