-- A step of the reading as a function sees it that holds some of the tables only: the others may hold anything, and stay.
-- Assumes nothing.
use Rattle.std.specs.Prelude.{◌≡◌, List, ℕ, ℤ}
use Rattle.mapfile.specs.Load.{State, state_of}
use Rattle.mapfile.specs.declared.Reading.{Reading}

-- what a step makes of the reading and the marks
abbrev pub OnMarks : (State → State) → Reading → List ℕ → Reading → List ℕ → Type 0
OnMarks step w ms w' ms' =
    (xs ys : List ℕ) (cs : List ℤ) (bs os : List ℕ) → state_of w' ms' xs ys cs bs os ≡ step (state_of w ms xs ys cs bs os)

-- of the reading and the tables of an integer map
abbrev pub OnInts : (State → State) → List ℕ → Reading → List ℕ → List ℕ → List ℤ → Reading → List ℕ → List ℕ → List ℤ → Type 0
OnInts step ms w xs ys cs w' xs' ys' cs' = (bs os : List ℕ) → state_of w' ms xs' ys' cs' bs os ≡ step (state_of w ms xs ys cs bs os)

-- of the reading and the tables of an f64 map
abbrev pub OnFloats : (State → State) → List ℕ → Reading → List ℕ → List ℕ → List ℕ → List ℕ → Reading → List ℕ → List ℕ → List ℕ → List ℕ
    → Type 0
OnFloats step ms w xs ys bs os w' xs' ys' bs' os' = (cs : List ℤ) → state_of w' ms xs' ys' cs bs' os' ≡ step (state_of w ms xs ys cs bs os)
