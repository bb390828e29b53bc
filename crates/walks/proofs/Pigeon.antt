-- Pigeonhole: a list without repeats, all of whose members are in ps, is no longer than ps.
-- By induction: the first member stands somewhere in ps; with it deleted there, ps is one shorter and still has all the others.
use mathlib.Core.Path.{◌≡◌, refl, sym, ap, ◌∙◌, subst}
use mathlib.Core.List.{List, [], ◌∷◌}
use mathlib.Core.Logic.{◌⊎◌, inl, inr}
use Prim.Native.Nat.{ℕ, suc, ◌≤◌}
use native.Mathlib.Omega.{arith}
use native.Mathlib.Decide.{ℕ_discrete}
use lib.ListN.{length}
use Rattle.walks.specs.Pigeon.{In, here, there, NoDup}

-- membership is decided
pub in? : (x : ℕ) (l : List ℕ) → In x l ⊎ (In x l → ⊥)
in? x [] = inr (elim [ ])
in? x (y ∷ l) = go (ℕ_discrete x y) (in? x l)
  where
    miss : (x ≡ y → ⊥) → (In x l → ⊥) → In x (y ∷ l) → ⊥
    miss f g (here e) = f e
    miss f g (there i) = g i

    go : Dec (x ≡ y) → In x l ⊎ (In x l → ⊥) → In x (y ∷ l) ⊎ (In x (y ∷ l) → ⊥)
    go (yes e) r = inl (here e)
    go (no f) (inl i) = inl (there i)
    go (no f) (inr g) = inr (miss f g)

-- the list without that member
del : {x : ℕ} {l : List ℕ} → In x l → List ℕ
del (here {y} {l} e) = l
del (there {y} {l} i) = y ∷ del i

-- it is one shorter
del_length : {x : ℕ} {l : List ℕ} (i : In x l) → length l ≡ suc (length (del i))
unfolding del
del_length (here e) = refl
del_length (there i) = ap suc (del_length i)

-- and has every other member
del_in : {x y : ℕ} {l : List ℕ} (i : In x l) → In y l → (y ≡ x → ⊥) → In y (del i)
unfolding del
del_in (here e) (here q) f = absurd (f (q ∙ sym e))
del_in (here e) (there j) f = j
del_in (there i) (here q) f = here q
del_in (there i) (there j) f = there (del_in i j f)

-- no longer than what holds all its members
pub short : (l ps : List ℕ) → NoDup l → ((x : ℕ) → In x l → In x ps) → length l ≤ length ps
short [] ps n f = omega arith
short (x ∷ l) ps n f =
    let i : In x ps = f x (here refl) in
    let h : length l ≤ length (del i) = short l (del i) n.1 (λ y j. del_in i (f y (there j)) (λ e. n.0 (subst (λ z. In z l) e j))) in
    omega (arith, del_length i)
