-- The loop that fills a slice from the front: after i turns it is filled so far.
-- Assumes nothing.
use mathlib.Core.Path.{◌≡◌, refl, ap, ◌∙◌, subst}
use mathlib.Core.List.{List, ◌++◌}
use Prim.Native.Nat.{ℕ, ◌+◌, ◌≤◌, ◌<◌}
use native.Mathlib.Omega.{arith}
use lib.ListN.{length, set, length-set, drop, take, replicate}
use Rattle.std.proofs.lemmas.Grind.{common_steps}
use Rattle.clean.specs.Fill.{filled}
use Rattle.clean.proofs.Filled.{filled_none, filled_more}

-- what holds before each turn
pub record Filling {A : Type 0} (n : ℕ) (x : A) (l m : List A) (i : ℕ) : Type 0 where
  pub within : i ≤ n
  pub fits : n ≤ length l
  pub long : length m ≡ length l
  pub is : m ≡ filled i x l

module _ {A : Type 0} {n : ℕ} {x : A} {l : List A} where
  pub starts : n ≤ length l → Filling n x l l 0
  starts h = record { within = omega arith; fits = h; long = refl; is = filled_none x l }

  pub goes_on : {m : List A} {i : ℕ} → Filling n x l m i → i < n → Filling n x l (set m i x) (i + 1)
  goes_on {m} {i} f h = record { within = omega arith; fits = f.fits; long = length-set m i x ∙ f.long; is = filled_more i x l m (omega arith) f.is }

  pub ends : {m : List A} {i : ℕ} → Filling n x l m i → n ≤ i → m ≡ filled n x l
  ends {m} {i} f h = let e : i ≡ n = omega arith in f.is ∙ ap (λ (k : ℕ). filled k x l) e

-- the front filled whole, before the rest
pub over_front : {A : Type 0} (n : ℕ) (x : A) (l m : List A) → n ≤ length l → m ≡ filled (length (take n l)) x (take n l) → m ++ drop n l ≡ filled n x l
unfolding filled
over_front n x l m h e =
    let long : length (take n l) ≡ n = grind (arith, common_steps) in
    let is : m ≡ replicate n x ++ drop n (take n l) = subst (λ (k : ℕ). m ≡ replicate k x ++ drop k (take n l)) long e in
    grind (arith, common_steps, is)
