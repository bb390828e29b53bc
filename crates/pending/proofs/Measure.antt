-- For an engine whose keys have a heuristic: one number that every turn lowers, where no distance is above a bound M.
-- An index without a distance weighs more than any with one, so the two measures of `Falls` are one number.
use mathlib.Core.Path.{refl, subst}
use mathlib.Core.Bool.{true, false}
use mathlib.Core.Logic.{inl, inr}
use mathlib.Core.List.{List, [], ◌∷◌}
use mathlib.Core.Option.{Option}
use Prim.Native.Nat.{ℕ, zero, suc, ◌+◌, ◌*◌, ◌<◌, ◌≤◌}
use native.Mathlib.Omega.{arith}
use lib.ListN.{length}
use lib.IntN.{ℤ}
use Rattle.whole.specs.Zed.{P}
use Rattle.walks.specs.Pigeon.{In, here, there}
use Rattle.pending.specs.OnePlace.{Cell, out, has, Next}
use Rattle.pending.specs.Ints.{whole}
use Rattle.pending.proofs.Whole.{Has, Inv}
use Rattle.pending.proofs.Falls.{without, weight, over, Lower, Less, at_one, at_own}

-- an index without a distance weighs more than any with one
abbrev pub load : ℕ → Cell ℤ → ℕ
load M c = without c * (2 * M + 2) + weight c

module _ (M : ℕ) where
  -- a cell whose distance is at most M
  under : (c : Cell ℤ) → ((d : ℤ) (p : Option ℕ) → Has c d p → P d ≤ M) → weight c ≤ suc (2 * M)
  under out f = omega arith
  under (has d p true) f = let k : P d ≤ M = f d p (record { flag = true; is = refl }) in omega arith
  under (has d p false) f = let k : P d ≤ M = f d p (record { flag = false; is = refl }) in omega arith

  -- no index weighs more than one without a distance
  load_most : (c : Cell ℤ) → ((d : ℤ) (p : Option ℕ) → Has c d p → P d ≤ M) → load M c ≤ 2 * M + 2
  load_most out f = omega arith
  load_most (has d p b) f = omega (arith, under (has d p b) f)

  -- so the load of the indices is bounded by their number
  pub over_most : (s : ℕ → Cell ℤ) → ((v : ℕ) (d : ℤ) (p : Option ℕ) → Has (s v) d p → P d ≤ M) → (l : List ℕ) → over (load M) s l ≤ length l * (2 * M + 2)
  over_most s f [] = omega arith
  over_most s f (v ∷ l) = omega (arith, load_most (s v) (f v), over_most s f l)

  -- the two measures of `Falls`, as one
  one_lower : (a b x y : ℕ) → x ≤ suc (2 * M) → Lower a b x y → a * (2 * M + 2) + x ≤ b * (2 * M + 2) + y
  one_lower a b x y o (inl i) = more a b i
    where
      more : (a b : ℕ) → a < b → a * (2 * M + 2) + x ≤ b * (2 * M + 2) + y
      more a (suc b) i = let k : a * (2 * M + 2) ≤ b * (2 * M + 2) = native.Mathlib.Nat.mul-le-mul_right (2 * M + 2) (let j : a ≤ b = omega arith in j) in omega arith
      more a zero i = absurd (omega arith)
  one_lower a b x y o (inr i) = let k = i.1 in subst (λ (z : ℕ). a * (2 * M + 2) + x ≤ z * (2 * M + 2) + y) i.0 (omega arith)

  -- and where it falls
  one_less : (a b x y : ℕ) → x ≤ suc (2 * M) → Less a b x y → a * (2 * M + 2) + x < b * (2 * M + 2) + y
  one_less a b x y o (inl i) = more a b i
    where
      more : (a b : ℕ) → a < b → a * (2 * M + 2) + x < b * (2 * M + 2) + y
      more a (suc b) i = let k : a * (2 * M + 2) ≤ b * (2 * M + 2) = native.Mathlib.Nat.mul-le-mul_right (2 * M + 2) (let j : a ≤ b = omega arith in j) in omega arith
      more a zero i = absurd (omega arith)
  one_less a b x y o (inr i) = let k = i.1 in subst (λ (z : ℕ). a * (2 * M + 2) + x < z * (2 * M + 2) + y) i.0 (omega arith)

  module _ (key : ℤ → ℕ → ℤ) (target : Option ℕ) (o : ℕ) (Arc : ℕ → ℕ → ℤ → Type 0) {s t : ℕ → Cell ℤ} (h : Inv key target o Arc s) (w : Next (whole key target o) Arc s t)
      (bounded : (v : ℕ) (d : ℤ) (p : Option ℕ) → Has (t v) d p → P d ≤ M) where
    -- one index
    at : (v : ℕ) → load M (t v) ≤ load M (s v)
    at v = one_lower (without (t v)) (without (s v)) (weight (t v)) (weight (s v)) (under (t v) (bounded v)) (at_one key target o Arc h w v)

    -- over a list
    all : (l : List ℕ) → over (load M) t l ≤ over (load M) s l
    all [] = omega arith
    all (v ∷ l) = let a = at v in let b = all l in omega arith

    -- every turn lowers the load of the indices
    pub load_falls : (l : List ℕ) → In w.u l → over (load M) t l < over (load M) s l
    load_falls (v ∷ l) (here e) =
        let a : load M (t v) < load M (s v) = subst (λ (x : ℕ). load M (t x) < load M (s x)) e
        (one_less (without (t w.u)) (without (s w.u)) (weight (t w.u)) (weight (s w.u)) (under (t w.u) (bounded w.u)) (at_own key target o Arc h w)) in
        let b = all l in
        omega arith
    load_falls (v ∷ l) (there i) = let a = at v in let b = load_falls l i in omega arith
    load_falls [] x' = elim x' [ ]
