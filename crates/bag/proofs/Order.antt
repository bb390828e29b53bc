-- The order of keys, and of pending pairs: key first, then index. Once for every kind of key. Assumes nothing.
use mathlib.Core.Path.{◌≡◌, refl, sym, ap, ◌∙◌}
use mathlib.Core.Bool.{Bool, true, false, true≢false}
use Prim.Native.Nat.{ℕ, ◌≤◌}
use native.Mathlib.Omega.{arith}
use lib.Dec.{ltb}
use borrow.Author.Tests.{ltb-true, ltb-false, le-ltb}
use Rattle.whole.proofs.Cases.{clash}
use Rattle.bag.specs.Order.{pick, before, IsOrder}

module _ {K : Type 0} (lt : K → K → Bool) where
  -- what it is not to stand before, whatever the test of keys is: the other key is no greater, and where the keys tie neither is its index
  pub later_tells : (k : K) (i : ℕ) (l : K) (j : ℕ) → before lt k i l j ≡ false → (lt k l ≡ false) × (lt l k ≡ false → j ≤ i)
  unfolding before
  later_tells k i l j e = go (lt k l) refl (lt l k) refl e
    where
      go : (s : Bool) → lt k l ≡ s → (t : Bool) → lt l k ≡ t → pick s true (pick t false (ltb i j)) ≡ false → (lt k l ≡ false) × (lt l k ≡ false → j ≤ i)
      go true p t q f = absurd (true≢false f)
      go false p true q f = (p, λ g. absurd (true≢false (sym q ∙ g)))
      go false p false q f = (p, λ g. ltb-false i j f)

  -- and when it is so
  pub is_later : (k : K) (i : ℕ) (l : K) (j : ℕ) → lt k l ≡ false → (lt l k ≡ false → j ≤ i) → before lt k i l j ≡ false
  unfolding before
  is_later k i l j e f = ap (λ (t : Bool). pick t true (pick (lt l k) false (ltb i j))) e ∙ go (lt l k) refl
    where
      go : (t : Bool) → lt l k ≡ t → pick t false (ltb i j) ≡ false
      go true p = refl
      go false p = le-ltb i j (f p)

module _ {K : Type 0} {lt : K → K → Bool} {ok : K → Type 0} (O : IsOrder lt ok) where
  -- no key is below itself
  pub self : (a : K) → ok a → lt a a ≡ false
  self a o = go (lt a a) refl
    where
      go : (t : Bool) → lt a a ≡ t → lt a a ≡ false
      go false e = e
      go true e = O.asym a a o o e

  -- a < b ≤ c
  pub below_le : (a b c : K) → ok a → ok b → ok c → lt a b ≡ true → lt c b ≡ false → lt a c ≡ true
  below_le a b c x y z e f = go (lt a c) refl
    where
      go : (t : Bool) → lt a c ≡ t → lt a c ≡ true
      go true g = g
      go false g = absurd (clash e (O.neg a c b x z y g f))

  -- a < b < c
  pub below_below : (a b c : K) → ok a → ok b → ok c → lt a b ≡ true → lt b c ≡ true → lt a c ≡ true
  below_below a b c x y z e f = below_le a b c x y z e (O.asym b c y z f)

  -- ---- pairs
  -- the same of an order, and with it
  pub not_before : (k : K) (i : ℕ) (l : K) (j : ℕ) → before lt k i l j ≡ false → (lt k l ≡ false) × (lt l k ≡ false → j ≤ i)
  not_before = later_tells lt

  pub is_not_before : (k : K) (i : ℕ) (l : K) (j : ℕ) → lt k l ≡ false → (lt l k ≡ false → j ≤ i) → before lt k i l j ≡ false
  is_not_before = is_later lt

  -- one of the two stands first
  pub before_or : (k : K) (i : ℕ) (l : K) (j : ℕ) → ok k → ok l → before lt k i l j ≡ true → before lt l j k i ≡ false
  unfolding before
  before_or k i l j x y e = go (lt k l) refl (lt l k) refl e
    where
      go : (s : Bool) → lt k l ≡ s → (t : Bool) → lt l k ≡ t → pick s true (pick t false (ltb i j)) ≡ true → before lt l j k i ≡ false
      go true p t q f = is_later lt l j k i (O.asym k l x y p) (λ g. absurd (true≢false (sym p ∙ g)))
      go false p true q f = absurd (true≢false (sym f))
      go false p false q f = is_later lt l j k i q (λ g. omega (arith, ltb-true i j f))

  -- it is passed on where it fails
  pub before_neg : (k : K) (i : ℕ) (l : K) (j : ℕ) (m : K) (h : ℕ) → ok k → ok l → ok m → before lt k i l j ≡ false → before lt l j m h ≡ false → before lt k i m h ≡ false
  before_neg k i l j m h x y z e f =
      let p = later_tells lt k i l j e in
      let q = later_tells lt l j m h f in
      is_later lt k i m h (O.neg k l m x y z p.0 q.0)
      (λ g. let a : j ≤ i = p.1 (O.neg l m k y z x q.0 g) in let b : h ≤ j = q.1 (O.neg m k l z x y g p.0) in omega arith)

  -- where it fails both ways the pairs are one
  pub before_same : (k : K) (i : ℕ) (l : K) (j : ℕ) → ok k → ok l → before lt k i l j ≡ false → before lt l j k i ≡ false → (k ≡ l) × (i ≡ j)
  before_same k i l j x y e f =
      let p = not_before k i l j e in
      let q = not_before l j k i f in
      let a : j ≤ i = p.1 q.0 in
      let b : i ≤ j = q.1 p.0 in
      (O.same k l x y p.0 q.0, omega arith)
