-- Rounds on a matrix, as numbers alone: the triangle rule, and that entries stay small.
-- While no diagonal entry is below zero, round k leaves row k and column k. So, by induction on the rounds, the triangle rule holds through each index whose
-- round is done. An entry that fell is no less than an entry of its row plus what stood there for the last step; the triangle rule back to the diagonal bounds
-- that entry from below. So entries stay within twice the bound of those at the start, and no sum overflows: no count of steps is needed.
-- Assumes nothing.
use mathlib.Core.Path.{◌≡◌, refl, ap, ◌∙◌}
use mathlib.Core.Bool.{Bool, true, false}
use mathlib.Core.Logic.{◌⊎◌, inl, inr}
use Prim.Native.Nat.{ℕ, zero, suc, ◌+◌, ◌≤◌, ◌<◌}
use native.Mathlib.Decide.{ℕ_discrete}
use native.Mathlib.Omega.{arith}
use lib.IntN.{ℤ, pos}
use lib.Signed.{lt_z, ◌≤ℤ◌, ◌<ℤ◌}
use Rattle.whole.specs.Zed.{◌⊕◌, P, N, zed, sum, Within, within_of}
use Rattle.floyd_warshall.specs.Rounds.{pick_z, lesser, after, Diagonal}

-- which of the two it is
abbrev pub Choice : ℤ → ℤ → Type 0
Choice a b = ((lesser a b ≡ a) × (a ≤ℤ b)) ⊎ ((lesser a b ≡ b) × (b <ℤ a))

pub lesser_is : (a b : ℤ) → Choice a b
unfolding lesser
lesser_is a b = go (lt_z b a) refl
  where
    go : (t : Bool) → lt_z b a ≡ t → ((pick_z t b a ≡ a) × (a ≤ℤ b)) ⊎ ((pick_z t b a ≡ b) × (b <ℤ a))
    go true e = inr (refl, omega (arith, zed))
    go false e = inl (refl, omega (arith, zed))

pub lesser_left : (a b : ℤ) → lesser a b ≤ℤ a
lesser_left a b = go (lesser_is a b)
  where
    go : Choice a b → lesser a b ≤ℤ a
    go (inl e) = let f = e.0 in omega (arith, zed)
    go (inr e) = let f = e.0 in let h : b <ℤ a = e.1 in omega (arith, zed)

pub lesser_right : (a b : ℤ) → lesser a b ≤ℤ b
lesser_right a b = go (lesser_is a b)
  where
    go : Choice a b → lesser a b ≤ℤ b
    go (inl e) = let f = e.0 in let h : a ≤ℤ b = e.1 in omega (arith, zed)
    go (inr e) = let f = e.0 in omega (arith, zed)

pub lesser_first : (a b : ℤ) → a ≤ℤ b → lesser a b ≡ a
lesser_first a b h = go (lesser_is a b)
  where
    go : Choice a b → lesser a b ≡ a
    go (inl e) = e.0
    go (inr e) = absurd (let l : b <ℤ a = e.1 in omega (arith, zed))

module _ (A : ℕ → ℕ → ℤ) where
  -- an entry after one round more
  pub one_more : (k u v : ℕ) → after A (suc k) u v ≡ lesser (after A k u v) (after A k u k ⊕ after A k k v)
  unfolding after
  one_more k u v = refl

  -- a round takes no entry up
  pub falls : (k u v : ℕ) → after A (suc k) u v ≤ℤ after A k u v
  unfolding after
  falls k u v = lesser_left (after A k u v) (after A k u k ⊕ after A k k v)

  -- nor above the sum through k
  pub through : (k u v : ℕ) → after A (suc k) u v ≤ℤ after A k u k ⊕ after A k k v
  unfolding after
  through k u v = lesser_right (after A k u v) (after A k u k ⊕ after A k k v)

  -- no entry is above what stood there first
  pub below_first : (k u v : ℕ) → after A k u v ≤ℤ A u v
  unfolding after
  below_first zero u v = omega (arith, zed)
  below_first (suc k) u v =
      let h : after A k u v ≤ℤ A u v = below_first k u v in
      let f : after A (suc k) u v ≤ℤ after A k u v = falls k u v in
      omega (arith, zed)

  -- round k leaves row k and column k
  pub kept_row : (k v : ℕ) → pos 0 ≤ℤ after A k k k → after A (suc k) k v ≡ after A k k v
  unfolding after
  kept_row k v h = lesser_first (after A k k v) (after A k k k ⊕ after A k k v) (omega (arith, zed, sum (after A k k k) (after A k k v)))

  pub kept_column : (k u : ℕ) → pos 0 ≤ℤ after A k k k → after A (suc k) u k ≡ after A k u k
  unfolding after
  kept_column k u h = lesser_first (after A k u k) (after A k u k ⊕ after A k k k) (omega (arith, zed, sum (after A k u k) (after A k k k)))

  -- the triangle rule through each index whose round is done
  triangle_more : (k : ℕ) → pos 0 ≤ℤ after A k k k → ((u v x : ℕ) → x < k → after A k u v ≤ℤ after A k u x ⊕ after A k x v) → (u v x : ℕ) → x < suc k
      → after A (suc k) u v ≤ℤ after A (suc k) u x ⊕ after A (suc k) x v
  triangle_more k up part u v x h = at (ℕ_discrete x k)
    where
      go : x < k → Choice (after A k u x) (after A k u k ⊕ after A k k x) →
          Choice (after A k x v) (after A k x k ⊕ after A k k v) →
          after A (suc k) u v ≤ℤ after A (suc k) u x ⊕ after A (suc k) x v
      go i (inl e) (inl f) =
          let a : after A (suc k) u x ≡ after A k u x = one_more k u x ∙ e.0 in
          let b : after A (suc k) x v ≡ after A k x v = one_more k x v ∙ f.0 in
          let w : after A k u v ≤ℤ after A k u x ⊕ after A k x v = part u v x i in
          let z : after A (suc k) u v ≤ℤ after A k u v = falls k u v in
          omega (arith, zed, sum (after A (suc k) u x) (after A (suc k) x v), sum (after A k u x) (after A k x v))
      go i (inl e) (inr f) =
          let a : after A (suc k) u x ≡ after A k u x = one_more k u x ∙ e.0 in
          let b : after A (suc k) x v ≡ after A k x k ⊕ after A k k v = one_more k x v ∙ f.0 in
          let w : after A k u k ≤ℤ after A k u x ⊕ after A k x k = part u k x i in
          let z : after A (suc k) u v ≤ℤ after A k u k ⊕ after A k k v = through k u v in
          omega (arith, zed, sum (after A (suc k) u x) (after A (suc k) x v), sum (after A k u x) (after A k x k), sum (after A k x k) (after A k k v), sum (after A k u k) (after A k k v))
      go i (inr e) (inl f) =
          let a : after A (suc k) u x ≡ after A k u k ⊕ after A k k x = one_more k u x ∙ e.0 in
          let b : after A (suc k) x v ≡ after A k x v = one_more k x v ∙ f.0 in
          let w : after A k k v ≤ℤ after A k k x ⊕ after A k x v = part k v x i in
          let z : after A (suc k) u v ≤ℤ after A k u k ⊕ after A k k v = through k u v in
          omega (arith, zed, sum (after A (suc k) u x) (after A (suc k) x v), sum (after A k k x) (after A k x v), sum (after A k u k) (after A k k x), sum (after A k u k) (after A k k v))
      go i (inr e) (inr f) =
          let a : after A (suc k) u x ≡ after A k u k ⊕ after A k k x = one_more k u x ∙ e.0 in
          let b : after A (suc k) x v ≡ after A k x k ⊕ after A k k v = one_more k x v ∙ f.0 in
          let w : after A k k k ≤ℤ after A k k x ⊕ after A k x k = part k k x i in
          let y = up in
          let z : after A (suc k) u v ≤ℤ after A k u k ⊕ after A k k v = through k u v in
          omega (
            arith,
            zed,
            sum (after A (suc k) u x) (after A (suc k) x v),
            sum (after A k k x) (after A k x k),
            sum (after A k u k) (after A k k x),
            sum (after A k x k) (after A k k v),
            sum (after A k u k) (after A k k v),
          )

      at : Dec (x ≡ k) → after A (suc k) u v ≤ℤ after A (suc k) u x ⊕ after A (suc k) x v
      at (yes e) =
          let a : after A (suc k) u x ≡ after A k u k = ap (after A (suc k) u) e ∙ kept_column k u up in
          let b : after A (suc k) x v ≡ after A k k v = ap (λ (y : ℕ). after A (suc k) y v) e ∙ kept_row k v up in
          let z : after A (suc k) u v ≤ℤ after A k u k ⊕ after A k k v = through k u v in
          omega (arith, zed, sum (after A (suc k) u x) (after A (suc k) x v), sum (after A k u k) (after A k k v))
      at (no n) = go (omega (arith, n)) (lesser_is _ _) (lesser_is _ _)

  pub triangle : (p k : ℕ) → k ≤ p → Diagonal A p k → (u v x : ℕ) → x < k → after A k u v ≤ℤ after A k u x ⊕ after A k x v
  triangle p zero l d u v x h = absurd (omega arith)
  triangle p (suc k) l d u v x h = triangle_more k (d k k (omega arith) (omega arith)) (triangle p k (omega arith) (λ h u i j. d h u (omega arith) j)) u v x h

  -- an entry is at least what stood there first, or the sum of an entry and what stood in the last step
  pub record Last (k u v : ℕ) : Type 0 where
    pub x : ℕ
    pub inner : x < k
    pub low : after A k u x ⊕ A x v ≤ℤ after A k u v

  pub last_step : (k u v : ℕ) → (A u v ≤ℤ after A k u v) ⊎ Last k u v
  unfolding after
  last_step zero u v = inl (omega (arith, zed))
  last_step (suc k) u v = go (lesser_is (after A k u v) (after A k u k ⊕ after A k k v)) (last_step k u v) (last_step k k v)
    where
      go : Choice (after A k u v) (after A k u k ⊕ after A k k v) →
          (A u v ≤ℤ after A k u v) ⊎ Last k u v → (A k v ≤ℤ after A k k v) ⊎ Last k k v → (A u v ≤ℤ lesser (after A k u v) (after A k u k ⊕ after A k k v)) ⊎ Last (suc k) u v
      go (inl e) (inl h) r = let f = e.0 in inl (omega (arith, zed))
      go (inl e) (inr h) r =
          let f : after A (suc k) u v ≡ after A k u v = one_more k u v ∙ e.0 in
          let g : after A k u h.x ⊕ A h.x v ≤ℤ after A k u v = h.low in
          let z : after A (suc k) u h.x ≤ℤ after A k u h.x = falls k u h.x in
          inr (record { x = h.x; inner = omega (arith, h.inner); low = omega (arith, zed, sum (after A k u h.x) (A h.x v), sum (after A (suc k) u h.x) (A h.x v)) })
      go (inr e) l (inl h) =
          let f : after A (suc k) u v ≡ after A k u k ⊕ after A k k v = one_more k u v ∙ e.0 in
          let z : after A (suc k) u k ≤ℤ after A k u k = falls k u k in
          inr (record { x = k; inner = omega arith; low = omega (arith, zed, sum (after A k u k) (after A k k v), sum (after A (suc k) u k) (A k v)) })
      go (inr e) l (inr h) =
          let f : after A (suc k) u v ≡ after A k u k ⊕ after A k k v = one_more k u v ∙ e.0 in
          let g : after A k k h.x ⊕ A h.x v ≤ℤ after A k k v = h.low in
          let z : after A (suc k) u h.x ≤ℤ after A k u k ⊕ after A k k h.x = through k u h.x in
          inr (record {
            x = h.x;
            inner = omega (arith, h.inner);
            low = omega (arith, zed, sum (after A k u k) (after A k k v), sum (after A k k h.x) (A h.x v), sum (after A k u k) (after A k k h.x), sum (after A (suc k) u h.x) (A h.x v));
          })

  -- while no diagonal entry is below zero, the entries stay within twice the bound of what stood there first
  pub stays_near : (p b k : ℕ) → k ≤ p → ((u v : ℕ) → u < p → v < p → Within b (A u v)) → Diagonal A p k → (u v : ℕ) → u < p → v < p → Within (b + b) (after A k u v)
  stays_near p b k l near d u v i j = go (last_step k u v)
    where
      top : (u v : ℕ) → u < p → v < p → P (after A k u v) ≤ b + N (after A k u v)
      top u v i j =
          let h : after A k u v ≤ℤ A u v = below_first k u v in
          omega (arith, zed, near u v i j)

      go : (A u v ≤ℤ after A k u v) ⊎ Last k u v → Within (b + b) (after A k u v)
      go (inl h) = within_of (b + b) (after A k u v) (omega (arith, top u v i j)) (omega (arith, zed, near u v i j))
      go (inr h) =
          let x = h.x in
          let q : x < p = omega (arith, h.inner) in
          let g : after A k u x ⊕ A x v ≤ℤ after A k u v = h.low in
          let w : after A k u u ≤ℤ after A k u x ⊕ after A k x u = triangle p k l d u u x h.inner in
          let z : pos 0 ≤ℤ after A k u u = d k u (omega arith) i in
          within_of (b + b) (after A k u v) (omega (arith, top u v i j)) (omega (arith, zed, top x u q i, near x v q j, sum (after A k u x) (A x v), sum (after A k u x) (after A k x u)))
