-- Rounds on the matrix of a map, where 2^50 stands for no arc: what an entry says of the walks.
-- An entry is the total of a walk, or it is no less than a gap: a walk, the large number, a walk; or there is a closed walk below zero. Two gaps joined are
-- one again, since the walk between them has one without repeats that is no dearer, and that cannot total near -2^50. So a diagonal entry below zero shows
-- a closed walk below zero. Where none is met, the triangle rule makes every entry a lower bound of the walks between its row and its column: an entry below
-- 2^49 is the least total, any other has no walk, and no closed walk totals below zero.
-- Assumes nothing.
use mathlib.Core.Path.{◌≡◌, refl, sym, ◌∙◌, subst}
use mathlib.Core.List.{List}
use mathlib.Core.Logic.{◌⊎◌, inl, inr}
use Prim.Native.Nat.{ℕ, zero, suc, ◌+◌, ◌*◌, ◌^◌, ◌≤◌, ◌<◌}
use native.Mathlib.Omega.{arith}
use lib.IntN.{ℤ, pos}
use lib.ListN.{length, get_or}
use lib.Signed.{◌≤ℤ◌, ◌<ℤ◌}
use Rattle.whole.specs.Zed.{◌⊕◌, P, N, zed, sum}
use Rattle.walks.specs.Pigeon.{In}
use Rattle.walks.specs.Walk.{Walk, stay, step, Least, Negative}
use Rattle.walks.proofs.Walk.{join}
use Rattle.walks.proofs.Cheap.{Cheap, cheap_or}
use Rattle.walks.specs.Costs.{Costs32}
use Rattle.floyd_warshall.specs.Rounds.{lesser, after, Diagonal}
use Rattle.floyd_warshall.proofs.Triangle.{Choice, lesser_is, triangle, below_first}

-- a walk from row i to x, and one from y to row j, with a step of 2^50 between
pub record Gap (Arc : ℕ → ℕ → ℤ → Type 0) (L : List ℕ) (i j : ℕ) (t : ℤ) : Type 0 where
  pub x : ℕ
  pub y : ℕ
  pub a : ℤ
  pub b : ℤ
  pub to : Walk Arc (get_or L i 0) x a
  pub from : Walk Arc y (get_or L j 0) b
  pub inside : In y L
  pub high : a ⊕ b ⊕ pos (2 ^ 50) ≤ℤ t

-- what an entry is
abbrev pub EntryMeans : (ℕ → ℕ → ℤ → Type 0) → List ℕ → ℕ → ℕ → ℤ → Type 0
EntryMeans Arc L i j t = Negative Arc ⊎ (Walk Arc (get_or L i 0) (get_or L j 0) t ⊎ Gap Arc L i j t)

-- what the matrix holds before the rounds
pub record Filled (Arc : ℕ → ℕ → ℤ → Type 0) (L : List ℕ) (A : ℕ → ℕ → ℤ) : Type 0 where
  pub diag : (i : ℕ) → i < length L → A i i ≤ℤ pos 0
  pub low : (i j v : ℕ) (c : ℤ) → i < length L → j < length L → get_or L j 0 ≡ v → Arc (get_or L i 0) v c → A i j ≤ℤ c
  pub real : (i j : ℕ) → i < length L → j < length L → (A i j ≡ pos (2 ^ 50)) ⊎ Walk Arc (get_or L i 0) (get_or L j 0) (A i j)

-- a map with at most 1024 rows L, with arcs between rows alone, and with costs in -2^31 ..= 2^31
pub record Rowed (Arc : ℕ → ℕ → ℤ → Type 0) (L : List ℕ) : Type 0 where
  pub few : length L ≤ 1024
  pub leave : (u v : ℕ) (c : ℤ) → Arc u v c → (i : ℕ) × (i < length L) × (get_or L i 0 ≡ u)
  pub lead : (u v : ℕ) (c : ℤ) → Arc u v c → (j : ℕ) × (j < length L) × (get_or L j 0 ≡ v)
  pub into : (u v : ℕ) (c : ℤ) → Arc u v c → In v L
  pub row : (i : ℕ) → i < length L → In (get_or L i 0) L
  pub one : (i j : ℕ) → i < length L → j < length L → get_or L i 0 ≡ get_or L j 0 → i ≡ j
  pub cost : Costs32 Arc

module _ {Arc : ℕ → ℕ → ℤ → Type 0} {L : List ℕ} (R : Rowed Arc L) where
  -- a walk that is no dearer, with a total in -2^41 ..= 2^41
  cheap : {u v : ℕ} {t : ℤ} → In u L → Walk Arc u v t → Negative Arc ⊎ Cheap Arc (length L * 2 ^ 31) u v t
  cheap i w = cheap_or L (2 ^ 31) R.into R.cost i w

  small : {u v : ℕ} {t : ℤ} → In u L → Walk Arc u v t → Negative Arc ⊎ (N t ≤ 2 ^ 41 + P t)
  small {u} {v} {t} i w = go (cheap i w)
    where
      go : Negative Arc ⊎ Cheap Arc (length L * 2 ^ 31) u v t → Negative Arc ⊎ (N t ≤ 2 ^ 41 + P t)
      go (inl n) = inl n
      go (inr c) = let h : c.s ≤ℤ t = c.cheap in inr (omega (arith, zed, c.near, R.few))

  -- two entries, added
  join_known : (i k j : ℕ) {s t : ℤ} → EntryMeans Arc L i k s → EntryMeans Arc L k j t → EntryMeans Arc L i j (s ⊕ t)
  join_known i k j (inl n) q = inl n
  join_known i k j (inr p) (inl n) = inl n
  join_known i k j (inr (inl w)) (inr (inl z)) = inr (inl (join w z refl))
  join_known i k j {s} {t} (inr (inl w)) (inr (inr g)) =
      let h : g.a ⊕ g.b ⊕ pos (2 ^ 50) ≤ℤ t = g.high in
      inr (inr (record {
        x = g.x;
        y = g.y;
        a = s ⊕ g.a;
        b = g.b;
        to = join w g.to refl;
        from = g.from;
        inside = g.inside;
        high = omega (arith, zed, sum s t, sum s g.a, sum (s ⊕ g.a) g.b, sum (s ⊕ g.a ⊕ g.b) (pos (2 ^ 50)), sum g.a g.b, sum (g.a ⊕ g.b) (pos (2 ^ 50)));
      }))
  join_known i k j {s} {t} (inr (inr g)) (inr (inl w)) =
      let h : g.a ⊕ g.b ⊕ pos (2 ^ 50) ≤ℤ s = g.high in
      inr (inr (record {
        x = g.x;
        y = g.y;
        a = g.a;
        b = g.b ⊕ t;
        to = g.to;
        from = join g.from w refl;
        inside = g.inside;
        high = omega (arith, zed, sum s t, sum g.b t, sum g.a (g.b ⊕ t), sum (g.a ⊕ (g.b ⊕ t)) (pos (2 ^ 50)), sum g.a g.b, sum (g.a ⊕ g.b) (pos (2 ^ 50)));
      }))
  join_known i k j {s} {t} (inr (inr g)) (inr (inr f)) = go (small g.inside (join g.from f.to refl))
    where
      go : Negative Arc ⊎ (N (g.b ⊕ f.a) ≤ 2 ^ 41 + P (g.b ⊕ f.a)) → EntryMeans Arc L i j (s ⊕ t)
      go (inl n) = inl n
      go (inr m) =
          let h : g.a ⊕ g.b ⊕ pos (2 ^ 50) ≤ℤ s = g.high in
          let e : f.a ⊕ f.b ⊕ pos (2 ^ 50) ≤ℤ t = f.high in
          inr (inr (record {
            x = g.x;
            y = f.y;
            a = g.a;
            b = f.b;
            to = g.to;
            from = f.from;
            inside = f.inside;
            high = omega (
              arith,
              zed,
              sum s t,
              sum g.b f.a,
              sum g.a f.b,
              sum (g.a ⊕ f.b) (pos (2 ^ 50)),
              sum g.a g.b,
              sum (g.a ⊕ g.b) (pos (2 ^ 50)),
              sum f.a f.b,
              sum (f.a ⊕ f.b) (pos (2 ^ 50)),
            );
          }))

  module _ {A : ℕ → ℕ → ℤ} (F : Filled Arc L A) where
    -- every entry, before the rounds
    first_known : (i j : ℕ) → i < length L → j < length L → EntryMeans Arc L i j (A i j)
    first_known i j h k = go (F.real i j h k)
      where
        go : (A i j ≡ pos (2 ^ 50)) ⊎ Walk Arc (get_or L i 0) (get_or L j 0) (A i j) → EntryMeans Arc L i j (A i j)
        go (inl e) = inr (inr (record {
          x = get_or L i 0;
          y = get_or L j 0;
          a = pos 0;
          b = pos 0;
          to = stay refl;
          from = stay refl;
          inside = R.row j k;
          high = omega (arith, zed, sum (pos 0) (pos 0), sum (pos 0 ⊕ pos 0) (pos (2 ^ 50)));
        }))
        go (inr w) = inr (inl w)

    -- and after k of them
    pub known : (k : ℕ) → k ≤ length L → (i j : ℕ) → i < length L → j < length L → EntryMeans Arc L i j (after A k i j)
    unfolding after
    known zero l i j p q = first_known i j p q
    known (suc k) l i j p q = go (known k (omega arith) i j p q) (known k (omega arith) i k p l) (known k (omega arith) k j l q) (lesser_is (after A k i j) (after A k i k ⊕ after A k k j))
      where
        go : EntryMeans Arc L i j (after A k i j) → EntryMeans Arc L i k (after A k i k) → EntryMeans Arc L k j (after A k k j)
            → Choice (after A k i j) (after A k i k ⊕ after A k k j)
            → EntryMeans Arc L i j (lesser (after A k i j) (after A k i k ⊕ after A k k j))
        go x y z (inl e) = subst (EntryMeans Arc L i j) (sym e.0) x
        go x y z (inr e) = subst (EntryMeans Arc L i j) (sym e.0) (join_known i k j y z)

    -- a diagonal entry below zero gives a closed walk below zero
    below_zero_lem : (i : ℕ) (t : ℤ) → EntryMeans Arc L i i t → t <ℤ pos 0 → Negative Arc
    below_zero_lem i t (inl n) h = n
    below_zero_lem i t (inr (inl w)) h = record { x = get_or L i 0; t = t; loop = w; below = h }
    below_zero_lem i t (inr (inr g)) h = go (small g.inside (join g.from g.to refl))
      where
        go : Negative Arc ⊎ (N (g.b ⊕ g.a) ≤ 2 ^ 41 + P (g.b ⊕ g.a)) → Negative Arc
        go (inl n) = n
        go (inr m) =
            let e : g.a ⊕ g.b ⊕ pos (2 ^ 50) ≤ℤ t = g.high in
            absurd (omega (arith, zed, sum g.b g.a, sum g.a g.b, sum (g.a ⊕ g.b) (pos (2 ^ 50))))

    pub refused : (k i : ℕ) → k ≤ length L → i < length L → after A k i i <ℤ pos 0 → Negative Arc
    refused k i l h = below_zero_lem i (after A k i i) (known k l i i h h)

    module _ (U : Diagonal A (length L) (length L)) where
      -- no walk totals below the entry
      pub along : {u v : ℕ} {t : ℤ} → Walk Arc u v t → (i : ℕ) → i < length L → get_or L i 0 ≡ u → (j : ℕ) × (j < length L) × (get_or L j 0 ≡ v) × (after A (length L) i j ≤ℤ t)
      along {t} (stay {u} e) i h f =
          let d : A i i ≤ℤ pos 0 = F.diag i h in
          let b : after A (length L) i i ≤ℤ A i i = below_first A (length L) i i in
          (i, h, f, omega (arith, zed))
      along {t = r} (step {u} {v} {w} {c} {t} a x e) i h f =
          let n = R.lead u v c a in
          let k = n.0 in
          let y = along x k n.1 n.2 in
          let j = y.0 in
          let l : A i k ≤ℤ c = F.low i k v c h n.1 n.2 (subst (λ (z : ℕ). Arc z v c) (sym f) a) in
          let b : after A (length L) i k ≤ℤ A i k = below_first A (length L) i k in
          let q : after A (length L) k j ≤ℤ t = y.3 in
          let s : after A (length L) i j ≤ℤ after A (length L) i k ⊕ after A (length L) k j = triangle A (length L) (length L) (omega arith) U i j k n.1 in
          (j, y.1, y.2, omega (arith, zed, sum c t, sum (after A (length L) i k) (after A (length L) k j)))

      -- no closed walk totals below zero
      closed : (x : ℕ) (t : ℤ) (i : ℕ) → i < length L → get_or L i 0 ≡ x → Walk Arc x x t → pos 0 ≤ℤ t
      closed x t i h f w =
          let y = along w i h f in
          let e : y.0 ≡ i = R.one y.0 i y.1 h (y.2 ∙ sym f) in
          let q : after A (length L) i i ≤ℤ t = subst (λ (j : ℕ). after A (length L) i j ≤ℤ t) e y.3 in
          let z : pos 0 ≤ℤ after A (length L) i i = U (length L) i (omega arith) h in
          omega (arith, zed)

      -- a walk with no arc totals 0, and any other begins in a row
      begins : {u v : ℕ} {t : ℤ} → Walk Arc u v t → (pos 0 ≤ℤ t) ⊎ ((i : ℕ) × (i < length L) × (get_or L i 0 ≡ u))
      begins {t} (stay e) = inl (omega (arith, zed))
      begins (step {u} {v} {w} {c} a x e) = inr (R.leave u v c a)

      no_negative : (x : ℕ) (t : ℤ) → Walk Arc x x t → pos 0 ≤ℤ t
      no_negative x t w = go (begins w)
        where
          go : (pos 0 ≤ℤ t) ⊎ ((i : ℕ) × (i < length L) × (get_or L i 0 ≡ x)) → pos 0 ≤ℤ t
          go (inl h) = h
          go (inr n) = closed x t n.0 n.1 n.2 w

      pub never : Negative Arc → ⊥
      never n = let h : pos 0 ≤ℤ n.t = no_negative n.x n.t n.loop in let b : n.t <ℤ pos 0 = n.below in omega (arith, zed)

      -- what an entry says of its row and column
      module _ (i j : ℕ) (h : i < length L) (k : j < length L) where
        at_most : (t : ℤ) → Walk Arc (get_or L i 0) (get_or L j 0) t → after A (length L) i j ≤ℤ t
        at_most t w = let y = along w i h refl in subst (λ (x : ℕ). after A (length L) i x ≤ℤ t) (R.one y.0 j y.1 k y.2) y.3

        pub near_entry : after A (length L) i j <ℤ pos (2 ^ 49) → Least Arc (get_or L i 0) (get_or L j 0) (after A (length L) i j)
        near_entry b = go (known (length L) (omega arith) i j h k)
          where
            far : (g : Gap Arc L i j (after A (length L) i j)) → Negative Arc ⊎ (N g.a ≤ 2 ^ 41 + P g.a) → Negative Arc ⊎ (N g.b ≤ 2 ^ 41 + P g.b) → ⊥
            far g (inl n) q = never n
            far g (inr p) (inl n) = never n
            far g (inr p) (inr q) = let e : g.a ⊕ g.b ⊕ pos (2 ^ 50) ≤ℤ after A (length L) i j = g.high in omega (arith, zed, sum g.a g.b, sum (g.a ⊕ g.b) (pos (2 ^ 50)))

            go : EntryMeans Arc L i j (after A (length L) i j) → Least Arc (get_or L i 0) (get_or L j 0) (after A (length L) i j)
            go (inl n) = absurd (never n)
            go (inr (inl w)) = record { walk = w; least = at_most }
            go (inr (inr g)) = absurd (far g (small (R.row i h) g.to) (small g.inside g.from))

        pub far_entry : pos (2 ^ 49) ≤ℤ after A (length L) i j → (t : ℤ) → Walk Arc (get_or L i 0) (get_or L j 0) t → ⊥
        far_entry b t w = go (cheap (R.row i h) w)
          where
            go : Negative Arc ⊎ Cheap Arc (length L * 2 ^ 31) (get_or L i 0) (get_or L j 0) t → ⊥
            go (inl n) = never n
            go (inr c) = let e : after A (length L) i j ≤ℤ c.s = at_most c.s c.walk in omega (arith, zed, c.near, R.few)
