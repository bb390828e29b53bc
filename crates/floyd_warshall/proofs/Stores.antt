-- Loops that store one value after another: the diagonal set to zero, entries shown, a block lowered, links poured.
-- Of each a record says what holds after so many stores. None of it is there before the first; one more store goes one place further and leaves the rest as it was;
-- after the last the whole is done. A store keeps the length of its list, so that every place stays inside.
-- Assumes nothing.
use mathlib.Core.Path.{◌≡◌, refl, sym, ap, ◌∙◌, subst}
use mathlib.Core.Bool.{Bool}
use mathlib.Core.List.{List}
use Prim.Native.Nat.{ℕ, ◌+◌, ◌*◌, ◌^◌, ◌≤◌, ◌<◌}
use native.Mathlib.Decide.{ℕ_discrete}
use native.Mathlib.Numerals.{add-one}
use native.Mathlib.Omega.{arith}
use lib.IntN.{ℤ, pos}
use lib.ListN.{length, get_or, set, drop, length-set}
use Rattle.clean.specs.Fill.{filled}
use Rattle.clean.proofs.Filled.{filled_length, filled_at}
use Rattle.matrix.proofs.Matrix.{place_in}
use Rattle.floyd_warshall.specs.Rounds.{lesser, cell, lower_at, block}
use Rattle.table.specs.Links.{Link, links}
use Rattle.whole.specs.Zed.{◌⊕◌, Cost32}
use Rattle.floyd_warshall.specs.Filling.{Square, shown, linked, poured, Costs32Below}
use Rattle.floyd_warshall.proofs.Poured.{next_link}
use Rattle.floyd_warshall.proofs.Cells.{cell_same, cell_row, cell_column}

-- the diagonal set to zero below i
pub record Starting (p i : ℕ) (l : List ℤ) : Type 0 where
  pub square : Square p l
  pub within : i ≤ p
  pub zeroed : (u : ℕ) → u < i → cell p l u u ≡ pos 0
  pub far : (u v : ℕ) → u < p → v < p → (u ≡ v → ⊥) → cell p l u v ≡ pos (2 ^ 50)

pub starting_first : (p : ℕ) (l l' : List ℤ) → Square p l → l' ≡ filled (p * p) (pos (2 ^ 50)) l → Starting p 0 l'
starting_first p l l' s e =
    record {
      square = record { few = s.few; size = ap length e ∙ (filled_length (p * p) (pos (2 ^ 50)) l (omega (arith, s.size)) ∙ s.size) };
      within = omega arith;
      zeroed = λ u h. absurd (omega arith);
      far = λ u v h k n. ap (λ (t : List ℤ). cell p t u v) e ∙ filled_at (p * p) (pos (2 ^ 50)) (pos 0) l (u * p + v) (place_in p u v h k);
    }

pub starting_more : (p i : ℕ) (l : List ℤ) → i < p → Starting p i l → Starting p (i + 1) (set l (i * p + i) (pos 0))
starting_more p i l h r =
    record {
      square = record { few = r.square.few; size = length-set l (i * p + i) (pos 0) ∙ r.square.size };
      within = omega arith;
      zeroed = λ u k. go u (ℕ_discrete u i) k;
      far = λ u v k j n. off u v k j n (ℕ_discrete u i);
    }
  where
    go : (u : ℕ) → Dec (u ≡ i) → u < i + 1 → cell p (set l (i * p + i) (pos 0)) u u ≡ pos 0
    go u (yes e) k = subst (λ (x : ℕ). cell p (set l (i * p + i) (pos 0)) x x ≡ pos 0) (sym e) (cell_same p l i i (pos 0) r.square.size h h)
    go u (no e) k = cell_row p l i i u u (pos 0) h (omega arith) e ∙ r.zeroed u (omega (arith, e))

    off : (u v : ℕ) → u < p → v < p → (u ≡ v → ⊥) → Dec (u ≡ i) → cell p (set l (i * p + i) (pos 0)) u v ≡ pos (2 ^ 50)
    off u v k j n (yes e) =
        subst (λ (x : ℕ). cell p (set l (i * p + i) (pos 0)) x v ≡ pos (2 ^ 50)) (sym e)
        (cell_column p l i i v (pos 0) (λ f. n (e ∙ sym f)) ∙ subst (λ (x : ℕ). cell p l x v ≡ pos (2 ^ 50)) e (r.far u v k j n))
    off u v k j n (no e) = cell_row p l i i u v (pos 0) h j e ∙ r.far u v k j n

-- shown below x
pub record Showing (l₀ : List ℤ) (x : ℕ) (l : List ℤ) : Type 0 where
  pub within : x ≤ length l₀
  pub size : length l ≡ length l₀
  pub at : (y : ℕ) → y < x → get_or l y (pos 0) ≡ shown (get_or l₀ y (pos 0))
  pub rest : (y : ℕ) → x ≤ y → get_or l y (pos 0) ≡ get_or l₀ y (pos 0)

-- the first x entries of a block lowered
pub record Lowering (at by : ℕ) (a : ℤ) (n : ℕ) (l₀ : List ℤ) (x : ℕ) (l : List ℤ) : Type 0 where
  pub within : x ≤ n
  pub size : length l ≡ length l₀
  pub same : l ≡ block at by a x l₀

module _ {at by : ℕ} {a : ℤ} {n : ℕ} {l₀ : List ℤ} where
  pub lowering_first : Lowering at by a n l₀ 0 l₀
  unfolding block
  lowering_first = record { within = omega arith; size = refl; same = refl }

  module _ {x : ℕ} {l : List ℤ} (r : Lowering at by a n l₀ x l) where
    pub lowering_more : {z : ℤ} → x < n → z ≡ lesser (get_or l (at + x) (pos 0)) (a ⊕ get_or l (by + x) (pos 0)) → Lowering at by a n l₀ (x + 1) (set l (at + x) z)
    unfolding block
    lowering_more {z} h e = rw (add-one x) (record { within = h; size = length-set l (at + x) z ∙ r.size; same = ap (set l (at + x)) e ∙ ap (lower_at at by a x) r.same })

-- the links below e poured
pub record Pouring (d : Bool) (p : ℕ) (r : List ℕ) (n : ℕ) (xs ys : List ℕ) (cs l₀ : List ℤ) (e : ℕ) (l : List ℤ) : Type 0 where
  pub within : e ≤ n
  pub fits : Costs32Below cs e
  pub size : length l ≡ length l₀
  pub same : poured d p r (drop e (links n xs ys cs)) l ≡ poured d p r (links n xs ys cs) l₀

module _ {d : Bool} {p : ℕ} {r : List ℕ} {n : ℕ} {xs ys : List ℕ} {cs l₀ : List ℤ} {e : ℕ} {l : List ℤ} (q : Pouring d p r n xs ys cs l₀ e l) where
  pub pouring_more : {l' : List ℤ} {c : ℤ} → e < n → (n ≤ length xs) × (n ≤ length ys) × (n ≤ length cs) → length l' ≡ length l → c ≡ get_or cs e (pos 0) → Cost32 (get_or cs e (pos 0))
      → l' ≡ linked d p l (get_or r (get_or xs e 0) 0) (get_or r (get_or ys e 0) 0) c → Pouring d p r n xs ys cs l₀ (e + 1) l'
  pouring_more {l'} {c} h k s z f g =
      record {
        within = omega arith;
        fits = λ x i. go x (ℕ_discrete x e) i;
        size = s ∙ q.size;
        same =
            ap (poured d p r (drop (e + 1) (links n xs ys cs))) (g ∙ ap (linked d p l (get_or r (get_or xs e 0) 0) (get_or r (get_or ys e 0) 0)) z)
            ∙ (sym (ap (λ (t : List (Link ℤ)). poured d p r t l) (next_link n e xs ys cs h k.0 k.1 k.2)) ∙ q.same);
      }
    where
      go : (x : ℕ) → Dec (x ≡ e) → x < e + 1 → Cost32 (get_or cs x (pos 0))
      go x (yes y) i = subst (λ (t : ℕ). Cost32 (get_or cs t (pos 0))) (sym y) f
      go x (no y) i = q.fits x (omega (arith, y))
