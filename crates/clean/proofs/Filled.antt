-- The laws of `filled`, and those of `Settled`: how it comes about, and that it settles the slice where E allows one value at each place.
-- Assumes nothing.
use mathlib.Core.Path.{◌≡◌, refl, sym, ap, ◌∙◌, subst}
use mathlib.Core.List.{List, [], ◌∷◌, ◌++◌}
use Prim.Native.Nat.{ℕ, zero, suc, ◌+◌, ◌-◌, ◌≤◌, ◌<◌}
use native.Mathlib.Nat.{not-suc-le-zero, le_of_suc-le-suc}
use native.Mathlib.Numerals.{add-one}
use native.Mathlib.Decide.{dec_lt}
use native.Mathlib.Omega.{arith}
use lib.ListN.{length, get_or, drop, set, replicate, length-append, length-replicate, length-drop, get_or-replicate, get_or-append}
use lib.Seq.{drop_at, ext_get_or, get_or-drop}
use Rattle.clean.specs.Fill.{filled, Settled}

-- ---- filled
module _ {A : Type 0} where
  more : (n : ℕ) (x : A) (l : List A) → n < length l → set (replicate n x ++ drop n l) n x ≡ replicate (suc n) x ++ drop (suc n) l
  more zero x [] h = absurd (not-suc-le-zero h)
  more zero x (y ∷ l) h = refl
  more (suc n) x [] h = absurd (not-suc-le-zero h)
  more (suc n) x (y ∷ l) h = ap (λ (r : List A). x ∷ r) (more n x l (le_of_suc-le-suc h))

  -- nothing filled, and one place more
  pub filled_none : (x : A) (l : List A) → l ≡ filled 0 x l
  unfolding filled
  filled_none x l = refl

  pub filled_more : (n : ℕ) (x : A) (l m : List A) → n < length l → m ≡ filled n x l → set m n x ≡ filled (n + 1) x l
  unfolding filled
  filled_more n x l m h e = ap (λ (r : List A). set r n x) e ∙ (more n x l h ∙ ap (λ (k : ℕ). replicate k x ++ drop k l) (sym (add-one n)))

  -- the length, the places filled, the rest
  pub filled_length : (n : ℕ) (x : A) (l : List A) → n ≤ length l → length (filled n x l) ≡ length l
  unfolding filled
  filled_length n x l h = omega (arith, length-append (replicate n x) (drop n l), length-replicate n x, length-drop n l)

  pub filled_at : (n : ℕ) (x y : A) (l : List A) (i : ℕ) → i < n → get_or (filled n x l) i y ≡ x
  unfolding filled
  filled_at n x y l i h = get_or-append (replicate n x) (drop n l) y i (omega (arith, length-replicate n x)) ∙ get_or-replicate n i x y h

  pub filled_rest : (n : ℕ) (x : A) (l : List A) → drop n (filled n x l) ≡ drop n l
  unfolding filled
  filled_rest n x l = drop_at (replicate n x) (drop n l) n (length-replicate n x)

  -- what is filled depends on the rest alone, so filling over what was filled is filling
  pub filled_same : (n : ℕ) (x : A) (l m : List A) → drop n l ≡ drop n m → filled n x l ≡ filled n x m
  unfolding filled
  filled_same n x l m e = ap (λ (r : List A). replicate n x ++ r) e

  -- filled, used, and filled again
  pub filled_twice : (n : ℕ) (x : A) (l a b c : List A) → a ≡ filled n x l → drop n b ≡ drop n a → c ≡ filled n x b → c ≡ filled n x l
  filled_twice n x l a b c p q r = r ∙ filled_same n x b l (q ∙ (ap (drop n) p ∙ filled_rest n x l))

-- ---- settled
module _ {A : Type 0} where
  -- a place within the list shows no default
  pub no_default : (l : List A) (i : ℕ) (d e : A) → i < length l → get_or l i d ≡ get_or l i e
  no_default [] i d e h = absurd (not-suc-le-zero h)
  no_default (x ∷ l) zero d e h = refl
  no_default (x ∷ l) (suc i) d e h = no_default l i d e (le_of_suc-le-suc h)

  -- what lies past the first n places is part of the rest
  pub rest_at : (n : ℕ) (l m : List A) (d : A) (i : ℕ) → drop n l ≡ drop n m → n ≤ i → get_or l i d ≡ get_or m i d
  rest_at n l m d i e h =
      let k : i ≡ n + (i - n) = omega arith in
      rw k (sym (get_or-drop n l (i - n) d) ∙ (ap (λ (r : List A). get_or r (i - n) d) e ∙ get_or-drop n m (i - n) d))

module _ {A : Type 0} {n : ℕ} {E : ℕ → A → Type 0} {before : List A} where
  -- by the values read with one default
  pub settle : {after : List A} (d : A) → n ≤ length before → length after ≡ length before → ((i : ℕ) → i < n → E i (get_or after i d)) → drop n after ≡ drop n before → Settled n E before after
  settle {after} d h l f r = record { long = l; each = λ i e k. subst (E i) (no_default after i d e (omega arith)) (f i k); rest = r }

  -- by values that another relation allows
  pub settled_over : {F : ℕ → A → Type 0} {after : List A} → ((i : ℕ) → i < n → (x : A) → E i x → F i x) → Settled n E before after → Settled n F before after
  settled_over {F} {after} f s = record { long = s.long; each = λ i d h. f i h (get_or after i d) (s.each i d h); rest = s.rest }

  -- one value allowed at each place: one slice
  pub settled_one : {a b : List A} (d : A) → ((i : ℕ) → i < n → (x y : A) → E i x → E i y → x ≡ y) → Settled n E before a → Settled n E before b → a ≡ b
  settled_one {a} {b} d one p q = ext_get_or d a b (p.long ∙ sym q.long) (λ i h. at i (dec_lt i n))
    where
      at : (i : ℕ) → Dec (i < n) → get_or a i d ≡ get_or b i d
      at i (yes h) = one i h (get_or a i d) (get_or b i d) (p.each i d h) (q.each i d h)
      at i (no f) = rest_at n a b d i (p.rest ∙ sym q.rest) (omega (arith, f))
