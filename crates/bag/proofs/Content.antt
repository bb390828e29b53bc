-- The content of a bag: what stores to words and keys do to it, and how many it holds.
-- Places and keys stand for a list of pairs that may be missing: an index is in the bag where its place is not 0, with its key. So a store to a place, with one to
-- its key, changes the content at that index alone, and the number held changes by one just where a place becomes 0 or stops being 0. All of it goes by induction over the words.
-- Assumes nothing.
use mathlib.Core.Path.{◌≡◌, refl, sym, ap, ◌∙◌}
use mathlib.Core.List.{List, [], ◌∷◌}
use mathlib.Core.Option.{Option, none, some, none-ne-some}
use Prim.Native.Nat.{ℕ, zero, suc, ◌+◌, ◌-◌, ◌≤◌, ◌<◌}
use native.Mathlib.Omega.{arith}
use native.Mathlib.Nat.{not-suc-le-zero, le_of_suc-le-suc}
use native.Mathlib.Numerals.{add-one}
use lib.ListN.{get_or, length, set}
use Rattle.bag.specs.Content.{entry, content_of, held}

-- an element within the list does not depend on the default
pub any_default : {A : Type 0} (l : List A) (i : ℕ) (d e : A) → i < length l → get_or l i d ≡ get_or l i e
any_default [] i d e h = absurd (not-suc-le-zero h)
any_default (x ∷ l) zero d e h = refl
any_default (x ∷ l) (suc i) d e h = any_default l i d e (le_of_suc-le-suc h)

module _ {K : Type 0} where
  -- what stands at an index
  pub content_at : (ps : List ℕ) (ks : List K) (d : K) (v : ℕ) → length ks ≡ length ps → get_or (content_of ps ks) v none ≡ entry (get_or ps v 0) (get_or ks v d)
  unfolding content_of
  content_at [] ks d v e = refl
  content_at (p ∷ ps) [] d v e = absurd (omega (arith, e))
  content_at (p ∷ ps) (k ∷ ks) d zero e = refl
  content_at (p ∷ ps) (k ∷ ks) d (suc v) e = content_at ps ks d v (omega (arith, e))

  -- the content is as long as the words
  pub content_long : (ps : List ℕ) (ks : List K) → length ks ≡ length ps → length (content_of ps ks) ≡ length ps
  unfolding content_of
  content_long [] ks e = refl
  content_long (p ∷ ps) [] e = absurd (omega (arith, e))
  content_long (p ∷ ps) (k ∷ ks) e = ap suc (content_long ps ks (omega (arith, e)))

  -- a place that becomes 0
  pub content_out : (ps : List ℕ) (ks : List K) (v : ℕ) → content_of (set ps v 0) ks ≡ set (content_of ps ks) v none
  unfolding content_of
  content_out [] ks v = refl
  content_out (p ∷ ps) [] zero = refl
  content_out (p ∷ ps) [] (suc v) = refl
  content_out (p ∷ ps) (k ∷ ks) zero = refl
  content_out (p ∷ ps) (k ∷ ks) (suc v) = ap (λ (l : List (Option K)). entry p k ∷ l) (content_out ps ks v)

  -- a place that becomes another than 0, with a key
  content_in' : (ps : List ℕ) (ks : List K) (v p : ℕ) (k : K) → content_of (set ps v (suc p)) (set ks v k) ≡ set (content_of ps ks) v (some k)
  unfolding content_of
  content_in' [] ks v p k = refl
  content_in' (x ∷ ps) [] zero p k = refl
  content_in' (x ∷ ps) [] (suc v) p k = refl
  content_in' (x ∷ ps) (y ∷ ks) zero p k = refl
  content_in' (x ∷ ps) (y ∷ ks) (suc v) p k = ap (λ (l : List (Option K)). entry x y ∷ l) (content_in' ps ks v p k)

  -- the same, with a word that is written as one more than another
  pub content_in : (ps : List ℕ) (ks : List K) (v p : ℕ) (k : K) → content_of (set ps v (p + 1)) (set ks v k) ≡ set (content_of ps ks) v (some k)
  content_in ps ks v p k = ap (λ (x : ℕ). content_of (set ps v x) (set ks v k)) (add-one p) ∙ content_in' ps ks v p k

  -- what an entry that holds a key tells
  entry_place : (x : ℕ) (k j : K) → entry x k ≡ some j → (p : ℕ) × (x ≡ p + 1)
  entry_place zero k j e = absurd (none-ne-some j e)
  entry_place (suc p) k j e = (p, sym (add-one p))

  -- and of its key
  entry_key : (x : ℕ) (k j : K) → entry x k ≡ some j → k ≡ j
  entry_key zero k j e = absurd (none-ne-some j e)
  entry_key (suc p) k j e = cc

  -- a pair that is held has a place
  pub held_place : (ps : List ℕ) (ks : List K) (d : K) (v : ℕ) (j : K) → length ks ≡ length ps → get_or (content_of ps ks) v none ≡ some j → (p : ℕ) × (get_or ps v 0 ≡ p + 1)
  held_place ps ks d v j e h = entry_place (get_or ps v 0) (get_or ks v d) j (sym (content_at ps ks d v e) ∙ h)

  -- and its key
  pub held_key : (ps : List ℕ) (ks : List K) (d : K) (v : ℕ) (j : K) → length ks ≡ length ps → get_or (content_of ps ks) v none ≡ some j → get_or ks v d ≡ j
  held_key ps ks d v j e h = entry_key (get_or ps v 0) (get_or ks v d) j (sym (content_at ps ks d v e) ∙ h)

  -- an index with a place is held
  pub place_held : (ps : List ℕ) (ks : List K) (d : K) (v p : ℕ) → length ks ≡ length ps → get_or ps v 0 ≡ p + 1 → get_or (content_of ps ks) v none ≡ some (get_or ks v d)
  place_held ps ks d v p e h = content_at ps ks d v e ∙ ap (λ (x : ℕ). entry x (get_or ks v d)) (h ∙ add-one p)

-- ---- how many are held
-- no more than there are words
held_le : (ps : List ℕ) → held ps ≤ length ps
unfolding held
held_le [] = omega arith
held_le (zero ∷ ps) = omega (arith, held_le ps)
held_le (suc p ∷ ps) = omega (arith, held_le ps)

-- an index that is out: there is room for one more
pub held_room : (ps : List ℕ) (v : ℕ) → v < length ps → get_or ps v 0 ≡ 0 → held ps < length ps
unfolding held
held_room [] v l e = absurd (not-suc-le-zero l)
held_room (zero ∷ ps) zero l e = omega (arith, held_le ps)
held_room (suc p ∷ ps) zero l e = absurd (omega (arith, e))
held_room (zero ∷ ps) (suc v) l e = omega (arith, held_room ps v (le_of_suc-le-suc l) e)
held_room (suc p ∷ ps) (suc v) l e = omega (arith, held_room ps v (le_of_suc-le-suc l) e)

-- and with it there is one more
held_in' : (ps : List ℕ) (v p : ℕ) → v < length ps → get_or ps v 0 ≡ 0 → held (set ps v (suc p)) ≡ held ps + 1
unfolding held
held_in' [] v p l e = absurd (not-suc-le-zero l)
held_in' (zero ∷ ps) zero p l e = sym (add-one (held ps))
held_in' (suc x ∷ ps) zero p l e = absurd (omega (arith, e))
held_in' (zero ∷ ps) (suc v) p l e = held_in' ps v p (le_of_suc-le-suc l) e
held_in' (suc x ∷ ps) (suc v) p l e = omega (arith, held_in' ps v p (le_of_suc-le-suc l) e)

-- the same, with a word that is written as one more than another
pub held_in : (ps : List ℕ) (v p : ℕ) → v < length ps → get_or ps v 0 ≡ 0 → held (set ps v (p + 1)) ≡ held ps + 1
held_in ps v p l e = ap (λ (x : ℕ). held (set ps v x)) (add-one p) ∙ held_in' ps v p l e

-- an index that is in goes out: there is one less
pub held_out : (ps : List ℕ) (v p : ℕ) → get_or ps v 0 ≡ p + 1 → held (set ps v 0) + 1 ≡ held ps
unfolding held
held_out [] v p e = absurd (omega (arith, e))
held_out (zero ∷ ps) zero p e = absurd (omega (arith, e))
held_out (suc x ∷ ps) zero p e = add-one (held ps)
held_out (zero ∷ ps) (suc v) p e = held_out ps v p e
held_out (suc x ∷ ps) (suc v) p e = omega (arith, held_out ps v p e)

-- ---- words that are not 0
-- an entry that is not 0 is within the list
pub inside : (l : List ℕ) (v : ℕ) → 0 < get_or l v 0 → v < length l
inside [] v h = absurd (omega (arith, h))
inside (x ∷ l) zero h = omega arith
inside (x ∷ l) (suc v) h = omega (arith, inside l v h)

-- where something is held there is an entry that is not 0
pub record Some (l : List ℕ) : Type 0 where
  pub at : ℕ
  pub is : 0 < get_or l at 0

pub some_held : (l : List ℕ) → 0 < held l → Some l
unfolding held
some_held [] h = absurd (omega (arith, h))
some_held (zero ∷ l) h = let s = some_held l h in record { at = suc s.at; is = s.is }
some_held (suc x ∷ l) h = record { at = 0; is = omega arith }

-- how many there are with a word that is stored: one more, if there was none
pub one_more : (l : List ℕ) (n v w : ℕ) → n ≡ held l → v < length l → 0 < w → get_or l v 0 ≡ 0 → n + 1 ≡ held (set l v w)
one_more l n v w many p s e =
    let back : w - 1 + 1 ≡ w = omega (arith, s) in
    omega (arith, many, held_in l v (w - 1) p e, ap (λ (x : ℕ). held (set l v x)) back)

-- else as many
held_kept : (ps : List ℕ) (v p : ℕ) → 0 < get_or ps v 0 → held (set ps v (suc p)) ≡ held ps
unfolding held
held_kept [] v p h = absurd (omega (arith, h))
held_kept (zero ∷ ps) zero p h = absurd (omega (arith, h))
held_kept (suc x ∷ ps) zero p h = refl
held_kept (zero ∷ ps) (suc v) p h = held_kept ps v p h
held_kept (suc x ∷ ps) (suc v) p h = ap suc (held_kept ps v p h)

pub no_more : (l : List ℕ) (n v w : ℕ) → n ≡ held l → 0 < w → 0 < get_or l v 0 → n ≡ held (set l v w)
no_more l n v w many s h =
    let back : w - 1 + 1 ≡ w = omega (arith, s) in
    many ∙ sym (held_kept l v (w - 1) h) ∙ ap (λ (x : ℕ). held (set l v x)) (sym (add-one (w - 1)) ∙ back)
