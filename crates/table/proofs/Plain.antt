-- A table that is plainly inside: every index below m is present and every end is below m, so the map has both ends of each link.
-- Each of these tests runs over all its places and only keeps whether none has failed.
-- Assumes nothing.
use mathlib.Core.Path.{◌≡◌, refl, subst}
use mathlib.Core.Bool.{Bool, true, false, ◌&&◌}
use mathlib.Core.List.{List}
use Prim.Native.Nat.{ℕ, zero, suc, ◌+◌, ◌≤◌, ◌<◌}
use native.Mathlib.Nat.{not-suc-le-zero}
use native.Mathlib.Numerals.{add-one}
use native.Mathlib.Omega.{arith}
use borrow.Author.Tests.{ltb-true, ltb-false, lt-ltb, ne_eqb}
use lib.Dec.{ltb}
use lib.ListN.{get_or, take}
use Rattle.whole.proofs.Cases.{and_left, and_right}
use Rattle.table.specs.Links.{present, present_both, ends, all_inside}
use Rattle.table.proofs.Laws.{Sized, inside_step}

-- unless a test has failed, P holds at the first i places
abbrev pub Until : (ℕ → Type 0) → ℕ → Bool → Type 0
Until P i good = good ≡ true → (k : ℕ) → k < i → P k

-- before the first place, and one place more
pub until_none : (P : ℕ → Type 0) (good : Bool) → Until P 0 good
until_none P good e k h = absurd (not-suc-le-zero h)

pub until_more : (P : ℕ → Type 0) (i : ℕ) (good test : Bool) → Until P i good → (test ≡ true → P i) → Until P (i + 1) (good && test)
until_more P i good test u f e k h = go (ltb k i) refl
  where
    go : (t : Bool) → ltb k i ≡ t → P k
    go true q = u (and_left good test e) k (ltb-true k i q)
    go false q = let l = ltb-false k i q in let s : i ≡ k = omega arith in subst P s (f (and_right good test e))

-- an index below m is present where all are
marked_present : (m : ℕ) (marks : List ℕ) → ((k : ℕ) → k < m → get_or marks k 0 ≡ 0 → ⊥) → (i : ℕ) → i < m → present m marks i ≡ true
unfolding present
marked_present m marks f i h = rw (lt-ltb i m h, ne_eqb (get_or marks i 0) 0 (f i h))

both : (m : ℕ) (marks : List ℕ) (x y : ℕ) → present m marks x ≡ true → present m marks y ≡ true → present_both m marks x y ≡ true
unfolding present_both
both m marks x y p q = rw (p, q)

-- the links are inside, place by place
pub plain : {m n : ℕ} {marks xs ys : List ℕ} → Sized m n marks xs ys → ((k : ℕ) → k < m → get_or marks k 0 ≡ 0 → ⊥) → ((k : ℕ) → k < n → get_or xs k 0 < m) → ((k : ℕ) → k < n → get_or ys k 0 < m)
    → all_inside m marks (take n (ends xs ys)) ≡ true
plain {m} {n} {marks} {xs} {ys} w f p q = up n (omega arith)
  where
    up : (i : ℕ) → i ≤ n → all_inside m marks (take i (ends xs ys)) ≡ true
    up zero h = refl
    up (suc i) h =
        let l : i < n = omega arith in
        rw add-one at (inside_step w l (up i (omega arith)) (both _ _ _ _ (marked_present m marks f _ (p i l)) (marked_present m marks f _ (q i l))))

-- a test that failed says nothing
pub failed : {P : Type 0} → false ≡ true → P
failed e = absurd (let z : ◌≡◌ {A = ℕ} 0 1 = cc in omega arith)
