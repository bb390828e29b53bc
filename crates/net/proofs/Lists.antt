-- What the loops over the marks keep: the number of present indices passed, the ranks written, and the nodes written.
-- Assumes nothing.
use mathlib.Core.Path.{◌≡◌, refl, sym, ap, ◌∙◌, subst}
use mathlib.Core.List.{List, [], ◌∷◌, ◌++◌}
use mathlib.Core.Logic.{◌⊎◌, inl, inr}
use Prim.Native.Nat.{ℕ, zero, suc, ◌+◌, ◌≤◌, ◌<◌}
use native.Mathlib.Decide.{ℕ_discrete}
use native.Mathlib.Nat.{not-suc-le-zero, le_of_suc-le-suc}
use native.Mathlib.Numerals.{add-one}
use native.Mathlib.Omega.{arith}
use lib.ListN.{length, get_or, set, drop, length-set}
use lib.Seq.{get_or-set_same, get_or-set_other}
use Rattle.table.specs.Links.{present}
use Rattle.net.specs.Net.{rising}
use Rattle.net.specs.Ranks.{Ranks}
use Rattle.net.proofs.Nodes.{rising_absent, rising_present, count_absent, count_present_lem, ranked, present_yes, present_no}

-- one index more, by its mark
module _ (m : ℕ) (marks : List ℕ) (i : ℕ) (h : i < m) where
  pub count_yes : (get_or marks i 0 ≡ 0 → ⊥) → length (rising (present m marks) (i + 1)) ≡ length (rising (present m marks) i) + 1
  count_yes e = rw (add-one i) (count_present_lem (present m marks) i (present_yes m marks i h e))

  pub count_no : get_or marks i 0 ≡ 0 → length (rising (present m marks) (i + 1)) ≡ length (rising (present m marks) i)
  count_no e = rw (add-one i) (count_absent (present m marks) i (present_no m marks i h e))

-- the number counted so far
pub count_more : (m : ℕ) (marks : List ℕ) (i p p' : ℕ) → i < m → p ≡ length (rising (present m marks) i) → ((get_or marks i 0 ≡ 0 → ⊥) × (p' ≡ p + 1)) ⊎ ((get_or marks i 0 ≡ 0) × (p' ≡ p))
    → p' ≡ length (rising (present m marks) (i + 1))
count_more m marks i p p' h e (inl w) = w.1 ∙ (ap (λ (x : ℕ). x + 1) e ∙ sym (count_yes m marks i h w.0))
count_more m marks i p p' h e (inr w) = w.1 ∙ (e ∙ sym (count_no m marks i h w.0))

-- an entry stored before the rest leaves the rest
drop_set : (l : List ℕ) (i x n : ℕ) → i < n → drop n (set l i x) ≡ drop n l
drop_set l i x zero h = absurd (not-suc-le-zero h)
drop_set [] i x (suc n) h = refl
drop_set (y ∷ l) zero x (suc n) h = refl
drop_set (y ∷ l) (suc i) x (suc n) h = drop_set l i x n (le_of_suc-le-suc h)

-- the ranks while they are written
pub record Ranking (m : ℕ) (marks before : List ℕ) (p i : ℕ) (after : List ℕ) : Type 0 where
  pub within : i ≤ m
  pub long : length after ≡ length before
  pub each : (u : ℕ) → u < i → get_or after u 0 ≡ length (rising (present m marks) u)
  pub rest : drop m after ≡ drop m before
  pub count : p ≡ length (rising (present m marks) i)

pub ranking_first : (m : ℕ) (marks before : List ℕ) → Ranking m marks before 0 0 before
ranking_first m marks before = record { within = omega arith; long = refl; each = λ u h. absurd (omega arith); rest = refl; count = refl }

module _ {m : ℕ} {marks before after : List ℕ} {p i : ℕ} (r : Ranking m marks before p i after) where
  pub ranking_more : (p' : ℕ) → i < m → m ≤ length before → ((get_or marks i 0 ≡ 0 → ⊥) × (p' ≡ p + 1)) ⊎ ((get_or marks i 0 ≡ 0) × (p' ≡ p)) → Ranking m marks before p' (i + 1) (set after i p)
  ranking_more p' h k w =
      record {
        within = omega arith;
        long = length-set after i p ∙ r.long;
        each = λ u j. go u (ℕ_discrete u i) j;
        rest = drop_set after i p m h ∙ r.rest;
        count = count_more m marks i p p' h r.count w;
      }
    where
      go : (u : ℕ) → Dec (u ≡ i) → u < i + 1 → get_or (set after i p) u 0 ≡ length (rising (present m marks) u)
      go u (yes q) j = subst (λ (y : ℕ). get_or (set after i p) y 0 ≡ length (rising (present m marks) y)) (sym q) (get_or-set_same after i p 0 (omega (arith, r.long)) ∙ r.count)
      go u (no q) j = get_or-set_other after i u p 0 q ∙ r.each u (omega (arith, q))

  pub ranking_last : m ≤ i → Ranks (present m marks) m before after
  ranking_last h = record { long = r.long; each = λ u k. r.each u (omega arith); rest = r.rest }

-- a list written over the start of another, and one entry more
abbrev pub laid : List ℕ → List ℕ → List ℕ
laid xs l = xs ++ drop (length xs) l

laid_more : (xs l : List ℕ) (x : ℕ) → length xs < length l → set (laid xs l) (length xs) x ≡ laid (xs ++ (x ∷ [])) l
laid_more [] [] x h = absurd (not-suc-le-zero h)
laid_more [] (y ∷ l) x h = refl
laid_more (z ∷ xs) [] x h = absurd (not-suc-le-zero h)
laid_more (z ∷ xs) (y ∷ l) x h = ap (λ (r : List ℕ). z ∷ r) (laid_more xs l x (le_of_suc-le-suc h))

-- the nodes while they are written
pub record Listing (m : ℕ) (marks before after : List ℕ) (p i : ℕ) : Type 0 where
  pub within : i ≤ m
  pub long : length after ≡ length before
  pub is : after ≡ laid (rising (present m marks) i) before
  pub count : p ≡ length (rising (present m marks) i)

module _ {m : ℕ} {marks before : List ℕ} where
  pub listing_first : Listing m marks before before 0 0
  listing_first = record { within = omega arith; long = refl; is = refl; count = refl }

  module _ {after : List ℕ} {p i : ℕ} (r : Listing m marks before after p i) (h : i < m) where
    pub listing_room : length (rising (present m marks) m) ≤ length before → (get_or marks i 0 ≡ 0 → ⊥) → p < length after
    listing_room room f = omega (arith, r.count, r.long, room, (ranked (present m marks) m i h (present_yes m marks i h f)).within)

    pub listing_next : length (rising (present m marks) m) ≤ length before → (get_or marks i 0 ≡ 0 → ⊥) → Listing m marks before (set after p i) (p + 1) (i + 1)
    listing_next room f =
        record {
          within = omega arith;
          long = length-set after p i ∙ r.long;
          is = rw (add-one i)
              (ap (λ (k : ℕ). set after k i) r.count
              ∙ (ap (λ (k : List ℕ). set k (length (rising (present m marks) i)) i) r.is
              ∙ (laid_more (rising (present m marks) i) before i (omega (arith, r.count, r.long, listing_room room f))
              ∙ ap (λ (k : List ℕ). laid k before) (sym (rising_present (present m marks) i (present_yes m marks i h f))))));
          count = omega (arith, r.count, count_yes m marks i h f);
        }

    pub listing_skip : get_or marks i 0 ≡ 0 → Listing m marks before after p (i + 1)
    listing_skip e =
        record {
          within = omega arith;
          long = r.long;
          is = rw (add-one i) (r.is ∙ ap (λ (k : List ℕ). laid k before) (sym (rising_absent (present m marks) i (present_no m marks i h e))));
          count = r.count ∙ sym (count_no m marks i h e);
        }

  pub listing_last : {after : List ℕ} {p i : ℕ} → Listing m marks before after p i → m ≤ i → (p ≡ length (rising (present m marks) m)) × (after ≡ laid (rising (present m marks) m) before)
  listing_last {after} {p} {i} r h =
      let e : i ≡ m = omega (arith, r.within) in
      (r.count ∙ ap (λ (k : ℕ). length (rising (present m marks) k)) e, r.is ∙ ap (λ (k : ℕ). laid (rising (present m marks) k) before) e)
