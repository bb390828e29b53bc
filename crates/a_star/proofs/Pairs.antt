-- The marks and the heuristics side by side, one pair for each index: each pair is fair exactly if the heuristic of each index of the map is.
-- Assumes nothing.
use Rattle.std.proofs.Common.{◌≡◌, ℕ, suc, zero, ◌≤◌, ◌<◌, Bool, true, false, ◌||◌, not, eqb, List, length, get_or, take, MatchBool, ℤ, pos, refl, sym, ap, ◌∙◌, arith}
use borrow.Author.Tests.{lt-ltb}
use lib.Seq.{get_or-take, length-take-le}
use Rattle.std.specs.List.{zip, AllWithin, HoldsAt}
use Rattle.std.proofs.lemmas.Slice.Zip.{length-zip, get_or-zip}
use Rattle.whole.proofs.Cases.{both_of}
use Rattle.table.specs.Links.{present}
use Rattle.a_star.specs.Promise.{is_fair, fair_at, fair_below}
use Rattle.a_star.proofs.Refusals.{fair_stop}

-- is the heuristic fair, or is there no index?
abbrev pub fair_pair : ℕ × ℤ → Bool
fair_pair p = eqb p.0 0 || is_fair p.1

-- the pairs of the indices below m
abbrev pub pairs : ℕ → List ℕ → List ℤ → List (ℕ × ℤ)
pairs m ms hs = zip (take m ms) (take m hs)

module _ (m : ℕ) (ms : List ℕ) (hs : List ℤ) (a : m ≤ length ms) (b : m ≤ length hs) where
  many : length (pairs m ms hs) ≡ m
  many = omega (arith, length-zip (take m ms) (take m hs), length-take-le m ms a, length-take-le m hs b)

  test_is : (k : ℕ) (x : ℕ) (h : ℤ) → k < m → x ≡ get_or ms k 0 → h ≡ get_or hs k (pos 0) → (eqb x 0 || is_fair h) ≡ fair_at (present m ms) hs k
  unfolding fair_at present
  test_is k x h l e f = rw (lt-ltb k m l, ← e, ← f) (go (eqb x 0))
    where
      go : (t : Bool) → (t || is_fair h) ≡ (not (not t) || is_fair h)
      go true = refl
      go false = refl

  pair_at : (k : ℕ) → k < m → fair_pair (get_or (pairs m ms hs) k (0, pos 0)) ≡ fair_at (present m ms) hs k
  pair_at k l =
      let la : k < length (take m ms) = omega (arith, l, length-take-le m ms a) in
      let lb : k < length (take m hs) = omega (arith, l, length-take-le m hs b) in
      ap fair_pair (get_or-zip (take m ms) (take m hs) k (0, pos 0) la lb) ∙ test_is k _ _ l (get_or-take m ms k 0 l) (get_or-take m hs k (pos 0) l)

  -- all below k, if each is
  all_of : (k : ℕ) → k ≤ m → ((i : ℕ) → i < m → fair_at (present m ms) hs i ≡ true) → fair_below (present m ms) hs k ≡ true
  all_of zero l f = refl
  all_of (suc k) l f = both_of _ _ (all_of k (omega (arith, l)) f) (f k (omega (arith, l)))

  pub fair_cases : (r : Bool)
      → MatchBool r (AllWithin (λ p. fair_pair p ≡ true) (pairs m ms hs) 0 (length (pairs m ms hs))) ((k : ℕ) × (k < length (pairs m ms hs)) × HoldsAt (λ p. fair_pair p ≡ false) (pairs m ms hs) k)
      → r ≡ fair_below (present m ms) hs m
  fair_cases true w = sym (all_of m (omega arith) (λ i l. sym (pair_at i l) ∙ w i (0, pos 0) (omega arith) (omega (arith, l, many))))
  fair_cases false (k, l, e) = let i : k < m = omega (arith, l, many) in fair_stop _ _ m k i (sym (pair_at k i) ∙ e (0, pos 0))
