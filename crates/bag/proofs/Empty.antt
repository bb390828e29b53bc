-- The empty bag: all words are 0. Assumes nothing.
use mathlib.Core.Path.{◌≡◌, refl, sym, ap, ◌∙◌}
use mathlib.Core.List.{List, [], ◌∷◌}
use mathlib.Core.Option.{Option, none, some}
use Prim.Native.Nat.{ℕ, zero, suc, ◌+◌, ◌*◌, ◌/◌, ◌≤◌}
use native.Mathlib.Omega.{arith}
use lib.ListN.{length, get_or, replicate, length-replicate}
use Rattle.bag.specs.Content.{content_of, held}
use Rattle.bag.specs.Keys.{Keys}
use Rattle.bag.specs.Peaks.{peak, Level, Peaks}
use Rattle.bag.specs.Bag.{Bag}
use Rattle.bag.proofs.Content.{held_place}
use Rattle.bag.proofs.Largest.{peak_below}

-- words that are all 0
get_or_zeros : (m v : ℕ) → ◌≡◌ {A = ℕ} (get_or (replicate m 0) v 0) 0
get_or_zeros zero v = refl
get_or_zeros (suc m) zero = refl
get_or_zeros (suc m) (suc v) = get_or_zeros m v

-- they hold nothing
held_zeros : (m : ℕ) → held (replicate m 0) ≡ 0
unfolding held
held_zeros zero = refl
held_zeros (suc m) = held_zeros m

-- its content
pub empty_content : {K : Type 0} (keys : List K) (m : ℕ) → length keys ≡ m → content_of (replicate m 0) keys ≡ replicate m none
unfolding content_of
empty_content {K} [] zero e = refl
empty_content {K} [] (suc m) e = absurd (omega (arith, e))
empty_content {K} (k ∷ keys) zero e = absurd (omega (arith, e))
empty_content {K} (k ∷ keys) (suc m) e = ap (λ (l : List (Option K)). none ∷ l) (empty_content keys m (omega (arith, e)))

-- and its content
pub cleared_content : {K : Type 0} (words : List ℕ) (keys : List K) (m : ℕ) → words ≡ replicate m 0 → length keys ≡ m → content_of words keys ≡ replicate (length words) none
cleared_content words keys m e k = ap (λ (l : List ℕ). content_of l keys) e ∙ empty_content keys m k ∙ ap (λ (n : ℕ). replicate n none) (sym (ap length e ∙ length-replicate m 0))

-- ---- the empty bag
-- so many zeros
abbrev pub zeros : ℕ → List ℕ
zeros m = replicate m 0

-- the largest of them is 0
zeros_peak : (m i n : ℕ) → peak (zeros m) i n ≡ 0
zeros_peak m i n = let h = peak_below (zeros m) i n 0 (λ k a b. omega (arith, get_or_zeros m k)) in omega (arith, h)

zeros_level : (m : ℕ) (at : ℕ → ℕ) (size : ℕ) → Level (zeros m) (zeros m) at size
zeros_level m at size = record { holds = λ j p. get_or_zeros m (at j) ∙ sym (zeros_peak m (j * size) size) }

-- no words
zeros_peaks : (m : ℕ) → m ≤ 1024 → Peaks (zeros m) (zeros m)
zeros_peaks m few = record {
  few = omega (arith, length-replicate {A = ℕ} m 0, few);
  same = refl;
  low = zeros_level m (λ j. j) 8;
  high = zeros_level m (λ j. length (zeros m) / 2 + j) 64;
  top = zeros_level m (λ j. length (zeros m) / 2 + length (zeros m) / 4 + j) 512;
}

-- where all is 0 the bag is empty
pub cleared_bag : {K : Type 0} (o : Keys K) (peaks words : List ℕ) (keys : List K) (m : ℕ) → m ≤ 1024 → peaks ≡ zeros m → words ≡ zeros m → length keys ≡ m → Bag o peaks words keys 0
cleared_bag o peaks words keys m few h e k =
    rw (h, e)
    (record {
      long = k ∙ sym (length-replicate {A = ℕ} m 0);
      many = sym (held_zeros m);
      word = λ v s. absurd (omega (arith, s, get_or_zeros m v));
      okay = λ v s. absurd (omega (arith, s, get_or_zeros m v));
      shape = zeros_peaks m few;
    })

-- a place is 0 where nothing is held
held_none : (ps : List ℕ) (v : ℕ) → held ps ≡ 0 → get_or ps v 0 ≡ 0
unfolding held
held_none [] v e = refl
held_none (zero ∷ ps) zero e = refl
held_none (zero ∷ ps) (suc v) e = held_none ps v e
held_none (suc p ∷ ps) v e = absurd (omega (arith, e))

-- so a bag of no pairs holds no key
pub none_held : {K : Type 0} (d : K) (words : List ℕ) (keys : List K) → length keys ≡ length words → held words ≡ 0 → (v : ℕ) → get_or (content_of words keys) v none ≡ none
none_held {K} d words keys long z v = go (get_or (content_of words keys) v none) refl
  where
    go : (x : Option K) → get_or (content_of words keys) v none ≡ x → get_or (content_of words keys) v none ≡ none
    go none e = e
    go (some k) e = let h = held_place words keys d v k long e in absurd (omega (arith, h.1, held_none words v z))
