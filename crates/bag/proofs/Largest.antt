-- The largest words. Two facts carry the whole: the largest of a block of entries knows a store to one of them, and the
-- largest of a block's parts is the largest of the block. So a store to a place unsettles one entry of each level, which
-- is set right from below; and the first block with the largest word has in it the first entry with that word.
-- Assumes nothing.
use mathlib.Core.Path.{◌≡◌, refl, sym, ap, subst, ◌∙◌}
use mathlib.Core.Bool.{Bool, true, false}
use mathlib.Core.List.{List}
use mathlib.Core.Logic.{◌⊎◌, inl, inr}
use Prim.Native.Nat.{ℕ, zero, suc, ◌+◌, ◌-◌, ◌*◌, ◌/◌, ◌≤◌, ◌<◌, max}
use native.Mathlib.Omega.{arith}
use native.Mathlib.Decide.{ℕ_discrete}
use native.Mathlib.Nat.{add-mul, one-mul, suc-mul, zero-mul}
use lib.Dec.{ltb}
use lib.ListN.{get_or, length, set, length-set, get_or-eq_default}
use lib.Seq.{get_or-set_same, get_or-set_other}
use borrow.Author.Tests.{ltb-true, ltb-false}
use Rattle.bag.specs.Peaks.{peak, span, Level, Peaks}

-- ---- the largest of a few entries
-- of none, and of one more
pub peak_none : (l : List ℕ) (i : ℕ) → peak l i 0 ≡ 0
unfolding peak
peak_none l i = refl

pub peak_more : (l : List ℕ) (i n : ℕ) → peak l i (suc n) ≡ max (get_or l i 0) (peak l (i + 1) n)
unfolding peak
peak_more l i n = refl

-- of one
pub peak_one : (l : List ℕ) (i : ℕ) → peak l i 1 ≡ get_or l i 0
peak_one l i = omega (arith, peak_more l i 0, peak_none l (i + 1))

-- of two parts
pub peak_parts : (l : List ℕ) (i a b : ℕ) → peak l i (a + b) ≡ max (peak l i a) (peak l (i + a) b)
peak_parts l i zero b =
    let x : 0 + b ≡ b = omega arith in
    let y : i + 0 ≡ i = omega arith in
    rw (x, y) (omega (arith, peak_none l i))
peak_parts l i (suc a) b =
    let x : suc a + b ≡ suc (a + b) = omega arith in
    let y : i + suc a ≡ i + 1 + a = omega arith in
    rw (x, y) (omega (arith, peak_more l i (a + b), peak_more l i a, peak_parts l (i + 1) a b))

-- two entries, and two halves
pub peak_two : (l : List ℕ) (i : ℕ) → max (get_or l i 0) (get_or l (i + 1) 0) ≡ peak l i 2
peak_two l i = sym (peak_more l i 1 ∙ ap (max (get_or l i 0)) (peak_one l (i + 1)))

pub peak_halves : (l : List ℕ) (i a : ℕ) → max (peak l i a) (peak l (i + a) a) ≡ peak l i (a + a)
peak_halves l i a = sym (peak_parts l i a a)

-- no entry of them is larger
pub peak_above : (l : List ℕ) (i n k : ℕ) → i ≤ k → k < i + n → get_or l k 0 ≤ peak l i n
peak_above l i zero k a b = absurd (omega (arith, a, b))
peak_above l i (suc n) k a b = go (ℕ_discrete i k) (λ p. peak_above l (i + 1) n k p (omega (arith, b)))
  where
    go : Dec (i ≡ k) → (i + 1 ≤ k → get_or l k 0 ≤ peak l (i + 1) n) → get_or l k 0 ≤ peak l i (suc n)
    go (yes e) f = omega (arith, peak_more l i n, ap (λ (x : ℕ). get_or l x 0) e)
    go (no e) f = omega (arith, peak_more l i n, f (omega (arith, a, e)))

-- what none of them passes, the largest does not pass
pub peak_below : (l : List ℕ) (i n w : ℕ) → ((k : ℕ) → i ≤ k → k < i + n → get_or l k 0 ≤ w) → peak l i n ≤ w
peak_below l i zero w f = omega (arith, peak_none l i)
peak_below l i (suc n) w f = omega (arith, peak_more l i n, f i (omega arith) (omega arith), peak_below l (i + 1) n w (λ k a b. f k (omega (arith, a)) (omega (arith, b))))

-- where it is not 0, it is one of them
pub record Has (l : List ℕ) (i n w : ℕ) : Type 0 where
  pub at : ℕ
  pub from : i ≤ at
  pub to : at < i + n
  pub is : get_or l at 0 ≡ w

pub peak_has : (l : List ℕ) (i n : ℕ) → 0 < peak l i n → Has l i n (peak l i n)
peak_has l i zero s = absurd (omega (arith, peak_none l i, s))
peak_has l i (suc n) s = go (ltb (get_or l i 0) (peak l (i + 1) n)) refl (λ p. peak_has l (i + 1) n p)
  where
    go : (t : Bool) → ltb (get_or l i 0) (peak l (i + 1) n) ≡ t → (0 < peak l (i + 1) n → Has l (i + 1) n (peak l (i + 1) n)) → Has l i (suc n) (peak l i (suc n))
    go true e f =
        let p = ltb-true (get_or l i 0) (peak l (i + 1) n) e in
        let h = f (omega (arith, p)) in
        record { at = h.at; from = omega (arith, h.from); to = omega (arith, h.to); is = omega (arith, h.is, p, peak_more l i n) }
    go false e f = record { at = i; from = omega arith; to = omega arith; is = omega (arith, ltb-false (get_or l i 0) (peak l (i + 1) n) e, peak_more l i n) }

-- past the end it is 0
pub peak_past : (l : List ℕ) (i n : ℕ) → length l ≤ i → peak l i n ≡ 0
peak_past l i n p =
    let h = peak_below l i n 0 (λ k a b. omega (arith, get_or-eq_default l 0 {n = k} (omega (arith, p, a)))) in
    omega (arith, h)

-- so whatever reaches the end counts the same
reach : (l : List ℕ) (i a d : ℕ) → length l ≤ i + a → peak l i (a + d) ≡ peak l i a
reach l i a d p = omega (arith, peak_parts l i a d, peak_past l (i + a) d p)

pub peak_reach : (l : List ℕ) (i a b : ℕ) → length l ≤ i + a → length l ≤ i + b → peak l i a ≡ peak l i b
peak_reach l i a b p q = go (ltb a b) refl
  where
    go : (t : Bool) → ltb a b ≡ t → peak l i a ≡ peak l i b
    go true e = let h = ltb-true a b e in sym (reach l i a (b - a) p) ∙ ap (peak l i) (omega (arith, h))
    go false e = let h = ltb-false a b e in sym (ap (peak l i) (omega (arith, h))) ∙ reach l i b (a - b) q

-- ---- one entry is stored to
-- outside
pub peak_out : (l : List ℕ) (v w i n : ℕ) → (v < i) ⊎ (i + n ≤ v) → peak (set l v w) i n ≡ peak l i n
peak_out l v w i zero o = peak_none (set l v w) i ∙ sym (peak_none l i)
peak_out l v w i (suc n) o =
    let e : get_or (set l v w) i 0 ≡ get_or l i 0 = get_or-set_other l v i w 0 (away o) in
    omega (arith, peak_more (set l v w) i n, peak_more l i n, e, peak_out l v w (i + 1) n (rest o))
  where
    away : (v < i) ⊎ (i + suc n ≤ v) → i ≡ v → ⊥
    away (inl a) e = omega (arith, a, e)
    away (inr a) e = omega (arith, a, e)

    rest : (v < i) ⊎ (i + suc n ≤ v) → (v < i + 1) ⊎ (i + 1 + n ≤ v)
    rest (inl a) = inl (omega (arith, a))
    rest (inr a) = inr (omega (arith, a))

-- inside, where the entry grows
pub peak_grown : (l : List ℕ) (v w i n : ℕ) → v < length l → i ≤ v → v < i + n → get_or l v 0 ≤ w → peak (set l v w) i n ≡ max (peak l i n) w
peak_grown l v w i n in_l a b g = omega (arith, most, peak_below l i n (peak (set l v w) i n) each, subst (λ (x : ℕ). x ≤ peak (set l v w) i n) here (peak_above (set l v w) i n v a b))
  where
    here : get_or (set l v w) v 0 ≡ w
    here = get_or-set_same l v w 0 in_l

    most : peak (set l v w) i n ≤ max (peak l i n) w
    most = peak_below (set l v w) i n (max (peak l i n) w) (λ k p q. go k p q (ℕ_discrete k v))
      where
        go : (k : ℕ) → i ≤ k → k < i + n → Dec (k ≡ v) → get_or (set l v w) k 0 ≤ max (peak l i n) w
        go k p q (yes e) = omega (arith, ap (λ (x : ℕ). get_or (set l v w) x 0) e, here)
        go k p q (no e) = omega (arith, get_or-set_other l v k w 0 e, peak_above l i n k p q)

    each : (k : ℕ) → i ≤ k → k < i + n → get_or l k 0 ≤ peak (set l v w) i n
    each k p q = go (ℕ_discrete k v)
      where
        go : Dec (k ≡ v) → get_or l k 0 ≤ peak (set l v w) i n
        go (yes e) = omega (arith, ap (λ (x : ℕ). get_or l x 0) e, g, here, peak_above (set l v w) i n v a b)
        go (no e) = omega (arith, get_or-set_other l v k w 0 e, peak_above (set l v w) i n k p q)

-- ---- groups of eight
-- up to the end of the list a group counts as eight
pub group_end : (l : List ℕ) (i : ℕ) → peak l i (span i (length l)) ≡ peak l i 8
group_end l i = go (ltb (length l) (i + 8)) refl
  where
    go : (t : Bool) → ltb (length l) (i + 8) ≡ t → peak l i (span i (length l)) ≡ peak l i 8
    go true e = let h = ltb-true (length l) (i + 8) e in peak_reach l i (span i (length l)) 8 (omega (arith, h)) (omega (arith, h))
    go false e = ap (peak l i) (omega (arith, ltb-false (length l) (i + 8) e))

-- ---- the largest of the largest
-- of n parts of s entries, whose largest stand side by side
pub peak_peaks : (peaks l : List ℕ) (s i j n : ℕ) → ((k : ℕ) → k < n → get_or peaks (i + k) 0 ≡ peak l ((j + k) * s) s) → peak peaks i n ≡ peak l (j * s) (n * s)
peak_peaks peaks l s i j zero f =
    let z : zero * s ≡ 0 = zero-mul s in
    rw z (peak_none peaks i ∙ sym (peak_none l (j * s)))
peak_peaks peaks l s i j (suc n) f =
    let here : get_or peaks i 0 ≡ peak l (j * s) s = shift i j (omega arith) (omega arith) (f 0 (omega arith)) in
    let rest = peak_peaks peaks l s (i + 1) (j + 1) n (λ k p. shift (i + 1 + k) (j + 1 + k) (omega arith) (omega arith) (f (suc k) (omega (arith, p)))) in
    let next : (j + 1) * s ≡ j * s + s = add-mul j 1 s ∙ ap (λ (x : ℕ). j * s + x) (one-mul s) in
    let many : suc n * s ≡ s + n * s = omega (arith, suc-mul n s) in
    let tail = rest ∙ ap (λ (x : ℕ). peak l x (n * s)) next in
    rw many (omega (arith, peak_more peaks i n, here, tail, peak_parts l (j * s) s (n * s)))
  where
    shift : {a b : ℕ} (x y : ℕ) → a ≡ x → b ≡ y → get_or peaks a 0 ≡ peak l (b * s) s → get_or peaks x 0 ≡ peak l (y * s) s
    shift x y p q e = sym (ap (λ (z : ℕ). get_or peaks z 0) p) ∙ e ∙ ap (λ (z : ℕ). peak l (z * s) s) q

-- ---- a level: the blocks of one size
-- in which block a place stands: q is v's, and every other is away from v
pub record Block (size v q : ℕ) : Type 0 where
  pub from : q * size ≤ v
  pub to : v < q * size + size
  pub away : (j : ℕ) → (j ≡ q → ⊥) → (v < j * size) ⊎ (j * size + size ≤ v)

pub block_8 : (v : ℕ) → Block 8 v (v / 8)
block_8 v = record { from = omega arith; to = omega arith; away = λ j n. go j n (ltb v (j * 8)) refl }
  where
    go : (j : ℕ) → (j ≡ v / 8 → ⊥) → (t : Bool) → ltb v (j * 8) ≡ t → (v < j * 8) ⊎ (j * 8 + 8 ≤ v)
    go j n true e = inl (ltb-true v (j * 8) e)
    go j n false e = let h = ltb-false v (j * 8) e in inr (omega (arith, h, n))

pub block_64 : (v : ℕ) → Block 64 v (v / 64)
block_64 v = record { from = omega arith; to = omega arith; away = λ j n. go j n (ltb v (j * 64)) refl }
  where
    go : (j : ℕ) → (j ≡ v / 64 → ⊥) → (t : Bool) → ltb v (j * 64) ≡ t → (v < j * 64) ⊎ (j * 64 + 64 ≤ v)
    go j n true e = inl (ltb-true v (j * 64) e)
    go j n false e = let h = ltb-false v (j * 64) e in inr (omega (arith, h, n))

pub block_512 : (v : ℕ) → Block 512 v (v / 512)
block_512 v = record { from = omega arith; to = omega arith; away = λ j n. go j n (ltb v (j * 512)) refl }
  where
    go : (j : ℕ) → (j ≡ v / 512 → ⊥) → (t : Bool) → ltb v (j * 512) ≡ t → (v < j * 512) ⊎ (j * 512 + 512 ≤ v)
    go j n true e = inl (ltb-true v (j * 512) e)
    go j n false e = let h = ltb-false v (j * 512) e in inr (omega (arith, h, n))

-- a level with one entry that may be wrong, that of block q
pub record Unsettled (peaks words : List ℕ) (at : ℕ → ℕ) (size q : ℕ) : Type 0 where
  pub holds : (j : ℕ) → j * size < length words → (j ≡ q → ⊥) → get_or peaks (at j) 0 ≡ peak words (j * size) size

-- a store to a place unsettles its block alone
pub level_moved : (peaks words : List ℕ) (at : ℕ → ℕ) (size v q w : ℕ) → Level peaks words at size → Block size v q → Unsettled peaks (set words v w) at size q
level_moved peaks words at size v q w L B = record { holds = λ j p n. L.holds j (subst (λ (x : ℕ). j * size < x) (length-set words v w) p) ∙ sym (peak_out words v w (j * size) size (B.away j n)) }

-- the right value settles it
pub level_settled : (peaks words : List ℕ) (at : ℕ → ℕ) (size q y : ℕ) → Unsettled peaks words at size q → ((j : ℕ) → at j ≡ at q → j ≡ q) → at q < length peaks → y ≡ peak words (q * size) size
    → Level (set peaks (at q) y) words at size
level_settled peaks words at size q y U one in_peaks e = record { holds = λ j p. go j p (ℕ_discrete j q) }
  where
    go : (j : ℕ) → j * size < length words → Dec (j ≡ q) → get_or (set peaks (at q) y) (at j) 0 ≡ peak words (j * size) size
    go j p (yes d) = subst (λ (x : ℕ). get_or (set peaks (at q) y) (at x) 0 ≡ peak words (x * size) size) (sym d) (get_or-set_same peaks (at q) y 0 in_peaks ∙ e)
    go j p (no d) = get_or-set_other peaks (at q) (at j) y 0 (λ z. d (one j z)) ∙ U.holds j p d

-- a store elsewhere leaves it as it is
pub unsettled_beside : (peaks words : List ℕ) (at : ℕ → ℕ) (size q c y : ℕ) → Unsettled peaks words at size q → ((j : ℕ) → j * size < length words → (j ≡ q → ⊥) → at j ≡ c → ⊥)
    → Unsettled (set peaks c y) words at size q
unsettled_beside peaks words at size q c y U away = record { holds = λ j p n. get_or-set_other peaks c (at j) y 0 (away j p n) ∙ U.holds j p n }

-- and so does one that stores what stands there
pub level_beside : (peaks words : List ℕ) (at : ℕ → ℕ) (size c y : ℕ) → Level peaks words at size → c < length peaks → ((j : ℕ) → j * size < length words → at j ≡ c → y ≡ peak words (j * size) size)
    → Level (set peaks c y) words at size
level_beside peaks words at size c y L in_peaks right = record { holds = λ j p. go j p (ℕ_discrete (at j) c) }
  where
    go : (j : ℕ) → j * size < length words → Dec (at j ≡ c) → get_or (set peaks c y) (at j) 0 ≡ peak words (j * size) size
    go j p (yes d) = subst (λ (x : ℕ). get_or (set peaks c y) x 0 ≡ peak words (j * size) size) (sym d) (get_or-set_same peaks c y 0 in_peaks ∙ right j p d)
    go j p (no d) = get_or-set_other peaks c (at j) y 0 d ∙ L.holds j p

-- and one that is no entry of it
pub level_away : (peaks words : List ℕ) (at : ℕ → ℕ) (size c y : ℕ) → Level peaks words at size → ((j : ℕ) → j * size < length words → at j ≡ c → ⊥) → Level (set peaks c y) words at size
level_away peaks words at size c y L away = record { holds = λ j p. get_or-set_other peaks c (at j) y 0 (away j p) ∙ L.holds j p }

-- where the three levels stand
abbrev front : ℕ → ℕ
front j = j

abbrev middle : ℕ → ℕ → ℕ
middle m j = m / 2 + j

abbrev last : ℕ → ℕ → ℕ
last m j = m / 2 + m / 4 + j

-- ---- the entries of one level give those of the next
-- eight of one size, or those that there are, give one of the size eight times as large
pub eight_blocks : (peaks words : List ℕ) (s i j n : ℕ) → ((k : ℕ) → k < n → get_or peaks (i + k) 0 ≡ peak words ((j + k) * s) s)
    → (n ≡ 8) ⊎ ((length words ≤ j * s + n * s) × (length words ≤ j * s + 8 * s)) → peak peaks i n ≡ peak words (j * s) (8 * s)
eight_blocks peaks words s i j n f (inl e) = peak_peaks peaks words s i j n f ∙ ap (λ (x : ℕ). peak words (j * s) (x * s)) e
eight_blocks peaks words s i j n f (inr e) = peak_peaks peaks words s i j n f ∙ peak_reach words (j * s) (n * s) (8 * s) e.0 e.1

-- the largest of 8 give those of 64
pub of_low : (peaks words : List ℕ) (q : ℕ) → Level peaks words front 8 → q * 64 < length words → peak peaks (q * 8) (span (q * 8) ((length words + 7) / 8)) ≡ peak words (q * 64) 64
of_low peaks words q L p =
    let n = span (q * 8) ((length words + 7) / 8) in
    let e : q * 8 * 8 ≡ q * 64 = omega arith in
    eight_blocks peaks words 8 (q * 8) (q * 8) n (λ k a. L.holds (q * 8 + k) (omega (arith, a))) (go (ltb (length words) (q * 64 + 64)) refl) ∙ ap (λ (x : ℕ). peak words x 64) e
  where
    go : (t : Bool) → ltb (length words) (q * 64 + 64) ≡ t
        → (span (q * 8) ((length words + 7) / 8) ≡ 8) ⊎ ((length words ≤ q * 8 * 8 + span (q * 8) ((length words + 7) / 8) * 8) × (length words ≤ q * 8 * 8 + 8 * 8))
    go true e = let h = ltb-true (length words) (q * 64 + 64) e in inr (omega (arith, h, p), omega (arith, h))
    go false e = let h = ltb-false (length words) (q * 64 + 64) e in inl (omega (arith, h))

-- those of 64 give those of 512
pub of_high : (peaks words : List ℕ) (q : ℕ) → Level peaks words (middle (length words)) 64 → q * 512 < length words
    → peak peaks (length words / 2 + q * 8) (span (length words / 2 + q * 8) (length words / 2 + (length words + 63) / 64)) ≡ peak words (q * 512) 512
of_high peaks words q L p =
    let m = length words in
    let n = span (m / 2 + q * 8) (m / 2 + (m + 63) / 64) in
    let e : q * 8 * 64 ≡ q * 512 = omega arith in
    eight_blocks peaks words 64 (m / 2 + q * 8) (q * 8) n
    (λ k a. let z : m / 2 + q * 8 + k ≡ m / 2 + (q * 8 + k) = omega arith in ap (λ (x : ℕ). get_or peaks x 0) z ∙ L.holds (q * 8 + k) (omega (arith, a))) (go (ltb (length words) (q * 512 + 512)) refl)
    ∙ ap (λ (x : ℕ). peak words x 512) e
  where
    go : (t : Bool) → ltb (length words) (q * 512 + 512) ≡ t
        → (span (length words / 2 + q * 8) (length words / 2 + (length words + 63) / 64) ≡ 8) ⊎
        ((length words ≤ q * 8 * 64 + span (length words / 2 + q * 8) (length words / 2 + (length words + 63) / 64) * 64) × (length words ≤ q * 8 * 64 + 8 * 64))
    go true e = let h = ltb-true (length words) (q * 512 + 512) e in inr (omega (arith, h, p), omega (arith, h))
    go false e = let h = ltb-false (length words) (q * 512 + 512) e in inl (omega (arith, h))

-- those of 512, two at most, give the largest of all
pub of_top : (peaks words : List ℕ) → Level peaks words (last (length words)) 512 → peak peaks (length words / 2 + length words / 4) ((length words + 511) / 512) ≡ peak words 0 (length words)
of_top peaks words L =
    let m = length words in
    let t = m / 2 + m / 4 in
    let n = (m + 511) / 512 in
    let parts =
    peak_peaks peaks words 512 t 0 n (λ k a. let e : 0 + k ≡ k = omega arith in subst (λ (x : ℕ). get_or peaks (t + k) 0 ≡ peak words (x * 512) 512) (sym e) (L.holds k (omega (arith, a)))) in
    let z : 0 * 512 ≡ 0 = omega arith in
    parts ∙ ap (λ (x : ℕ). peak words x (n * 512)) z ∙ peak_reach words 0 (n * 512) m (omega arith) (omega arith)

-- ---- the word of v is replaced
-- where two levels share an entry there is one block of each, and one value is right for both
shared : (words : List ℕ) (a b i j y : ℕ) → i ≡ 0 → j ≡ 0 → length words ≤ a → length words ≤ b → y ≡ peak words i b → y ≡ peak words j a
shared words a b i j y e f p q r = r ∙ ap (λ (x : ℕ). peak words x b) (e ∙ sym f) ∙ peak_reach words j b a (omega (arith, q)) (omega (arith, p))

module _ (peaks words : List ℕ) (v w : ℕ) (S : Peaks peaks words) (in_words_lem : v < length words) where
  long : length (set words v w) ≡ length words
  long = length-set words v w

  abbrev in_high : ℕ
  in_high = length words / 2 + v / 64

  abbrev in_top : ℕ
  in_top = length words / 2 + length words / 4 + v / 512

  -- the largest of its 8 is set right
  module _ (x : ℕ) (low_right : x ≡ peak (set words v w) (v / 8 * 8) 8) where
    pub low_settled : Level (set peaks (v / 8) x) (set words v w) front 8
    low_settled = level_settled peaks (set words v w) front 8 (v / 8) x (level_moved peaks words front 8 v (v / 8) w S.low (block_8 v)) (λ j e. e) (omega (arith, S.same, in_words_lem)) low_right

    -- then the largest of its 64
    module _ (y : ℕ) (high_right : y ≡ peak (set words v w) (v / 64 * 64) 64) where
      room : in_high < length (set peaks (v / 8) x)
      room = omega (arith, length-set peaks (v / 8) x, S.same, in_words_lem)

      room_top : in_top < length (set (set peaks (v / 8) x) in_high y)
      room_top = omega (arith, length-set (set peaks (v / 8) x) in_high y, length-set peaks (v / 8) x, S.same, in_words_lem)

      pub high_settled : Level (set (set peaks (v / 8) x) in_high y) (set words v w) (middle (length words)) 64
      high_settled =
          level_settled (set peaks (v / 8) x) (set words v w) (middle (length words)) 64 (v / 64) y
          (unsettled_beside peaks (set words v w) (middle (length words)) 64 (v / 64) (v / 8) x (level_moved peaks words (middle (length words)) 64 v (v / 64) w S.high (block_64 v))
          (λ j p n e. n (omega (arith, p, e, long, in_words_lem))))
          (λ j e. omega (arith, e)) room high_right

      low_beside : Level (set (set peaks (v / 8) x) in_high y) (set words v w) front 8
      low_beside =
          level_beside (set peaks (v / 8) x) (set words v w) front 8 in_high y low_settled room (λ j p e.
          shared (set words v w) 8 64 (v / 64 * 64) (j * 8) y (omega (arith, p, e, long, in_words_lem)) (omega (arith, p, e, long, in_words_lem)) (omega (arith, p, e, long, in_words_lem))
          (omega (arith, p, e, long, in_words_lem)) high_right)

      top_waits : Unsettled (set (set peaks (v / 8) x) in_high y) (set words v w) (last (length words)) 512 (v / 512)
      top_waits =
          unsettled_beside (set peaks (v / 8) x) (set words v w) (last (length words)) 512 (v / 512) in_high y
          (unsettled_beside peaks (set words v w) (last (length words)) 512 (v / 512) (v / 8) x (level_moved peaks words (last (length words)) 512 v (v / 512) w S.top (block_512 v))
          (λ j p n e. n (omega (arith, p, e, long, in_words_lem))))
          (λ j p n e. n (omega (arith, p, e, long, in_words_lem)))

      -- and then the largest of its 512
      pub peaks_settled : (z : ℕ) → z ≡ peak (set words v w) (v / 512 * 512) 512 → Peaks (set (set (set peaks (v / 8) x) in_high y) in_top z) (set words v w)
      peaks_settled z top_right = record {
        few = omega (arith, long, S.few);
        same = length-set (set (set peaks (v / 8) x) in_high y) in_top z ∙ length-set (set peaks (v / 8) x) in_high y ∙ length-set peaks (v / 8) x ∙ S.same ∙ sym long;
        low =
            level_beside (set (set peaks (v / 8) x) in_high y) (set words v w) front 8 in_top z low_beside room_top (λ j p e.
            shared (set words v w) 8 512 (v / 512 * 512) (j * 8) z (omega (arith, p, e, long, in_words_lem)) (omega (arith, p, e, long, in_words_lem)) (omega (arith, p, e, long, in_words_lem))
            (omega (arith, p, e, long, in_words_lem)) top_right);
        high =
            subst (λ (m : ℕ). Level (set (set (set peaks (v / 8) x) in_high y) in_top z) (set words v w) (middle m) 64) (sym long)
            (level_beside (set (set peaks (v / 8) x) in_high y) (set words v w) (middle (length words)) 64 in_top z high_settled room_top (λ j p e.
            shared (set words v w) 64 512 (v / 512 * 512) (j * 64) z (omega (arith, p, e, long, in_words_lem)) (omega (arith, p, e, long, in_words_lem)) (omega (arith, p, e, long, in_words_lem))
            (omega (arith, p, e, long, in_words_lem)) top_right));
        top =
            subst (λ (m : ℕ). Level (set (set (set peaks (v / 8) x) in_high y) in_top z) (set words v w) (last m) 512) (sym long)
            (level_settled (set (set peaks (v / 8) x) in_high y) (set words v w) (last (length words)) 512 (v / 512) z top_waits (λ j e. omega (arith, e)) room_top top_right);
      }

-- ---- what the functions leave
-- an entry that grows to w, and then another or the same
lift_lift : (peaks : List ℕ) (c i w : ℕ) → c < length peaks → max (get_or (set peaks c (max (get_or peaks c 0) w)) i 0) w ≡ max (get_or peaks i 0) w
lift_lift peaks c i w p = go (ℕ_discrete i c)
  where
    go : Dec (i ≡ c) → max (get_or (set peaks c (max (get_or peaks c 0) w)) i 0) w ≡ max (get_or peaks i 0) w
    go (no d) = ap (λ (x : ℕ). max x w) (get_or-set_other peaks c i (max (get_or peaks c 0) w) 0 d)
    go (yes d) =
        let a : get_or (set peaks c (max (get_or peaks c 0) w)) i 0 ≡ max (get_or peaks c 0) w =
        ap (λ (x : ℕ). get_or (set peaks c (max (get_or peaks c 0) w)) x 0) d ∙ get_or-set_same peaks c (max (get_or peaks c 0) w) 0 p in
        omega (arith, a, ap (λ (x : ℕ). get_or peaks x 0) d)

-- what stands for a block grows with the word in it
block_grown : (peaks words : List ℕ) (at : ℕ → ℕ) (size v q w : ℕ) → Level peaks words at size → Block size v q → v < length words → get_or words v 0 ≤ w
    → max (get_or peaks (at q) 0) w ≡ peak (set words v w) (q * size) size
block_grown peaks words at size v q w L B in_words_lem grown =
    let in_q : q * size < length words = omega (arith, B.from, in_words_lem) in ap (λ (x : ℕ). max x w) (L.holds q in_q) ∙ sym (peak_grown words v w (q * size) size in_words_lem B.from B.to grown)

-- after a raise
pub peaks_raised : (peaks words : List ℕ) (v w m : ℕ) (peaks₁ peaks₂ peaks₃ : List ℕ) → Peaks peaks words → v < length words → get_or words v 0 ≤ w → m ≡ length words
    → peaks₁ ≡ set peaks (v / 8) (max (get_or peaks (v / 8) 0) w) → peaks₂ ≡ set peaks₁ (m / 2 + v / 64) (max (get_or peaks₁ (m / 2 + v / 64) 0) w)
    → peaks₃ ≡ set peaks₂ (m / 2 + m / 4 + v / 512) (max (get_or peaks₂ (m / 2 + m / 4 + v / 512) 0) w) → Peaks peaks₃ (set words v w)
peaks_raised peaks words v w m peaks₁ peaks₂ peaks₃ S in_words_lem grown long e₁ e₂ e₃ =
    let high = length words / 2 + v / 64 in
    let top = length words / 2 + length words / 4 + v / 512 in
    let x = max (get_or peaks (v / 8) 0) w in
    let h₁ = set peaks (v / 8) x in
    let y = max (get_or h₁ high 0) w in
    let h₂ = set h₁ high y in
    let in_low : v / 8 < length peaks = omega (arith, S.same, in_words_lem) in
    let in_high : high < length h₁ = omega (arith, length-set peaks (v / 8) x, S.same, in_words_lem) in
    let low_right = block_grown peaks words front 8 v (v / 8) w S.low (block_8 v) in_words_lem grown in
    let high_right = lift_lift peaks (v / 8) high w in_low ∙ block_grown peaks words (middle (length words)) 64 v (v / 64) w S.high (block_64 v) in_words_lem grown in
    let top_right = lift_lift h₁ high top w in_high ∙ lift_lift peaks (v / 8) top w in_low ∙ block_grown peaks words (last (length words)) 512 v (v / 512) w S.top (block_512 v) in_words_lem grown in
    rw (e₃, e₂, e₁, long) (peaks_settled peaks words v w S in_words_lem x low_right y high_right (max (get_or h₂ top 0) w) top_right)

-- after a clear
pub peaks_cleared : (peaks words : List ℕ) (v w m x y z : ℕ) → Peaks peaks words → v < length words → m ≡ length words → x ≡ peak (set words v w) (v / 8 * 8) (span (v / 8 * 8) m)
    → y ≡ peak (set peaks (v / 8) x) (v / 64 * 8) (span (v / 64 * 8) ((m + 7) / 8))
    → z ≡ peak (set (set peaks (v / 8) x) (m / 2 + v / 64) y) (m / 2 + v / 512 * 8) (span (m / 2 + v / 512 * 8) (m / 2 + (m + 63) / 64))
    → Peaks (set (set (set peaks (v / 8) x) (m / 2 + v / 64) y) (m / 2 + m / 4 + v / 512) z) (set words v w)
peaks_cleared peaks words v w m x y z S in_words_lem long e₁ e₂ e₃ =
    let p = set words v w in
    let h₁ = set peaks (v / 8) x in
    let h₂ = set h₁ (length words / 2 + v / 64) y in
    let same : length words ≡ length p = sym (length-set words v w) in
    let low : x ≡ peak p (v / 8 * 8) 8 = e₁ ∙ ap (λ (n : ℕ). peak p (v / 8 * 8) (span (v / 8 * 8) n)) (long ∙ same) ∙ group_end p (v / 8 * 8) in
    let high : y ≡ peak p (v / 64 * 64) 64 =
    e₂ ∙ ap (λ (n : ℕ). peak h₁ (v / 64 * 8) (span (v / 64 * 8) ((n + 7) / 8))) (long ∙ same) ∙ of_low h₁ p (v / 64)
    (low_settled peaks words v w S in_words_lem x low) (omega (arith, same, in_words_lem)) in
    let settled = subst (λ (n : ℕ). Level h₂ p (middle n) 64) same (high_settled peaks words v w S in_words_lem x low y high) in
    let top : z ≡ peak p (v / 512 * 512) 512 = e₃ ∙ ap (λ (n : ℕ). peak (set h₁ (n / 2 + v / 64) y) (n / 2 + v / 512 * 8) (span (n / 2 + v / 512 * 8) (n / 2 + (n + 63) / 64))) long
    ∙ ap (λ (n : ℕ). peak h₂ (n / 2 + v / 512 * 8) (span (n / 2 + v / 512 * 8) (n / 2 + (n + 63) / 64))) same ∙ of_high h₂ p (v / 512) settled (omega (arith, same, in_words_lem)) in
    rw long (peaks_settled peaks words v w S in_words_lem x low y high z top)

-- after a note: the last entry is none of them
pub peaks_noted : (peaks words : List ℕ) (v : ℕ) → Peaks peaks words → 4 < length words → Peaks (set peaks (length words - 1) v) words
peaks_noted peaks words v S many = record {
  few = S.few;
  same = length-set peaks (length words - 1) v ∙ S.same;
  low = level_away peaks words front 8 (length words - 1) v S.low (λ j p e. omega (arith, p, e, many));
  high = level_away peaks words (middle (length words)) 64 (length words - 1) v S.high (λ j p e. omega (arith, p, e, many));
  top = level_away peaks words (last (length words)) 512 (length words - 1) v S.top (λ j p e. omega (arith, p, e, many));
}

-- after the only word is gone
pub peaks_emptied : (peaks words : List ℕ) (v m : ℕ) → Peaks peaks words → v < length words → ((u : ℕ) → 0 < get_or words u 0 → u ≡ v) → m ≡ length words
    → Peaks (set (set (set peaks (v / 8) 0) (m / 2 + v / 64) 0) (m / 2 + m / 4 + v / 512) 0) (set words v 0)
peaks_emptied peaks words v m S in_words_lem only long =
    rw long (peaks_settled peaks words v 0 S in_words_lem 0 (none (v / 8 * 8) 8) 0 (none (v / 64 * 64) 64) 0 (none (v / 512 * 512) 512))
  where
    gone : (k : ℕ) → Dec (k ≡ v) → get_or (set words v 0) k 0 ≤ 0
    gone k (yes d) = omega (arith, ap (λ (x : ℕ). get_or (set words v 0) x 0) d, get_or-set_same words v 0 0 in_words_lem)
    gone k (no d) = go (ℕ_discrete (get_or words k 0) 0)
      where
        go : Dec (get_or words k 0 ≡ 0) → get_or (set words v 0) k 0 ≤ 0
        go (yes e) = omega (arith, e, get_or-set_other words v k 0 0 d)
        go (no e) = absurd (d (only k (omega (arith, e))))

    none : (i n : ℕ) → 0 ≡ peak (set words v 0) i n
    none i n = let h = peak_below (set words v 0) i n 0 (λ k a b. gone k (ℕ_discrete k v)) in omega (arith, h)

-- ---- the largest of all
-- there is one block of 512, or there are two
pub top_one : (peaks words : List ℕ) → Peaks peaks words → 0 < length words → length words ≤ 512 → get_or peaks (length words / 2 + length words / 4) 0 ≡ peak words 0 (length words)
top_one peaks words S some few =
    let n : (length words + 511) / 512 ≡ 1 = omega (arith, some, few) in
    sym (peak_one peaks (length words / 2 + length words / 4)) ∙ ap (peak peaks (length words / 2 + length words / 4)) (sym n) ∙ of_top peaks words S.top

pub top_two : (peaks words : List ℕ) → Peaks peaks words → 512 < length words → peak peaks (length words / 2 + length words / 4) 2 ≡ peak words 0 (length words)
top_two peaks words S many =
    let n : (length words + 511) / 512 ≡ 2 = omega (arith, many, S.few) in
    ap (peak peaks (length words / 2 + length words / 4)) (sym n) ∙ of_top peaks words S.top
