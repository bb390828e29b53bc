-- The first of the largest words. The first block that has the largest word has in it the first index that has it; so the
-- way goes from the blocks of 512 to those of 64, to those of 8, to the word, each time to the first. Assumes nothing.
use mir.Val.{bool_byte}
use mathlib.Core.Path.{◌≡◌, refl, sym, ap, subst, ◌∙◌}
use mathlib.Core.Bool.{Bool, true, false}
use mathlib.Core.List.{List}
use Prim.Native.Nat.{ℕ, zero, suc, ◌+◌, ◌-◌, ◌*◌, ◌/◌, ◌≤◌, ◌<◌}
use native.Mathlib.Omega.{arith}
use native.Mathlib.Decide.{ℕ_discrete}
use lib.Dec.{ltb, eqb}
use lib.ListN.{get_or, length, get_or-eq_default}
use borrow.Author.Tests.{ltb-true, ltb-false, eqb-true, eqb-false}
use Rattle.bag.specs.Order.{pick}
use Rattle.bag.specs.Peaks.{peak, span, Level, Peaks, FirstOf, first_from}
use Rattle.bag.proofs.Largest.{peak_two, peak_past, peak_above, peak_below, Has, peak_has, group_end, of_low, of_high, top_one, top_two}

-- ---- looked for entry by entry
-- one entry more
pub first_more : (l : List ℕ) (i n w : ℕ) → first_from l i (suc n) w ≡ pick (eqb (get_or l i 0) w) i (first_from l (i + 1) n w)
unfolding first_from
first_more l i n w = refl

pub first_step : (l : List ℕ) (i n w j x y : ℕ) → j ≡ i + 1 → x ≡ first_from l j n w → y ≡ pick (eqb (get_or l i 0) w) i x → y ≡ first_from l i (suc n) w
first_step l i n w j x y e f g = g ∙ ap (pick (eqb (get_or l i 0) w) i) (f ∙ ap (λ (k : ℕ). first_from l k n w) e) ∙ sym (first_more l i n w)

pub first_none : (l : List ℕ) (i w : ℕ) → first_from l i 0 w ≡ i
unfolding first_from
first_none l i w = refl

-- the last need not be looked at, if one of them is w
pub first_is : (l : List ℕ) (i n w : ℕ) → Has l i (suc n) w → FirstOf l i (suc n) w (first_from l i n w)
first_is l i zero w h =
    let e : h.at ≡ i = omega (arith, h.from, h.to) in
    subst (FirstOf l i 1 w) (sym (first_none l i w)) (record { from = omega arith; to = omega arith; is = subst (λ (x : ℕ). get_or l x 0 ≡ w) e h.is; no_sooner = λ k a b z. omega (arith, a, b) })
first_is l i (suc n) w h = go (eqb (get_or l i 0) w) refl (λ g. first_is l (i + 1) n w g)
  where
    go : (t : Bool) → eqb (get_or l i 0) w ≡ t → (Has l (i + 1) (suc n) w → FirstOf l (i + 1) (suc n) w (first_from l (i + 1) n w)) → FirstOf l i (suc (suc n)) w (first_from l i (suc n) w)
    go true e f =
        let here : first_from l i (suc n) w ≡ i = first_more l i n w ∙ ap (λ (t : Bool). pick t i (first_from l (i + 1) n w)) e in
        subst (FirstOf l i (suc (suc n)) w) (sym here) (record { from = omega arith; to = omega arith; is = eqb-true (get_or l i 0) w e; no_sooner = λ k a b z. omega (arith, a, b) })
    go false e f =
        let other = eqb-false (get_or l i 0) w e in
        let later : h.at ≡ i → ⊥ = λ z. other (subst (λ (x : ℕ). get_or l x 0 ≡ w) z h.is) in
        let F = f (record { at = h.at; from = omega (arith, h.from, later); to = omega (arith, h.to); is = h.is }) in
        let on : first_from l i (suc n) w ≡ first_from l (i + 1) n w = first_more l i n w ∙ ap (λ (t : Bool). pick t i (first_from l (i + 1) n w)) e in
        subst (FirstOf l i (suc (suc n)) w) (sym on) (record { from = omega (arith, F.from); to = omega (arith, F.to); is = F.is; no_sooner = λ k a b z. sooner F other k a b z (ℕ_discrete k i) })
      where
        sooner : FirstOf l (i + 1) (suc n) w (first_from l (i + 1) n w) → (get_or l i 0 ≡ w → ⊥) → (k : ℕ) → i ≤ k → k < first_from l (i + 1) n w → get_or l k 0 ≡ w → Dec (k ≡ i) → ⊥
        sooner F o k a b z (yes d) = o (subst (λ (x : ℕ). get_or l x 0 ≡ w) d z)
        sooner F o k a b z (no d) = F.no_sooner k (omega (arith, a, d)) b z

-- the largest of eight is among them
pub first_eight : (l : List ℕ) (i end w : ℕ) → i + 8 ≤ end → w ≡ peak l i (span i end) → 0 < w → FirstOf l i (span i end) w (first_from l i 7 w)
first_eight l i end w p e s =
    let n : span i end ≡ 8 = omega (arith, p) in
    subst (λ (x : ℕ). FirstOf l i x w (first_from l i 7 w)) (sym n)
    (first_is l i 7 w (subst (λ (x : ℕ). Has l i x w) n (subst (Has l i (span i end)) (sym e) (peak_has l i (span i end) (subst (λ (x : ℕ). 0 < x) e s)))))

-- the largest of n entries is among them, whether or not the last is looked at
pub first_found : (l : List ℕ) (i n w : ℕ) → Has l i n w → FirstOf l i n w (first_from l i n w)
first_found l i n w h = go (first_is l i n w (record { at = h.at; from = h.from; to = omega (arith, h.to); is = h.is }))
  where
    go : FirstOf l i (suc n) w (first_from l i n w) → FirstOf l i n w (first_from l i n w)
    go F = record { from = F.from; to = near (ltb h.at (first_from l i n w)) refl; is = F.is; no_sooner = F.no_sooner }
      where
        near : (t : Bool) → ltb h.at (first_from l i n w) ≡ t → first_from l i n w < i + n
        near true e = absurd (F.no_sooner h.at h.from (ltb-true h.at (first_from l i n w) e) h.is)
        near false e = omega (arith, h.to, ltb-false h.at (first_from l i n w) e)

-- looked for from the end on
pub first_rest : (l : List ℕ) (i end w : ℕ) → w ≡ peak l i (end - i) → 0 < w → FirstOf l i (end - i) w (first_from l i (end - i) w)
first_rest l i end w e s = first_found l i (end - i) w (subst (Has l i (end - i)) (sym e) (peak_has l i (end - i) (subst (λ (x : ℕ). 0 < x) e s)))

-- there is an entry to look at
pub rest_room : (l : List ℕ) (i end w : ℕ) → w ≡ peak l i (end - i) → 0 < w → i ≤ end
rest_room l i end w e s = let h = peak_has l i (end - i) (subst (λ (x : ℕ). 0 < x) e s) in omega (arith, h.from, h.to)

-- the end, and one entry before
pub rest_none : (l : List ℕ) (end w : ℕ) → end ≡ first_from l end (end - end) w
rest_none l end w = let z : end - end ≡ 0 = omega arith in rw z (sym (first_none l end w))

pub rest_more : (l : List ℕ) (k end w r s : ℕ) → 0 < k → k ≤ end → r ≡ first_from l k (end - k) w → s ≡ pick (eqb (get_or l (k - 1) 0) w) (k - 1) r → s ≡ first_from l (k - 1) (end - (k - 1)) w
rest_more l k end w r s p q e f =
    let n : suc (end - k) ≡ end - (k - 1) = omega (arith, p, q) in
    subst (λ (x : ℕ). s ≡ first_from l (k - 1) x w) n (first_step l (k - 1) (end - k) w k r s (omega (arith, p)) e f)

-- where something is larger than 0 there is an entry
pub peak_room : (l : List ℕ) (i : ℕ) → 0 < peak l i (length l) → 0 < length l
peak_room l i s = go (length l) refl
  where
    go : (n : ℕ) → length l ≡ n → 0 < length l
    go zero e = absurd (omega (arith, s, peak_past l i (length l) (omega (arith, e))))
    go (suc n) e = omega (arith, e)

-- ---- from block to block
module _ (peaks words : List ℕ) (S : Peaks peaks words) (w : ℕ) (most : w ≡ peak words 0 (length words)) where
  abbrev middle : ℕ
  middle = length words / 2

  abbrev last : ℕ
  last = length words / 2 + length words / 4

  -- no word is larger
  under : (u : ℕ) → u < length words → get_or words u 0 ≤ w
  under u p = subst (λ (x : ℕ). get_or words u 0 ≤ x) (sym most) (peak_above words 0 (length words) u (omega arith) (omega (arith, p)))

  peak_under : (i n : ℕ) → peak words i n ≤ w
  peak_under i n = peak_below words i n w (λ k a b. go k (ltb k (length words)) refl)
    where
      go : (k : ℕ) (t : Bool) → ltb k (length words) ≡ t → get_or words k 0 ≤ w
      go k true e = under k (ltb-true k (length words) e)
      go k false e = omega (arith, get_or-eq_default words 0 {n = k} (ltb-false k (length words) e))

  -- the first block of 512 that has w: the first of all, or the second
  module _ (room : 0 < length words) where
    top_front : w ≤ get_or peaks last 0 → FirstOf peaks last ((length words + 511) / 512) w (last + 0)
    top_front e =
        let here : get_or peaks (last + 0) 0 ≡ peak words (0 * 512) 512 = S.top.holds 0 (omega (arith, room)) in
        let z : last + 0 ≡ last = omega arith in
        let same = ap (λ (x : ℕ). get_or peaks x 0) z in
        record { from = omega arith; to = omega (arith, room); is = omega (arith, here, same, e, peak_under (0 * 512) 512); no_sooner = λ k a b f. omega (arith, a, b) }

    top_back : get_or peaks last 0 < w → FirstOf peaks last ((length words + 511) / 512) w (last + 1)
    top_back e = go (ltb 512 (length words)) refl
      where
        go : (t : Bool) → ltb 512 (length words) ≡ t → FirstOf peaks last ((length words + 511) / 512) w (last + 1)
        go false f = absurd (omega (arith, e, most, top_one peaks words S room (ltb-false 512 (length words) f)))
        go true f =
            let many = ltb-true 512 (length words) f in
            let both = peak_two peaks last ∙ top_two peaks words S many ∙ sym most in
            record {
              from = omega arith;
              to = omega (arith, many);
              is = omega (arith, e, both);
              no_sooner = λ k a b g. let z : k ≡ last = omega (arith, a, b) in omega (arith, e, g, ap (λ (x : ℕ). get_or peaks x 0) z);
            }

    pub top_first : (r : ℕ) → r ≡ bool_byte (ltb (get_or peaks last 0) w) → FirstOf peaks last ((length words + 511) / 512) w (last + r)
    top_first r = go (ltb (get_or peaks last 0) w) refl
      where
        go : (t : Bool) → ltb (get_or peaks last 0) w ≡ t → r ≡ bool_byte t → FirstOf peaks last ((length words + 511) / 512) w (last + r)
        go true e f = subst (λ (x : ℕ). FirstOf peaks last ((length words + 511) / 512) w (last + x)) (sym f) (top_back (ltb-true (get_or peaks last 0) w e))
        go false e f = subst (λ (x : ℕ). FirstOf peaks last ((length words + 511) / 512) w (last + x)) (sym f) (top_front (ltb-false (get_or peaks last 0) w e))

  -- in it
  module _ (a : ℕ) (A : FirstOf peaks last ((length words + 511) / 512) w (last + a)) where
    a_in : a * 512 < length words
    a_in = omega (arith, A.to)

    pub top_right : w ≡ peak peaks (middle + a * 8) (span (middle + a * 8) (middle + (length words + 63) / 64))
    top_right = sym A.is ∙ S.top.holds a a_in ∙ sym (of_high peaks words a S.high a_in)

    -- the first block of 64
    module _ (h : ℕ) (H : FirstOf peaks (middle + a * 8) (span (middle + a * 8) (middle + (length words + 63) / 64)) w h) where
      -- it is its b-th
      abbrev b : ℕ
      b = h - middle

      b_in : b * 64 < length words
      b_in = omega (arith, H.from, H.to)

      pub high_right : w ≡ peak peaks (b * 8) (span (b * 8) ((length words + 7) / 8))
      high_right =
          let e : middle + b ≡ h = omega (arith, H.from) in
          sym H.is ∙ ap (λ (x : ℕ). get_or peaks x 0) (sym e) ∙ S.high.holds b b_in ∙ sym (of_low peaks words b S.low b_in)

      -- in it the first block of 8
      module _ (c : ℕ) (C : FirstOf peaks (b * 8) (span (b * 8) ((length words + 7) / 8)) w c) where
        c_in : c * 8 < length words
        c_in = omega (arith, C.from, C.to)

        pub low_right : w ≡ peak words (c * 8) (span (c * 8) (length words))
        low_right = sym C.is ∙ S.low.holds c c_in ∙ sym (group_end words (c * 8))

        -- and in it the first index
        pub first_all : (r : ℕ) → FirstOf words (c * 8) (span (c * 8) (length words)) w r → FirstOf words 0 (length words) w r
        first_all r R = record { from = omega arith; to = omega (arith, R.from, R.to); is = R.is; no_sooner = λ u p q z. none u (omega (arith, q, R.from, R.to)) q z }
          where
            -- a block that has w in it has it as its largest
            largest : (at : ℕ → ℕ) (size u j : ℕ) → Level peaks words at size → j * size ≤ u → u < j * size + size → u < length words → get_or words u 0 ≡ w → get_or peaks (at j) 0 ≡ w
            largest at size u j L from to p z = omega (arith, L.holds j (omega (arith, from, p)), z, peak_above words (j * size) size u from to, peak_under (j * size) size)

            none : (u : ℕ) → u < length words → u < r → get_or words u 0 ≡ w → ⊥
            none u p q z = go (ltb u (c * 8)) refl (ltb (u / 8) (b * 8)) refl (ltb (u / 64) (a * 8)) refl
              where
                go : (s : Bool) → ltb u (c * 8) ≡ s → (t : Bool) → ltb (u / 8) (b * 8) ≡ t → (x : Bool) → ltb (u / 64) (a * 8) ≡ x → ⊥
                go false e t f x g = R.no_sooner u (ltb-false u (c * 8) e) q z
                go true e false f x g = C.no_sooner (u / 8) (ltb-false (u / 8) (b * 8) f) (omega (arith, ltb-true u (c * 8) e)) (largest (λ j. j) 8 u (u / 8) S.low (omega arith) (omega arith) p z)
                go true e true f false g =
                    H.no_sooner (middle + u / 64) (omega (arith, ltb-false (u / 64) (a * 8) g)) (omega (arith, H.from, ltb-true (u / 8) (b * 8) f))
                    (largest (λ j. middle + j) 64 u (u / 64) S.high (omega arith) (omega arith) p z)
                go true e true f true g =
                    A.no_sooner (last + u / 512) (omega arith) (omega (arith, ltb-true (u / 64) (a * 8) g)) (largest (λ j. last + j) 512 u (u / 512) S.top (omega arith) (omega arith) p z)
