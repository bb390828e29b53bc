-- What a push and a take make of a bag, once for every kind of key: the content, how many there are, and the words.
-- A take clears the word of the index that it gives: the others keep word and key, so the rest is a bag with one less, and its content is the one before without
-- that pair. A push stores v's word and key: the others keep theirs, and v's word grows, since a key that is lowered has a larger word. The first index with the
-- largest word is pending, and no pair stands before its pair: one that did would have a larger word, or the same word and a smaller index.
-- Assumes nothing.
use mathlib.Core.Path.{◌≡◌, refl, sym, ap, subst, ◌∙◌}
use mathlib.Core.Bool.{Bool, true, false}
use mathlib.Core.List.{List}
use mathlib.Core.Option.{none, some}
use Prim.Native.Nat.{ℕ, ◌+◌, ◌-◌, ◌≤◌, ◌<◌, zero-le}
use native.Mathlib.Omega.{arith}
use native.Mathlib.Decide.{ℕ_discrete}
use lib.Dec.{ltb}
use borrow.Author.Tests.{ltb-true, ltb-false}
use lib.ListN.{get_or, length, set, length-set}
use lib.Seq.{get_or-set_same, get_or-set_other}
use Rattle.bag.specs.Order.{before}
use Rattle.bag.specs.Keys.{Keys, RightWords, Worded}
use Rattle.bag.specs.Content.{content_of, IsLeast, held}
use Rattle.bag.specs.Peaks.{peak, Peaks, FirstOf}
use Rattle.bag.specs.Bag.{Bag, NotAbove}
use Rattle.bag.proofs.Order.{is_later}
use Rattle.bag.proofs.Largest.{peak_above, peak_has}
use Rattle.bag.proofs.Content.{inside, Some, some_held, any_default, content_out, content_in, held_place, held_key, place_held, held_out}

module _ {K : Type 0} (o : Keys K) (peaks words : List ℕ) (keys : List K) (n : ℕ) (B : Bag o peaks words keys n) where
  -- ---- words that are not 0
  -- where there are pairs an index is pending
  any : 0 < n → Some words
  any more = some_held words (omega (arith, B.many, more))

  -- so there is a place
  pub room : 0 < n → 0 < length words
  room more = omega (arith, inside words (any more).at (any more).is)

  -- the largest word is not 0
  under : (u : ℕ) → 0 < get_or words u 0 → get_or words u 0 ≤ peak words 0 (length words)
  under u s = peak_above words 0 (length words) u zero-le (omega (arith, inside words u s))

  -- each word is its index's with the key that stands there
  pub worded : Worded o words
  worded = record { key = λ v h. get_or keys v o.none; is = B.word }

  pub most_some : 0 < n → 0 < peak words 0 (length words)
  most_some more = omega (arith, (any more).is, under (any more).at (any more).is)

  -- ---- a take
  module _ (r : ℕ) (has : 0 < get_or words r 0) where
    r< : r < length words
    r< = inside words r has

    -- where there is one pair it is the only one
    pub alone : n ≡ 1 → (u : ℕ) → 0 < get_or words u 0 → u ≡ r
    alone one u s = go (ℕ_discrete u r)
      where
        go : Dec (u ≡ r) → u ≡ r
        go (yes e) = e
        go (no d) =
            let e = get_or-set_other words r u 0 0 d in
            let less = held_out words r (get_or words r 0 - 1) (omega (arith, has)) in
            absurd (omega (arith, one, B.many, less, held_out (set words r 0) u (get_or words u 0 - 1) (omega (arith, s, e))))

    -- and so the first that has the largest word
    pub alone_first : n ≡ 1 → FirstOf words 0 (length words) (peak words 0 (length words)) r
    alone_first one =
        let h = peak_has words 0 (length words) (omega (arith, has, under r has)) in
        let only = alone one in
        let e = only h.at (omega (arith, has, under r has, h.is)) in
        record { from = zero-le; to = omega (arith, r<); is = ap (λ (u : ℕ). get_or words u 0) (sym e) ∙ h.is; no_sooner = λ u a b f. omega (arith, only u (omega (arith, has, under r has, f)), b) }

    -- a pair is the least if none that is pending stands before it; whatever is read past the end
    least_pair : ((u : ℕ) → 0 < get_or words u 0 → before o.lt (get_or keys u o.none) u (get_or keys r o.none) r ≡ false) → (d : K) → IsLeast o.lt (content_of words keys) (get_or keys r d) r
    least_pair first d = subst (λ (x : K). IsLeast o.lt (content_of words keys) x r) (any_default keys r o.none d (omega (arith, r<, B.long)))
        (record {
          found = place_held words keys o.none r (get_or words r 0 - 1) B.long (omega (arith, has));
          least = λ j u e.
              let h = held_place words keys o.none u j B.long e in
              subst (λ (x : K). before o.lt x u (get_or keys r o.none) r ≡ false) (held_key words keys o.none u j B.long e) (first u (omega (arith, h.1)));
        })

    -- the rest is a bag
    rest_bag : (peaks' words' : List ℕ) → words' ≡ set words r 0 → Peaks peaks' words' → Bag o peaks' words' keys (n - 1)
    rest_bag peaks' words' e S =
        subst (λ (l : List ℕ). Bag o peaks' l keys (n - 1)) (sym e)
        (record {
          long = B.long ∙ sym long;
          many = omega (arith, B.many, held_out words r (get_or words r 0 - 1) (omega (arith, has)));
          word = λ v h. let q = other v h in q.0 ∙ B.word v q.1;
          okay = λ v h. B.okay v (other v h).1;
          shape = subst (Peaks peaks') e S;
        })
      where
        long : length (set words r 0) ≡ length words
        long = length-set words r 0

        other : (v : ℕ) → 0 < get_or (set words r 0) v 0 → (get_or (set words r 0) v 0 ≡ get_or words v 0) × (0 < get_or words v 0)
        other v h = go (ℕ_discrete v r)
          where
            go : Dec (v ≡ r) → (get_or (set words r 0) v 0 ≡ get_or words v 0) × (0 < get_or words v 0)
            go (yes d) = absurd (omega (arith, h, ap (λ (x : ℕ). get_or (set words r 0) x 0) d, get_or-set_same words r 0 0 r<))
            go (no d) = let s = get_or-set_other words r v 0 0 d in (s, omega (arith, s, h))

  -- the first index that has the largest word
  module _ (R : RightWords o) (more : 0 < n) (r : ℕ) (F : FirstOf words 0 (length words) (peak words 0 (length words)) r) where
    first_has : 0 < get_or words r 0
    first_has = omega (arith, F.is, most_some more)

    pub first_in : r < length words
    first_in = inside words r first_has

    -- a pair that is pending does not stand before its pair
    module _ (u : ℕ) (s : 0 < get_or words u 0) where
      abbrev j : K
      j = get_or keys u o.none

      abbrev k : K
      k = get_or keys r o.none

      u< : u < 1024
      u< = omega (arith, inside words u s, B.shape.few)

      r<1024 : r < 1024
      r<1024 = omega (arith, F.to, B.shape.few)

      no_larger : o.word j u ≤ o.word k r
      no_larger = omega (arith, B.word u s, B.word r first_has, under u s, F.is)

      no_less : (t : Bool) → o.lt j k ≡ t → o.lt j k ≡ false
      no_less false e = e
      no_less true e = absurd (omega (arith, no_larger, R.below j u k r (B.okay u s) (B.okay r first_has) u< r<1024 e))

      no_later : o.word j u ≡ o.word k r → (t : Bool) → ltb u r ≡ t → r ≤ u
      no_later e true f = absurd (F.no_sooner u zero-le (ltb-true u r f) (B.word u s ∙ e ∙ sym (B.word r first_has) ∙ F.is))
      no_later e false f = ltb-false u r f

      first_first : before o.lt j u k r ≡ false
      first_first =
          let less = no_less (o.lt j k) refl in
          is_later o.lt j u k r less (λ e. R.tie j u k r (B.okay u s) (B.okay r first_has) u< r<1024 less e no_larger (λ f. no_later f (ltb u r) refl))

    -- all that a take of it promises
    pub taken : (d : K) (peaks' words' : List ℕ) → words' ≡ set words r 0 → Peaks peaks' words'
        → IsLeast o.lt (content_of words keys) (get_or keys r d) r × (Bag o peaks' words' keys (n - 1) × (content_of words' keys ≡ set (content_of words keys) r none))
    taken d peaks' words' e S = (least_pair r first_has first_first d, (rest_bag r first_has peaks' words' e S, ap (λ (l : List ℕ). content_of l keys) e ∙ content_out words keys r))

  -- ---- a push
  module _ (R : RightWords o) (v : ℕ) (k : K) (in_words_lem : v < length words) (good : o.ok k) where
    -- v's word grows
    pub grows : NotAbove o (content_of words keys) v k → get_or words v 0 ≤ o.word k v
    grows lower = go (ℕ_discrete (get_or words v 0) 0)
      where
        go : Dec (get_or words v 0 ≡ 0) → get_or words v 0 ≤ o.word k v
        go (yes e) = omega (arith, e)
        go (no e) =
            let s : 0 < get_or words v 0 = omega (arith, e) in
            let j = get_or keys v o.none in
            let none_above = lower.lower j (place_held words keys o.none v (get_or words v 0 - 1) B.long (omega (arith, s))) in
            omega (arith, B.word v s, R.grow j k v (B.okay v s) good none_above)

    -- all that a push promises
    module _ (peaks' words' : List ℕ) (r : ℕ) (e : words' ≡ set words v (o.word k v)) (S : Peaks peaks' words') (many : r ≡ held words') where
      pushed_bag : Bag o peaks' words' (set keys v k) r
      pushed_bag =
          subst (λ (l : List ℕ). Bag o peaks' l (set keys v k) r) (sym e)
          (record {
            long = length-set keys v k ∙ B.long ∙ sym (length-set words v (o.word k v));
            many = many ∙ ap held e;
            word = λ u h. (each u h (ℕ_discrete u v)).0;
            okay = λ u h. (each u h (ℕ_discrete u v)).1;
            shape = subst (Peaks peaks') e S;
          })
        where
          key : get_or (set keys v k) v o.none ≡ k
          key = get_or-set_same keys v k o.none (omega (arith, B.long, in_words_lem))

          each : (u : ℕ) → 0 < get_or (set words v (o.word k v)) u 0 → Dec (u ≡ v)
              → (get_or (set words v (o.word k v)) u 0 ≡ o.word (get_or (set keys v k) u o.none) u) × o.ok (get_or (set keys v k) u o.none)
          each u h (yes d) =
              let same = ap (λ (x : ℕ). get_or (set words v (o.word k v)) x 0) d ∙ get_or-set_same words v (o.word k v) 0 in_words_lem in (
                same ∙ ap (λ (z : K). o.word z v) (sym key) ∙ ap (λ (x : ℕ). o.word (get_or (set keys v k) x o.none) x) (sym d),
                subst o.ok (sym (ap (λ (x : ℕ). get_or (set keys v k) x o.none) d ∙ key)) good,
              )
          each u h (no d) =
              let s = get_or-set_other words v u (o.word k v) 0 d in
              let t = get_or-set_other keys v u k o.none d in
              let p : 0 < get_or words u 0 = omega (arith, s, h) in (
                s ∙ B.word u p ∙ ap (λ (z : K). o.word z u) (sym t),
                subst o.ok (sym t) (B.okay u p),
              )

      pub pushed : Bag o peaks' words' (set keys v k) r × (content_of words' (set keys v k) ≡ set (content_of words keys) v (some k))
      pushed =
          let back : o.word k v - 1 + 1 ≡ o.word k v = omega (arith, R.some k v good) in
          (pushed_bag, ap (λ (l : List ℕ). content_of l (set keys v k)) (e ∙ ap (set words v) (sym back)) ∙ content_in words keys v (o.word k v - 1) k)
