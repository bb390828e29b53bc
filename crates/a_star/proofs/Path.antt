-- The laws of a path by predecessors: one arc back, its length, how it is written, and that it is the chain of the pending bag.
-- A trail goes back by the list of predecessors: it is the source alone, or the trail to the predecessor and then the index. So it has at most one index more than
-- arcs, and to write it is to write one index behind another. Where the pending bag has a chain back to the source with no more arcs than may be gone back, the
-- predecessors lead back along it, and the trail is the chain turned round. There is one chain from an index, for an index has one predecessor; turned round it is a
-- path of arcs, and a list turned round has an index twice only if it had.
-- Assumes nothing.
use mathlib.Core.Path.{◌≡◌, refl, sym, ap, ◌∙◌, subst}
use mathlib.Core.Bool.{Bool, true, false}
use mathlib.Core.List.{List, [], ◌∷◌, ◌++◌, reverse, reverse-cons}
use mathlib.Core.Logic.{◌⊎◌, inl, inr, ⊎_elim}
use mathlib.Core.Option.{Option, some}
use Prim.Native.Nat.{ℕ, zero, suc, ◌-◌, ◌≤◌, ◌<◌}
use native.Mathlib.Omega.{arith}
use lib.Dec.{eqb}
use lib.IntN.{ℤ}
use lib.ListN.{length, get_or, set, length-append}
use borrow.Author.Tests.{eq-eqb, ne_eqb}
use Rattle.walks.specs.Pigeon.{In, here, there, NoDup}
use Rattle.walks.specs.Chain.{Chain, source, via, hops, passed, Path, start, onto}
use Rattle.a_star.specs.Promise.{answer_of, at_front}
use Rattle.a_star.specs.Trail.{trail, GoesBack}

-- one less than one more
one_less : (k : ℕ) → k ≡ suc k - 1
one_less k = omega arith

module _ (ps : List ℕ) (s : ℕ) where
  -- the source alone
  pub trail_source : (k v : ℕ) → v ≡ s → trail ps s k v ≡ v ∷ []
  trail_source zero v e = refl
  trail_source (suc k) v e = ap (λ (b : Bool). elim b [ true ↦ v ∷ [] | false ↦ trail ps s k (get_or ps v 0) ++ (v ∷ []) ]) (eq-eqb v s e)

  -- one arc back
  pub trail_back : (k v : ℕ) → 0 < k → (v ≡ s → ⊥) → trail ps s k v ≡ trail ps s (k - 1) (get_or ps v 0) ++ (v ∷ [])
  trail_back zero v l n = absurd (omega arith)
  trail_back (suc k) v l n =
      ap (λ (b : Bool). elim b [ true ↦ v ∷ [] | false ↦ trail ps s k (get_or ps v 0) ++ (v ∷ []) ]) (ne_eqb v s n) ∙ ap (λ (j : ℕ). trail ps s j (get_or ps v 0) ++ (v ∷ [])) (one_less k)

  -- one index more than arcs, at most
  pub trail_long : (k v : ℕ) → length (trail ps s k v) ≤ suc k
  trail_long zero v = omega arith
  trail_long (suc k) v = go (eqb v s) (trail_long k (get_or ps v 0))
    where
      go : (b : Bool) → length (trail ps s k (get_or ps v 0)) ≤ suc k → length {A = ℕ} (elim b [ true ↦ v ∷ [] | false ↦ trail ps s k (get_or ps v 0) ++ (v ∷ []) ]) ≤ suc (suc k)
      go true h = omega arith
      go false h = omega (arith, length-append (trail ps s k (get_or ps v 0)) (v ∷ []))

  -- one index, at least
  pub trail_some : (k v : ℕ) → 0 < length (trail ps s k v)
  trail_some zero v = omega arith
  trail_some (suc k) v = go (eqb v s)
    where
      go : (b : Bool) → 0 < length {A = ℕ} (elim b [ true ↦ v ∷ [] | false ↦ trail ps s k (get_or ps v 0) ++ (v ∷ []) ])
      go true = omega arith
      go false = omega (arith, length-append (trail ps s k (get_or ps v 0)) (v ∷ []))

  -- an index that is not the source has an arc back
  pub back_some : (k v : ℕ) → GoesBack ps s k v → (v ≡ s → ⊥) → 0 < k
  back_some zero v g n = absurd (n g.1)
  back_some (suc k) v g n = omega arith

-- ---- writing
-- the first index
pub front_one : (v : ℕ) (p : List ℕ) → 0 < length p → set p 0 v ≡ at_front (v ∷ []) p
unfolding at_front
front_one v [] h = absurd (omega arith)
front_one v (x ∷ p) h = refl

-- one more at the end
pub front_more : (l : List ℕ) (v : ℕ) (p : List ℕ) → length l < length p → set (at_front l p) (length l) v ≡ at_front (l ++ (v ∷ [])) p
unfolding at_front
front_more [] v [] h = absurd (omega arith)
front_more [] v (y ∷ p) h = refl
front_more (x ∷ l) v [] h = absurd (omega arith)
front_more (x ∷ l) v (y ∷ p) h = ap (λ (r : List ℕ). x ∷ r) (front_more l v p (omega arith))

-- an answer by its parts
pub answer_is : {d e : ℤ} {n k : ℕ} → d ≡ e → n ≡ k → answer_of 0 d n ≡ answer_of 0 e k
answer_is p q = λ i. answer_of 0 (p i) (q i)

-- ---- the chain of the pending bag
module _ {Arc : ℕ → ℕ → ℤ → Type 0} {o : ℕ} {dist : ℕ → Option ℤ} {pred : ℕ → Option ℕ} (ps : List ℕ)
    (tails : (u v : ℕ) (c : ℤ) → Arc u v c → u < length ps) (reads : (v u : ℕ) → v < length ps → pred v ≡ some u → get_or ps v 0 ≡ u) where
  -- the predecessors lead back along it
  pub chain_back : {v : ℕ} (k : ℕ) → v < length ps → (c : Chain Arc o dist pred v) → hops c ≤ k → GoesBack ps o k v
  chain_back zero i (source e) h = (i, e)
  chain_back (suc k) i (source e) h = (i, λ n. absurd (n e))
  chain_back zero i (via u n p l c) h = absurd (omega arith)
  chain_back {v} (suc k) i (via u n p l c) h = (i, λ m. subst (GoesBack ps o k) (sym (reads v u i p)) (chain_back k (tails u v l.c l.arc_is) c (omega (arith, h))))

  -- and the path is the chain, its first index first
  pub chain_trail : {v : ℕ} (k : ℕ) → v < length ps → (c : Chain Arc o dist pred v) → hops c ≤ k → trail ps o k v ≡ reverse (passed c)
  chain_trail {v} k i (source e) h = trail_source ps o k v e
  chain_trail zero i (via u n p l c) h = absurd (omega arith)
  chain_trail {v} (suc k) i (via u n p l c) h =
      trail_back ps o (suc k) v (omega arith) n
      ∙ ap (λ (j : ℕ). trail ps o j (get_or ps v 0) ++ (v ∷ [])) (sym (one_less k))
      ∙ ap (λ (x : ℕ). trail ps o k x ++ (v ∷ [])) (reads v u i p)
      ∙ ap (λ (t : List ℕ). t ++ (v ∷ [])) (chain_trail k (tails u v l.c l.arc_is) c (omega (arith, h)))
      ∙ sym (reverse-cons v (passed c))

-- ---- the path that a chain gives
-- there is one chain from an index: it passes the same indices
pub passed_one : {Arc : ℕ → ℕ → ℤ → Type 0} {o : ℕ} {dist : ℕ → Option ℤ} {pred : ℕ → Option ℕ} {v w : ℕ} (c : Chain Arc o dist pred v) (b : Chain Arc o dist pred w) → v ≡ w → passed c ≡ passed b
passed_one (source i) (source j) e = ap (λ (x : ℕ). x ∷ []) e
passed_one (source i) (via u n p l b) e = absurd (n (sym e ∙ i))
passed_one (via u n p l c) (source j) e = absurd (n (e ∙ j))
passed_one {pred = pred} (via u n p l c) (via u' n' p' l' b) e =
    let k : some u ≡ some u' = sym p ∙ ap pred e ∙ p' in
    let r = passed_one c b (cc) in
    λ i. e i ∷ r i

-- at the source it is the source alone
pub passed_source : {Arc : ℕ → ℕ → ℤ → Type 0} {o : ℕ} {dist : ℕ → Option ℤ} {pred : ℕ → Option ℕ} {v : ℕ} (c : Chain Arc o dist pred v) → v ≡ o → passed c ≡ v ∷ []
passed_source (source i) e = refl
passed_source (via u n p l c) e = absurd (n e)

-- over the same arcs it is the same chain
module _ {A B : ℕ → ℕ → ℤ → Type 0} (f : (u v : ℕ) (c : ℤ) → A u v c → B u v c) {o : ℕ} {dist : ℕ → Option ℤ} {pred : ℕ → Option ℕ} where
  -- a chain by more arcs
  pub chain_over : {v : ℕ} → Chain A o dist pred v → Chain B o dist pred v
  chain_over (source e) = source e
  chain_over {v} (via u n p l c) = via u n p (record { d = l.d; e = l.e; c = l.c; from = l.from; to = l.to; arc_is = f u v l.c l.arc_is; up = l.up; low = l.low }) (chain_over c)

  -- it passes the same indices
  pub passed_over : {v : ℕ} (c : Chain A o dist pred v) → passed (chain_over c) ≡ passed c
  unfolding chain_over
  passed_over (source e) = refl
  passed_over {v} (via u n p l c) = ap (λ (k : List ℕ). v ∷ k) (passed_over c)

module _ {Arc : ℕ → ℕ → ℤ → Type 0} {o : ℕ} {dist : ℕ → Option ℤ} {pred : ℕ → Option ℕ} where
  -- a chain, read from the source on
  pub chain_path : {v : ℕ} (c : Chain Arc o dist pred v) → Path Arc o v (reverse (passed c))
  chain_path (source e) = start e (ap (λ (x : ℕ). x ∷ []) e)
  chain_path {v} (via u n p l c) = onto u (reverse (passed c)) l.c (chain_path c) l.arc_is (reverse-cons v (passed c))

-- ---- no index twice, either way
in_end : {x v : ℕ} (l : List ℕ) → In x (l ++ (v ∷ [])) → In x l ⊎ (x ≡ v)
in_end [] (here e) = inr e
in_end (y ∷ l) (here e) = inl (here e)
in_end (y ∷ l) (there i) = ⊎_elim (λ j. inl (there j)) (λ e. inr e) (in_end l i)
in_end {v = v} [] (there i) = elim i [ ]

-- a list turned round has the same members
in_back : {x : ℕ} (l : List ℕ) → In x (reverse l) → In x l
in_back {x} [] i = i
in_back {x} (y ∷ l) i = ⊎_elim (λ j. there (in_back l j)) (λ e. here e) (in_end (reverse l) (subst (In x) (reverse-cons y l) i))

-- a new index at the end
distinct_end : (v : ℕ) (l : List ℕ) → NoDup l → (In v l → ⊥) → NoDup (l ++ (v ∷ []))
distinct_end v [] n f = (elim [ ], tt)
distinct_end v (y ∷ l) n f = (λ i. ⊎_elim (λ j. n.0 j) (λ e. f (here (sym e))) (in_end l i), distinct_end v l n.1 (λ j. f (there j)))

-- a list turned round has none twice either
pub distinct_back : (l : List ℕ) → NoDup l → NoDup (reverse l)
distinct_back [] n = tt
distinct_back (y ∷ l) n = subst NoDup (sym (reverse-cons y l)) (distinct_end y (reverse l) (distinct_back l n.1) (λ i. n.0 (in_back l i)))
