-- The ring of pending indices: its places, a push, and a take.
-- The place of what stands i after the first is below m, and two such places differ while i is below m. The indices that wait are apart and below m; so with one
-- that does not wait among those below m, fewer than m wait, and the next place is free (a list without repeats is no longer than one that has all its members). A
-- push of an index that waits writes past the end, where nothing stands, and leaves its mark 1. A take moves the first place on and clears the mark of what stood
-- there.
-- Assumes nothing.
use mathlib.Core.Path.{◌≡◌, refl, sym, ap, ◌∙◌, subst}
use mathlib.Core.Bool.{true}
use mathlib.Core.List.{List, [], ◌∷◌}
use mathlib.Core.Logic.{◌⊎◌, inl, inr, ⊎_elim}
use Prim.Native.Nat.{ℕ, zero, suc, ◌+◌, ◌-◌, ◌≤◌, ◌<◌}
use native.Mathlib.Omega.{arith}
use native.Mathlib.Decide.{ℕ_discrete, dec_lt}
use borrow.Author.Tests.{lt-ltb, le-ltb}
use lib.ListN.{length, get_or, set, length-set}
use lib.Seq.{get_or-set_same, get_or-set_other}
use Rattle.walks.specs.Pigeon.{In, here, there, NoDup}
use Rattle.walks.proofs.Pigeon.{short}
use Rattle.net.specs.Net.{rising}
use Rattle.net.proofs.Nodes.{count_most, rising_in}
use Rattle.bellman_ford.specs.Search.{slot_of, waits, Ring, Pushed, full, waiting, pushed}

-- ---- places
slot_cases : (m h i : ℕ) → ((h + i < m) × (slot_of m h i ≡ h + i)) ⊎ ((m ≤ h + i) × (slot_of m h i ≡ h + i - m))
unfolding slot_of
slot_cases m h i = go (dec_lt (h + i) m)
  where
    go : Dec (h + i < m) → ((h + i < m) × (slot_of m h i ≡ h + i)) ⊎ ((m ≤ h + i) × (slot_of m h i ≡ h + i - m))
    go (yes p) = inl (p, rw (lt-ltb (h + i) m p))
    go (no f) = inr (omega (arith, f), rw (le-ltb (h + i) m (omega (arith, f))))

pub slot_below : (m h i : ℕ) → h < m → i ≤ m → slot_of m h i < m
slot_below m h i p q = ⊎_elim (λ w. omega arith) (λ w. omega arith) (slot_cases m h i)

slot_apart : (m h i j : ℕ) → h < m → i < j → j < m → slot_of m h i ≡ slot_of m h j → ⊥
slot_apart m h i j a b c e = ⊎_elim (λ w. ⊎_elim (λ x. omega arith) (λ x. omega arith) (slot_cases m h j)) (λ w. ⊎_elim (λ x. omega arith) (λ x. omega arith) (slot_cases m h j)) (slot_cases m h i)

slot_first : (m h : ℕ) → h < m → slot_of m h 0 ≡ h
slot_first m h p = ⊎_elim (λ w. omega arith) (λ w. omega arith) (slot_cases m h 0)

slot_next : (m h i : ℕ) → h < m → i + 1 ≤ m → slot_of m (slot_of m h 1) i ≡ slot_of m h (i + 1)
slot_next m h i p q =
    ⊎_elim (λ a.
    ⊎_elim (λ b. ⊎_elim (λ d. omega arith) (λ d. omega arith) (slot_cases m h (i + 1))) (λ b. ⊎_elim (λ d. omega arith) (λ d. omega arith) (slot_cases m h (i + 1))) (slot_cases m (slot_of m h 1) i))
    (λ a.
    ⊎_elim (λ b. ⊎_elim (λ d. omega arith) (λ d. omega arith) (slot_cases m h (i + 1))) (λ b. ⊎_elim (λ d. omega arith) (λ d. omega arith) (slot_cases m h (i + 1))) (slot_cases m (slot_of m h 1) i))
    (slot_cases m h 1)

-- ---- the values of f below n, all apart and below m, with one more number below m: n is below m
abbrev tab : (ℕ → ℕ) → ℕ → List ℕ
tab f zero = []
tab f (suc n) = f n ∷ tab f n

tab_length : (f : ℕ → ℕ) (n : ℕ) → length (tab f n) ≡ n
tab_length f zero = refl
tab_length f (suc n) = ap suc (tab_length f n)

tab_in : (f : ℕ → ℕ) (n x : ℕ) → In x (tab f n) → (i : ℕ) × (i < n) × (x ≡ f i)
tab_in f (suc n) x (here e) = (n, omega arith, e)
tab_in f (suc n) x (there j) = let r = tab_in f n x j in (r.0, omega (arith, r.1), r.2)
tab_in f zero x i = elim i [ ]

tab_nodup : (f : ℕ → ℕ) (n : ℕ) → ((i j : ℕ) → i < j → j < n → f i ≡ f j → ⊥) → NoDup (tab f n)
tab_nodup f zero g = tt
tab_nodup f (suc n) g = (λ w. let r = tab_in f n (f n) w in g r.0 n r.1 (omega arith) (sym r.2), tab_nodup f n (λ i j a b e. g i j a (omega arith) e))

room_left : (f : ℕ → ℕ) (n m v : ℕ) → ((i : ℕ) → i < n → f i < m) → ((i j : ℕ) → i < j → j < n → f i ≡ f j → ⊥) → v < m → ((i : ℕ) → i < n → f i ≡ v → ⊥) → n < m
room_left f n m v inside apart below other =
    omega (arith, short (v ∷ tab f n) (rising (λ x. true) m) ((λ w. let r = tab_in f n v w in other r.0 r.1 (sym r.2)), tab_nodup f n apart) all, tab_length f n, count_most (λ x. true) m)
  where
    all : (x : ℕ) → In x (v ∷ tab f n) → In x (rising (λ y. true) m)
    all x (here e) = rising_in (λ y. true) m x (omega arith) refl
    all x (there j) = let r = tab_in f n x j in rising_in (λ y. true) m x (omega (arith, r.2, inside r.0 r.1)) refl

-- ---- a push
module _ {m h n : ℕ} {q qd : List ℕ} (r : Ring m h n q qd) where
  module _ (v : ℕ) (below : v < m) (free : get_or qd v 0 ≡ 0) where
    differs : (i : ℕ) → i < n → waits m h q i ≡ v → ⊥
    differs i k e = let a : get_or qd v 0 ≡ 1 = subst (λ (x : ℕ). get_or qd x 0 ≡ 1) e (r.marked i k) in omega arith

    pub push_room : n < m
    push_room = room_left (waits m h q) n m v r.inside r.apart below differs

    old_at : (i : ℕ) → i < n → waits m h (set q (slot_of m h n) v) i ≡ waits m h q i
    old_at i k = get_or-set_other q (slot_of m h n) (slot_of m h i) v 0 (λ e. slot_apart m h i n r.first k push_room e)

    new_at : waits m h (set q (slot_of m h n) v) n ≡ v
    new_at = get_or-set_same q (slot_of m h n) v 0 (omega (arith, slot_below m h n r.first r.few, r.room_q))

    at_cases : {A : Type 0} (i : ℕ) → i < n + 1 → (i < n → A) → (i ≡ n → A) → A
    at_cases {A} i k f g = go (ℕ_discrete i n)
      where
        go : Dec (i ≡ n) → A
        go (yes e) = g e
        go (no d) = f (omega (arith, d))

    marks_new : get_or (set qd v 1) v 0 ≡ 1
    marks_new = get_or-set_same qd v 1 0 (omega (arith, r.room_d))

    pub push_ring : Ring m h (n + 1) (set q (slot_of m h n) v) (set qd v 1)
    push_ring = record {
      first = r.first;
      few = omega (arith, push_room);
      room_q = omega (arith, r.room_q, length-set q (slot_of m h n) v);
      room_d = omega (arith, r.room_d, length-set qd v 1);
      inside = λ i k. at_cases i k (λ a. rw (old_at i a) (r.inside i a)) (λ e. rw (e, new_at) below);
      marked = λ i k. at_cases i k (λ a. rw (old_at i a) (get_or-set_other qd v (waits m h q i) 1 0 (differs i a) ∙ r.marked i a)) (λ e. rw (e, new_at) marks_new);
      apart = λ i j a b e.
          at_cases j b (λ c. r.apart i j a c (sym (old_at i (omega arith)) ∙ (e ∙ old_at j c)))
          (λ f. differs i (omega arith) (sym (old_at i (omega arith)) ∙ (e ∙ (ap (waits m h (set q (slot_of m h n) v)) f ∙ new_at))));
      found = λ x a b. seek x a b (ℕ_discrete x v);
    }
      where
        seek : (x : ℕ) → x < m → (get_or (set qd v 1) x 0 ≡ 0 → ⊥) → Dec (x ≡ v) → (i : ℕ) × (i < n + 1) × (waits m h (set q (slot_of m h n) v) i ≡ x)
        seek x a b (yes e) = (n, omega arith, new_at ∙ sym e)
        seek x a b (no f) =
            let w = r.found x a (λ z. b (get_or-set_other qd v x 1 0 f ∙ z)) in
            (w.0, omega (arith, w.1), old_at w.0 w.1 ∙ w.2)

  -- where the ring is full each index waits
  pub full_waits : (v : ℕ) → v < m → m ≤ n → get_or qd v 0 ≡ 0 → ⊥
  full_waits v below e z = omega (arith, push_room v below z)

  -- an index that waits is written past the end, and marked as it is
  module _ (v : ℕ) (below : v < m) (some : n < m) (Waits-there : get_or qd v 0 ≡ 0 → ⊥) where
    past_at : (i : ℕ) → i < n → waits m h (set q (slot_of m h n) v) i ≡ waits m h q i
    past_at i k = get_or-set_other q (slot_of m h n) (slot_of m h i) v 0 (λ e. slot_apart m h i n r.first k some e)

    same_marks : (x : ℕ) → get_or (set qd v 1) x 0 ≡ get_or qd x 0
    same_marks x = go (ℕ_discrete x v)
      where
        go : Dec (x ≡ v) → get_or (set qd v 1) x 0 ≡ get_or qd x 0
        go (yes e) =
            let w = r.found v below Waits-there in
            let one : get_or qd v 0 ≡ 1 = subst (λ (y : ℕ). get_or qd y 0 ≡ 1) w.2 (r.marked w.0 w.1) in
            ap (λ (y : ℕ). get_or (set qd v 1) y 0) e ∙ get_or-set_same qd v 1 0 (omega (arith, below, r.room_d)) ∙ sym one ∙ ap (λ (y : ℕ). get_or qd y 0) (sym e)
        go (no f) = get_or-set_other qd v x 1 0 f

    past_ring : Ring m h n (set q (slot_of m h n) v) (set qd v 1)
    past_ring = record {
      first = r.first;
      few = r.few;
      room_q = omega (arith, r.room_q, length-set q (slot_of m h n) v);
      room_d = omega (arith, r.room_d, length-set qd v 1);
      inside = λ i k. rw (past_at i k) (r.inside i k);
      marked = λ i k. rw (past_at i k, same_marks (waits m h q i)) (r.marked i k);
      apart = λ i j a b e. r.apart i j a b (sym (past_at i (omega arith)) ∙ (e ∙ past_at j b));
      found = λ x a b. let w = r.found x a (λ z. b (same_marks x ∙ z)) in (w.0, w.1, past_at w.0 w.1 ∙ w.2);
    }

  -- what a push leaves, in either case
  pub push_done : {v n' : ℕ} {q' qd' : List ℕ} → v < m → Pushed m h n v q qd q' qd' n' → Ring m h n' q' qd'
  push_done below (full f e a b) = rw (e, a, b) r
  push_done {v} below (waiting l f e a b) = rw (e, a, b) (past_ring v below l f)
  push_done {v} below (pushed z e a b) = rw (e, a, b) (push_ring v below z)

  -- ---- a take
  module _ (some : 0 < n) where
    front : waits m h q 0 ≡ get_or q h 0
    front = ap (λ (k : ℕ). get_or q k 0) (slot_first m h r.first)

    pub take_below : get_or q h 0 < m
    take_below = rw (← front) (r.inside 0 some)

    pub take_marked : get_or qd (get_or q h 0) 0 ≡ 1
    take_marked = rw (← front) (r.marked 0 some)

    next_at : (i : ℕ) → i < n - 1 → waits m (slot_of m h 1) q i ≡ waits m h q (i + 1)
    next_at i k = ap (λ (j : ℕ). get_or q j 0) (slot_next m h i r.first (omega (arith, r.few)))

    away : (i : ℕ) → i < n - 1 → waits m h q (i + 1) ≡ get_or q h 0 → ⊥
    away i k e = r.apart 0 (i + 1) (omega arith) (omega arith) (front ∙ sym e)

    pub take_ring : Ring m (slot_of m h 1) (n - 1) q (set qd (get_or q h 0) 0)
    take_ring = record {
      first = slot_below m h 1 r.first (omega (arith, r.first));
      few = omega (arith, r.few);
      room_q = r.room_q;
      room_d = omega (arith, r.room_d, length-set qd (get_or q h 0) 0);
      inside = λ i k. rw (next_at i k) (r.inside (i + 1) (omega arith));
      marked = λ i k. rw (next_at i k) (get_or-set_other qd (get_or q h 0) (waits m h q (i + 1)) 0 0 (away i k) ∙ r.marked (i + 1) (omega arith));
      apart = λ i j a b e. r.apart (i + 1) (j + 1) (omega arith) (omega arith) (sym (next_at i (omega arith)) ∙ (e ∙ next_at j b));
      found = λ x a b. seek x a b (ℕ_discrete x (get_or q h 0));
    }
      where
        behind : (x i : ℕ) → (x ≡ get_or q h 0 → ⊥) → i < n → waits m h q i ≡ x → (j : ℕ) × (j < n - 1) × (waits m (slot_of m h 1) q j ≡ x)
        behind x zero f k e = absurd (f (sym e ∙ front))
        behind x (suc i) f k e = (i, omega arith, next_at i (omega arith) ∙ (ap (waits m h q) (omega arith) ∙ e))

        seek : (x : ℕ) → x < m → (get_or (set qd (get_or q h 0) 0) x 0 ≡ 0 → ⊥) → Dec (x ≡ get_or q h 0) → (i : ℕ) × (i < n - 1) × (waits m (slot_of m h 1) q i ≡ x)
        seek x a b (yes e) = absurd (b (rw (e, get_or-set_same qd (get_or q h 0) 0 0 (omega (arith, r.room_d, take_below)))))
        seek x a b (no f) =
            let w = r.found x a (λ z. b (get_or-set_other qd (get_or q h 0) x 0 0 f ∙ z)) in
            behind x w.0 f w.1 w.2
