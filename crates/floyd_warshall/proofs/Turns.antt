-- What the list of the entries is in each turn of the three loops.
-- A turn reads the row k and the entry of the row i in column k as they were before the round: round k leaves row k and column k, while no diagonal entry is
-- below zero. So the test of the diagonal entry may wait for the end of its block of columns.
-- Assumes nothing.
use mathlib.Core.Path.{◌≡◌, refl, sym, ap, ◌∙◌, subst}
use mathlib.Core.Bool.{Bool, true, false, ◌||◌}
use mathlib.Core.List.{List}
use Prim.Native.Nat.{ℕ, zero, suc, ◌+◌, ◌-◌, ◌*◌, ◌^◌, ◌≤◌, ◌<◌}
use native.Mathlib.Decide.{ℕ_discrete, dec_lt}
use native.Mathlib.Nat.{mul-le-mul_right}
use native.Mathlib.Omega.{arith}
use lib.IntN.{ℤ, pos}
use lib.ListN.{length, get_or, set, length-set}
use lib.Signed.{lt_z, ◌≤ℤ◌, ◌<ℤ◌}
use Rattle.whole.specs.Zed.{◌⊕◌, zed, sum, Within}
use Rattle.whole.proofs.Cases.{or_no}
use Rattle.matrix.proofs.Matrix.{square_small}
use Rattle.floyd_warshall.specs.Rounds.{lesser, cell, block, Block, after, Diagonal, reaching, any_below, Begun, Refused}
use Rattle.floyd_warshall.proofs.Cells.{cell_same, cell_row, cell_column}
use Rattle.floyd_warshall.proofs.Triangle.{lesser_first, one_more, below_first, kept_row, stays_near}

-- ---- entries below zero
either : (x : Bool) {y : Bool} → y ≡ true → (x || y) ≡ true
either true e = refl
either false e = e

pub none_is : (l : List ℤ) (first step n : ℕ) → ((i : ℕ) → i < n → lt_z (get_or l (first + i * step) (pos 0)) (pos 0) ≡ false) → any_below l first step n ≡ false
unfolding any_below
none_is l first step zero f = refl
none_is l first step (suc n) f = rw (none_is l first step n (λ i h. f i (omega arith)), f n (omega arith))

pub none_below : (l : List ℤ) (first step n : ℕ) → any_below l first step n ≡ false → (i : ℕ) → i < n → pos 0 ≤ℤ get_or l (first + i * step) (pos 0)
unfolding any_below
none_below l first step zero e i h = absurd (omega arith)
none_below l first step (suc n) e i h = go (none_below l first step n (or_no (any_below l first step n) _ e).0 i) (ℕ_discrete i n)
  where
    go : (i < n → pos 0 ≤ℤ get_or l (first + i * step) (pos 0)) → Dec (i ≡ n) → pos 0 ≤ℤ get_or l (first + i * step) (pos 0)
    go f (yes q) = subst (λ (x : ℕ). pos 0 ≤ℤ get_or l (first + x * step) (pos 0)) (sym q) (let z = (or_no (any_below l first step n) _ e).1 in omega (arith, zed))
    go f (no q) = f (omega (arith, q))

pub one_below : (l : List ℤ) (first step n i : ℕ) → i < n → lt_z (get_or l (first + i * step) (pos 0)) (pos 0) ≡ true → any_below l first step n ≡ true
unfolding any_below
one_below l first step zero i h e = absurd (omega arith)
one_below l first step (suc n) i h e = go (λ k. one_below l first step n i k e) (ℕ_discrete i n)
  where
    go : (i < n → any_below l first step n ≡ true) → Dec (i ≡ n) → (any_below l first step n || lt_z (get_or l (first + n * step) (pos 0)) (pos 0)) ≡ true
    go f (yes q) = either (any_below l first step n) (subst (λ (x : ℕ). lt_z (get_or l (first + x * step) (pos 0)) (pos 0) ≡ true) q e)
    go f (no q) = rw (f (omega (arith, q)))

pub record BelowAt (l : List ℤ) (first step n : ℕ) : Type 0 where
  pub i : ℕ
  pub within : i < n
  pub low : get_or l (first + i * step) (pos 0) <ℤ pos 0

pub some_below : (l : List ℤ) (first step n : ℕ) → any_below l first step n ≡ true → BelowAt l first step n
unfolding any_below
some_below l first step zero e = absurd (let z : ◌≡◌ {A = ℕ} 0 1 = cc in omega arith)
some_below l first step (suc n) e = go (some_below l first step n) (any_below l first step n) refl
  where
    go : (any_below l first step n ≡ true → BelowAt l first step n) → (b : Bool) → any_below l first step n ≡ b → BelowAt l first step (suc n)
    go f true q = let r = f q in record { i = r.i; within = omega (arith, r.within); low = r.low }
    go f false q =
        let t : lt_z (get_or l (first + n * step) (pos 0)) (pos 0) ≡ true = sym (ap (λ (x : Bool). x || lt_z (get_or l (first + n * step) (pos 0)) (pos 0)) q) ∙ e in
        record { i = n; within = omega arith; low = omega (arith, zed) }

-- ---- before round k
pub record Round (p : ℕ) (l₀ : List ℤ) (k : ℕ) (l : List ℤ) : Type 0 where
  pub begun : Begun p l₀
  pub turn : k ≤ p
  pub size : length l ≡ p * p
  pub up : Diagonal (cell p l₀) p k
  pub all : (u v : ℕ) → u < p → v < p → cell p l u v ≡ after (cell p l₀) k u v

-- in round k, with the rows below i done
pub record Rows (p : ℕ) (l₀ : List ℤ) (k i : ℕ) (l : List ℤ) : Type 0 where
  pub begun : Begun p l₀
  pub turn : k < p
  pub here : i ≤ p
  pub size : length l ≡ p * p
  pub up : Diagonal (cell p l₀) p k
  pub done : (u v : ℕ) → u < i → v < p → cell p l u v ≡ after (cell p l₀) (suc k) u v
  pub fine : (u : ℕ) → u < i → pos 0 ≤ℤ after (cell p l₀) (suc k) u u
  pub next : (u v : ℕ) → i ≤ u → u < p → v < p → cell p l u v ≡ after (cell p l₀) k u v

-- in round k and row i, with the columns below j done
pub record Turn (p : ℕ) (l₀ : List ℤ) (k i j : ℕ) (l : List ℤ) : Type 0 where
  pub begun : Begun p l₀
  pub turn : k < p
  pub here : i < p
  pub at : j ≤ p
  pub size : length l ≡ p * p
  pub up : Diagonal (cell p l₀) p k
  pub done : (u v : ℕ) → u < i → v < p → cell p l u v ≡ after (cell p l₀) (suc k) u v
  pub fine : (u : ℕ) → u < i → pos 0 ≤ℤ after (cell p l₀) (suc k) u u
  pub part : (v : ℕ) → v < j → cell p l i v ≡ after (cell p l₀) (suc k) i v
  pub rest : (v : ℕ) → j ≤ v → v < p → cell p l i v ≡ after (cell p l₀) k i v
  pub next : (u v : ℕ) → i < u → u < p → v < p → cell p l u v ≡ after (cell p l₀) k u v

module _ {p : ℕ} {l₀ : List ℤ} where
  pub round_first : Begun p l₀ → Round p l₀ 0 l₀
  unfolding after
  round_first b = record { begun = b; turn = omega arith; size = b.size; up = first; all = λ u v i j. refl }
    where
      first : Diagonal (cell p l₀) p 0
      first zero u h i = b.up u i
      first (suc k) u h i = absurd (omega arith)

  -- while no diagonal entry is below zero, entries are small
  small : (k : ℕ) → k < p → Begun p l₀ → Diagonal (cell p l₀) p k → (u v : ℕ) → u < p → v < p → Within (2 ^ 60) (after (cell p l₀) k u v)
  small k h b d u v i j = let e : Within (2 ^ 50 + 2 ^ 50) (after (cell p l₀) k u v) = stays_near (cell p l₀) p (2 ^ 50) k (omega arith) b.near d u v i j in omega arith

  module _ {k i j : ℕ} {l : List ℤ} (r : Turn p l₀ k i j l) (h : j < p) where
    -- the entry in row k that a turn reads
    reads_row : cell p l k j ≡ after (cell p l₀) k k j
    reads_row = go (dec_lt k i) (ℕ_discrete k i)
      where
        go : Dec (k < i) → Dec (k ≡ i) → cell p l k j ≡ after (cell p l₀) k k j
        go (yes q) e = r.done k j q h ∙ kept_row (cell p l₀) k j (r.up k k (omega arith) r.turn)
        go (no q) (yes e) = subst (λ (x : ℕ). cell p l x j ≡ after (cell p l₀) k x j) (sym e) (r.rest j (omega arith) h)
        go (no q) (no e) = r.next k j (omega (arith, q, e)) r.turn h

    -- the entries that a turn adds are small
    pub small_row : Within (2 ^ 60) (cell p l k j)
    small_row = rw reads_row (small k r.turn r.begun r.up k j r.turn h)

    pub small_column : {a : ℤ} → a ≡ after (cell p l₀) k i k → Within (2 ^ 60) a
    small_column e = rw e (small k r.turn r.begun r.up i k r.here r.turn)

    -- one turn
    pub turn_next : {a z : ℤ} → a ≡ after (cell p l₀) k i k → z ≡ lesser (cell p l i j) (a ⊕ cell p l k j) → Turn p l₀ k i (j + 1) (set l (i * p + j) z)
    turn_next {a} {z} e f =
        record {
          begun = r.begun;
          turn = r.turn;
          here = r.here;
          at = omega arith;
          size = length-set l (i * p + j) z ∙ r.size;
          up = r.up;
          done = λ u v q w. cell_row p l i j u v z h w (λ f. omega arith) ∙ r.done u v q w;
          fine = r.fine;
          part = λ v q. go v (ℕ_discrete v j) q;
          rest = λ v q w. cell_column p l i j v z (λ f. omega arith) ∙ r.rest v (omega arith) w;
          next = λ u v q w x. cell_row p l i j u v z h x (λ f. omega arith) ∙ r.next u v q w x;
        }
      where
        value : z ≡ after (cell p l₀) (suc k) i j
        value = f ∙ ((λ t. lesser (r.rest j (omega arith) h t) (e t ⊕ reads_row t)) ∙ sym (one_more (cell p l₀) k i j))

        go : (v : ℕ) → Dec (v ≡ j) → v < j + 1 → cell p (set l (i * p + j) z) i v ≡ after (cell p l₀) (suc k) i v
        go v (yes q) w = subst (λ (x : ℕ). cell p (set l (i * p + j) z) i x ≡ after (cell p l₀) (suc k) i x) (sym q) (cell_same p l i j z r.size r.here h ∙ value)
        go v (no q) w = cell_column p l i j v z q ∙ r.part v (omega (arith, q))

  -- a block of columns: its turns, what it asks for, and where it ends
  module _ {k i j : ℕ} {l : List ℤ} (r : Turn p l₀ k i j l) {a : ℤ} (e : a ≡ after (cell p l₀) k i k) where
    here : (u n : ℕ) → u * p + (j + n) ≡ u * p + j + n
    here u n = omega arith

    turns : (n : ℕ) {v : ℕ} → j + n ≡ v → v ≤ p → Turn p l₀ k i v (block (i * p + j) (k * p + j) a n l)
    unfolding block
    turns zero {v} f h = let g : j ≡ v = omega (arith, f) in subst (λ (x : ℕ). Turn p l₀ k i x l) g r
    turns (suc n) {v} f h =
        let g : j + n + 1 ≡ v = omega (arith, f) in
        let b = block (i * p + j) (k * p + j) a n l in
        let z = lesser (get_or b (i * p + j + n) (pos 0)) (a ⊕ get_or b (k * p + j + n) (pos 0)) in
        let y : z ≡ lesser (cell p b i (j + n)) (a ⊕ cell p b k (j + n)) = λ t. lesser (get_or b (sym (here i n) t) (pos 0)) (a ⊕ get_or b (sym (here k n) t) (pos 0)) in
        let w : Turn p l₀ k i (j + n + 1) (set b (i * p + (j + n)) z) = turn_next (turns n refl (omega (arith, g))) (omega (arith, g)) e y in
        subst (λ (x : ℕ). Turn p l₀ k i x (set b (i * p + j + n) z)) g (subst (λ (x : ℕ). Turn p l₀ k i (j + n + 1) (set b x z)) (here i n) w)

    pub block_asks : j < p → Block (i * p + j) (k * p + j) a (p - j) l
    block_asks h =
        let row : suc i * p ≤ p * p = mul-le-mul_right p r.here in
        let through : suc k * p ≤ p * p = mul-le-mul_right p r.turn in
        record {
          few = omega (arith, r.size, square_small p r.begun.few);
          within = omega (arith, r.size);
          across = omega (arith, r.size);
          small = small_column r h e;
          each = λ x q.
              let b = block (i * p + j) (k * p + j) a x l in
              subst (λ (y : ℕ). Within (2 ^ 60) (get_or b y (pos 0))) (here k x) (small_row (turns x refl (omega arith)) (omega arith));
        }

    pub block_done : (n : ℕ) {l' : List ℤ} → j + n ≤ p → l' ≡ block (i * p + j) (k * p + j) a n l → Turn p l₀ k i (j + n) l'
    block_done n h f = subst (Turn p l₀ k i (j + n)) (sym f) (turns n refl h)

  -- one row more, as a list of entries and a diagonal entry
  row_more : {k i : ℕ} {l : List ℤ} → i < p → k < p → Begun p l₀ → length l ≡ p * p → Diagonal (cell p l₀) p k → ((u v : ℕ) → u < i → v < p → cell p l u v ≡ after (cell p l₀) (suc k) u v)
      → ((u : ℕ) → u < i → pos 0 ≤ℤ after (cell p l₀) (suc k) u u) → ((u v : ℕ) → i < u → u < p → v < p → cell p l u v ≡ after (cell p l₀) k u v)
      → ((v : ℕ) → v < p → cell p l i v ≡ after (cell p l₀) (suc k) i v) → pos 0 ≤ℤ after (cell p l₀) (suc k) i i → Rows p l₀ k (i + 1) l
  row_more {k} {i} {l} h t b s up done fine next row diag =
      record {
        begun = b;
        turn = t;
        here = omega arith;
        size = s;
        up = up;
        done = λ u v q w. at u v (ℕ_discrete u i) q w;
        fine = λ u q. on u (ℕ_discrete u i) q;
        next = λ u v q. next u v (omega arith);
      }
    where
      at : (u v : ℕ) → Dec (u ≡ i) → u < i + 1 → v < p → cell p l u v ≡ after (cell p l₀) (suc k) u v
      at u v (yes f) q w = subst (λ (x : ℕ). cell p l x v ≡ after (cell p l₀) (suc k) x v) (sym f) (row v w)
      at u v (no f) q w = done u v (omega (arith, f)) w

      on : (u : ℕ) → Dec (u ≡ i) → u < i + 1 → pos 0 ≤ℤ after (cell p l₀) (suc k) u u
      on u (yes f) q = subst (λ (x : ℕ). pos 0 ≤ℤ after (cell p l₀) (suc k) x x) (sym f) diag
      on u (no f) q = fine u (omega (arith, f))

  module _ {k i j : ℕ} {l : List ℤ} (r : Turn p l₀ k i j l) where
    pub row_done : p ≤ j → pos 0 ≤ℤ cell p l i i → Rows p l₀ k (i + 1) l
    row_done h e = row_more r.here r.turn r.begun r.size r.up r.done r.fine r.next (λ v w. r.part v (omega arith))
        (subst (λ (z : ℤ). pos 0 ≤ℤ z) (r.part i (omega (arith, r.here))) e)

    pub row_refused : lt_z (cell p l i i) (pos 0) ≡ true → Refused p (cell p l₀)
    row_refused e = go (dec_lt i j)
      where
        low : cell p l i i <ℤ pos 0
        low = omega (arith, zed)

        go : Dec (i < j) → Refused p (cell p l₀)
        go (yes q) = record { k = suc k; u = i; turn = r.turn; within = r.here; low = subst (λ (z : ℤ). z <ℤ pos 0) (r.part i q) low }
        go (no q) = record { k = k; u = i; turn = omega (arith, r.turn); within = r.here; low = subst (λ (z : ℤ). z <ℤ pos 0) (r.rest i (omega (arith, q)) r.here) low }

  -- a row that cannot change is done: row k has no entry below zero, and the entry in column k is as large as an entry can be
  pub row_skipped : {k i : ℕ} {l l₁ : List ℤ} {falls : Bool} {a : ℤ} → i < p → Round p l₀ k l₁ → Rows p l₀ k i l → falls ≡ any_below l₁ (k * p) 1 p → a ≡ after (cell p l₀) k i k
      → reaching falls a ≡ false → Rows p l₀ k (i + 1) l
  unfolding reaching
  row_skipped {k} {i} {l} {l₁} {falls} {a} h o r f e g =
      row_more h r.turn r.begun r.size r.up r.done r.fine (λ u v q. r.next u v (omega arith)) (λ v w. r.next i v (omega arith) h w ∙ sym (same v w))
      (subst (λ (z : ℤ). pos 0 ≤ℤ z) (sym (same i h)) (r.up k i (omega arith) h))
    where
      flat : (v : ℕ) → v < p → pos 0 ≤ℤ after (cell p l₀) k k v
      flat v w =
          subst (λ (z : ℤ). pos 0 ≤ℤ z) (o.all k v r.turn w) (subst (λ (x : ℕ). pos 0 ≤ℤ get_or l₁ (k * p + x) (pos 0)) (omega arith) (none_below l₁ (k * p) 1 p (sym f ∙ (or_no falls _ g).0) v w))

      same : (v : ℕ) → v < p → after (cell p l₀) (suc k) i v ≡ after (cell p l₀) k i v
      same v w =
          let z : lt_z a (pos (2 ^ 50)) ≡ false = (or_no falls _ g).1 in
          let b : after (cell p l₀) k i v ≤ℤ cell p l₀ i v = below_first (cell p l₀) k i v in
          let n = flat v w in
          one_more (cell p l₀) k i v
          ∙ lesser_first (after (cell p l₀) k i v) (after (cell p l₀) k i k ⊕ after (cell p l₀) k k v)
          (omega (arith, zed, e, r.begun.near i v h w, sum (after (cell p l₀) k i k) (after (cell p l₀) k k v)))
