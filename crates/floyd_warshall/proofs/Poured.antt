-- The matrix that the links fill: its entries only fall, each arc is no cheaper than its entry, and each entry that changed is an arc.
-- By induction over the links, as they are poured one after another.
-- Assumes nothing.
use mathlib.Core.Path.{◌≡◌, refl, sym, ap, ◌∙◌, subst}
use mathlib.Core.Bool.{Bool, true, false}
use mathlib.Core.List.{List, [], ◌∷◌}
use mathlib.Core.Logic.{◌⊎◌, inl, inr, ⊎_elim}
use Prim.Native.Nat.{ℕ, zero, suc, ◌+◌, ◌*◌, ◌≤◌, ◌<◌}
use native.Mathlib.Decide.{ℕ_discrete}
use native.Mathlib.Nat.{not-suc-le-zero, le_of_suc-le-suc}
use native.Mathlib.Numerals.{add-one}
use native.Mathlib.Omega.{arith}
use lib.IntN.{ℤ, pos}
use lib.ListN.{length, get_or, set, drop, length-set}
use lib.Signed.{◌≤ℤ◌}
use Rattle.whole.specs.Zed.{zed, Cost32}
use Rattle.whole.proofs.Cases.{and_left, and_right}
use Rattle.table.specs.Links.{Link, link_of, links, present, present_both, inside, all_inside, Arc}
use Rattle.table.proofs.Joins.{joined, joins_of}
use Rattle.walks.specs.Costs.{Costs32}
use Rattle.floyd_warshall.specs.Rounds.{lesser, cell}
use Rattle.floyd_warshall.specs.Filling.{lowered, linked, poured, Costs32Below}
use Rattle.floyd_warshall.proofs.Triangle.{lesser_is, lesser_left, lesser_right}
use Rattle.floyd_warshall.proofs.Cells.{cell_same, cell_row, cell_column}

-- ---- the links of a lent table
-- the one at place e, and those after it
next_suc : (n e : ℕ) (xs ys : List ℕ) (cs : List ℤ) → e < n → n ≤ length xs → n ≤ length ys → n ≤ length cs
    → drop e (links n xs ys cs) ≡ link_of (get_or xs e 0) (get_or ys e 0) (get_or cs e (pos 0)) ∷ drop (suc e) (links n xs ys cs)
next_suc zero e xs ys cs h a b c = absurd (not-suc-le-zero h)
next_suc (suc n) e [] ys cs h a b c = absurd (not-suc-le-zero a)
next_suc (suc n) e (x ∷ xs) [] cs h a b c = absurd (not-suc-le-zero b)
next_suc (suc n) e (x ∷ xs) (y ∷ ys) [] h a b c = absurd (not-suc-le-zero c)
next_suc (suc n) zero (x ∷ xs) (y ∷ ys) (z ∷ cs) h a b c = refl
next_suc (suc n) (suc e) (x ∷ xs) (y ∷ ys) (z ∷ cs) h a b c = next_suc n e xs ys cs (le_of_suc-le-suc h) (le_of_suc-le-suc a) (le_of_suc-le-suc b) (le_of_suc-le-suc c)

pub next_link : (n e : ℕ) (xs ys : List ℕ) (cs : List ℤ) → e < n → n ≤ length xs → n ≤ length ys → n ≤ length cs
    → drop e (links n xs ys cs) ≡ link_of (get_or xs e 0) (get_or ys e 0) (get_or cs e (pos 0)) ∷ drop (e + 1) (links n xs ys cs)
next_link n e xs ys cs h a b c = rw (add-one e) (next_suc n e xs ys cs h a b c)

-- none is left after the last
pub no_link : (n : ℕ) (xs ys : List ℕ) (cs : List ℤ) → drop n (links n xs ys cs) ≡ []
no_link zero xs ys cs = refl
no_link (suc n) [] ys cs = refl
no_link (suc n) (x ∷ xs) [] cs = refl
no_link (suc n) (x ∷ xs) (y ∷ ys) [] = refl
no_link (suc n) (x ∷ xs) (y ∷ ys) (z ∷ cs) = no_link n xs ys cs

-- where all are inside, the ends of each are present
pub ends_present_lem : (m n e : ℕ) (marks xs ys : List ℕ) (cs : List ℤ) → e < n → n ≤ length xs → n ≤ length ys → n ≤ length cs → all_inside m marks (links n xs ys cs) ≡ true
    → (present m marks (get_or xs e 0) ≡ true) × (present m marks (get_or ys e 0) ≡ true)
unfolding present_both
ends_present_lem m zero e marks xs ys cs h a b c i = absurd (not-suc-le-zero h)
ends_present_lem m (suc n) e marks [] ys cs h a b c i = absurd (not-suc-le-zero a)
ends_present_lem m (suc n) e marks (x ∷ xs) [] cs h a b c i = absurd (not-suc-le-zero b)
ends_present_lem m (suc n) e marks (x ∷ xs) (y ∷ ys) [] h a b c i = absurd (not-suc-le-zero c)
ends_present_lem m (suc n) zero marks (x ∷ xs) (y ∷ ys) (z ∷ cs) h a b c i =
    let k = and_left (inside m marks (link_of x y z)) _ i in (and_left (present m marks x) _ k, and_right (present m marks x) _ k)
ends_present_lem m (suc n) (suc e) marks (x ∷ xs) (y ∷ ys) (z ∷ cs) h a b c i =
    ends_present_lem m n e marks xs ys cs (le_of_suc-le-suc h) (le_of_suc-le-suc a) (le_of_suc-le-suc b) (le_of_suc-le-suc c) (and_right (inside m marks (link_of x y z)) _ i)

-- the cost of an arc is one of the first n
pub arc_fits : (d : Bool) (n : ℕ) (xs ys : List ℕ) (cs : List ℤ) → Costs32Below cs n → Costs32 (Arc d (links n xs ys cs))
arc_fits d zero xs ys cs f u v c a = absurd a
arc_fits d (suc n) [] ys cs f u v c a = absurd a
arc_fits d (suc n) (x ∷ xs) [] cs f u v c a = absurd a
arc_fits d (suc n) (x ∷ xs) (y ∷ ys) [] f u v c a = absurd a
arc_fits d (suc n) (x ∷ xs) (y ∷ ys) (z ∷ cs) f u v c (inl a) = subst Cost32 a.1 (f 0 (omega arith))
arc_fits d (suc n) (x ∷ xs) (y ∷ ys) (z ∷ cs) f u v c (inr a) = arc_fits d n xs ys cs (λ k h. f (suc k) (omega arith)) u v c a

-- ---- one entry lowered
module _ (p : ℕ) (l : List ℤ) (i j : ℕ) (c : ℤ) (s : length l ≡ p * p) (hi : i < p) (hj : j < p) where
  lowered_size : length (lowered l (i * p + j) c) ≡ p * p
  unfolding lowered
  lowered_size = length-set l (i * p + j) (lesser (cell p l i j) c) ∙ s

  -- an entry is the same, or is the one lowered
  lowered_or : (u v : ℕ) → v < p → (cell p (lowered l (i * p + j) c) u v ≡ cell p l u v) ⊎ ((u ≡ i) × (v ≡ j) × (cell p (lowered l (i * p + j) c) u v ≡ lesser (cell p l u v) c))
  unfolding lowered
  lowered_or u v k = go (ℕ_discrete u i) (ℕ_discrete v j)
    where
      go : Dec (u ≡ i) → Dec (v ≡ j)
          → (cell p (set l (i * p + j) (lesser (cell p l i j) c)) u v ≡ cell p l u v) ⊎ ((u ≡ i) × (v ≡ j) × (cell p (set l (i * p + j) (lesser (cell p l i j) c)) u v ≡ lesser (cell p l u v) c))
      go (yes e) (yes f) =
          inr (e, f, (λ t. cell p (set l (i * p + j) (lesser (cell p l i j) c)) (e t) (f t)) ∙ (cell_same p l i j (lesser (cell p l i j) c) s hi hj ∙ sym (λ t. lesser (cell p l (e t) (f t)) c)))
      go (yes e) (no f) = inl (ap (λ (x : ℕ). cell p (set l (i * p + j) (lesser (cell p l i j) c)) x v) e ∙ (cell_column p l i j v (lesser (cell p l i j) c) f ∙ ap (λ (x : ℕ). cell p l x v) (sym e)))
      go (no e) f = inl (cell_row p l i j u v (lesser (cell p l i j) c) hj k e)

  -- no entry goes up
  lowered_le : (u v : ℕ) → v < p → cell p (lowered l (i * p + j) c) u v ≤ℤ cell p l u v
  lowered_le u v k = ⊎_elim (λ e. omega (arith, zed)) (λ e. subst (λ (z : ℤ). z ≤ℤ cell p l u v) (sym e.2) (lesser_left (cell p l u v) c)) (lowered_or u v k)

  lowered_at : cell p (lowered l (i * p + j) c) i j ≤ℤ c
  unfolding lowered
  lowered_at = subst (λ (z : ℤ). z ≤ℤ c) (sym (cell_same p l i j (lesser (cell p l i j) c) s hi hj)) (lesser_right (cell p l i j) c)

  -- what changed is the cost
  lowered_new : (u v : ℕ) → v < p → (cell p (lowered l (i * p + j) c) u v ≡ cell p l u v) ⊎ ((u ≡ i) × (v ≡ j) × (cell p (lowered l (i * p + j) c) u v ≡ c))
  lowered_new u v k = ⊎_elim inl (λ e. ⊎_elim (λ f. inl (e.2 ∙ f.0)) (λ f. inr (e.0, e.1, e.2 ∙ f.0)) (lesser_is (cell p l u v) c)) (lowered_or u v k)

-- ---- one link
-- which ends a pair of rows is: there, or back where the link is not directed
abbrev Ends : Bool → ℕ → ℕ → ℕ → ℕ → Type 0
Ends d i j u v = ((u ≡ i) × (v ≡ j)) ⊎ ((d ≡ false) × (u ≡ j) × (v ≡ i))

module _ (p : ℕ) (l : List ℤ) (i j : ℕ) (c : ℤ) (s : length l ≡ p * p) (hi : i < p) (hj : j < p) where
  pub linked_size : (d : Bool) → length (linked d p l i j c) ≡ p * p
  unfolding linked
  linked_size true = lowered_size p l i j c s hi hj
  linked_size false = lowered_size p (lowered l (i * p + j) c) j i c (lowered_size p l i j c s hi hj) hj hi

  linked_le : (d : Bool) (u v : ℕ) → v < p → cell p (linked d p l i j c) u v ≤ℤ cell p l u v
  unfolding linked
  linked_le true u v k = lowered_le p l i j c s hi hj u v k
  linked_le false u v k =
      let a : cell p (lowered l (i * p + j) c) u v ≤ℤ cell p l u v = lowered_le p l i j c s hi hj u v k in
      let b : cell p (lowered (lowered l (i * p + j) c) (j * p + i) c) u v ≤ℤ cell p (lowered l (i * p + j) c) u v =
      lowered_le p (lowered l (i * p + j) c) j i c (lowered_size p l i j c s hi hj) hj hi u v k in
      omega (arith, zed)

  linked_at : (d : Bool) (u v : ℕ) → Ends d i j u v → cell p (linked d p l i j c) u v ≤ℤ c
  unfolding linked
  linked_at true u v (inl e) = rw (e.0, e.1) (lowered_at p l i j c s hi hj)
  linked_at true u v (inr e) = absurd (let z : ◌≡◌ {A = ℕ} 0 1 = let y = e.0 in cc in omega arith)
  linked_at false u v (inl e) =
      let a : cell p (lowered l (i * p + j) c) i j ≤ℤ c = lowered_at p l i j c s hi hj in
      let b : cell p (lowered (lowered l (i * p + j) c) (j * p + i) c) i j ≤ℤ cell p (lowered l (i * p + j) c) i j =
      lowered_le p (lowered l (i * p + j) c) j i c (lowered_size p l i j c s hi hj) hj hi i j hj in
      rw (e.0, e.1) (omega (arith, zed))
  linked_at false u v (inr e) = rw (e.1, e.2) (lowered_at p (lowered l (i * p + j) c) j i c (lowered_size p l i j c s hi hj) hj hi)

  linked_new : (d : Bool) (u v : ℕ) → v < p → (cell p (linked d p l i j c) u v ≡ cell p l u v) ⊎ (Ends d i j u v × (cell p (linked d p l i j c) u v ≡ c))
  unfolding linked
  linked_new true u v k = ⊎_elim inl (λ e. inr (inl (e.0, e.1), e.2)) (lowered_new p l i j c s hi hj u v k)
  linked_new false u v k =
      ⊎_elim
      (λ e. ⊎_elim (λ f. inl (e ∙ f)) (λ f. inr (inl (f.0, f.1), e ∙ f.2)) (lowered_new p l i j c s hi hj u v k))
      (λ e. inr (inr (refl, e.0, e.1), e.2))
      (lowered_new p (lowered l (i * p + j) c) j i c (lowered_size p l i j c s hi hj) hj hi u v k)

-- ---- all links
module _ (d : Bool) (p : ℕ) (r : List ℕ) where
  -- the rows of every link lie in the matrix
  abbrev pub RowsBelow : List (Link ℤ) → Type 0
  RowsBelow [] = Unit
  RowsBelow (x ∷ xs) = (get_or r x.a 0 < p) × (get_or r x.b 0 < p) × RowsBelow xs

  -- an entry that is the cost of an arc
  pub record ArcIn (xs : List (Link ℤ)) (i j : ℕ) (c : ℤ) : Type 0 where
    pub u : ℕ
    pub v : ℕ
    pub arc : Arc d xs u v c
    pub row : get_or r u 0 ≡ i
    pub column : get_or r v 0 ≡ j

  pub poured_size : (xs : List (Link ℤ)) (l : List ℤ) → RowsBelow xs → length l ≡ p * p → length (poured d p r xs l) ≡ p * p
  poured_size [] l w s = s
  poured_size (x ∷ xs) l w s = poured_size xs _ w.2 (linked_size p l _ _ _ s w.0 w.1 d)

  pub poured_le : (xs : List (Link ℤ)) (l : List ℤ) → RowsBelow xs → length l ≡ p * p → (i j : ℕ) → j < p → cell p (poured d p r xs l) i j ≤ℤ cell p l i j
  poured_le [] l w s i j k = omega (arith, zed)
  poured_le (x ∷ xs) l w s i j k =
      let l' = linked d p l (get_or r x.a 0) (get_or r x.b 0) x.cost in
      let a : cell p (poured d p r xs l') i j ≤ℤ cell p l' i j = poured_le xs l' w.2 (linked_size p l _ _ _ s w.0 w.1 d) i j k in
      let b : cell p l' i j ≤ℤ cell p l i j = linked_le p l _ _ _ s w.0 w.1 d i j k in
      omega (arith, zed)

  pub poured_low : (xs : List (Link ℤ)) (l : List ℤ) → RowsBelow xs → length l ≡ p * p → (u v : ℕ) (c : ℤ) → get_or r v 0 < p → Arc d xs u v c
      → cell p (poured d p r xs l) (get_or r u 0) (get_or r v 0) ≤ℤ c
  poured_low [] l w s u v c k a = absurd a
  poured_low (x ∷ xs) l w s u v c k (inr a) = poured_low xs _ w.2 (linked_size p l _ _ _ s w.0 w.1 d) u v c k a
  poured_low (x ∷ xs) l w s u v c k (inl a) =
      let l' = linked d p l (get_or r x.a 0) (get_or r x.b 0) x.cost in
      let e : cell p (poured d p r xs l') (get_or r u 0) (get_or r v 0) ≤ℤ cell p l' (get_or r u 0) (get_or r v 0) = poured_le xs l' w.2 (linked_size p l _ _ _ s w.0 w.1 d) _ _ k in
      let f : cell p l' (get_or r u 0) (get_or r v 0) ≤ℤ x.cost = linked_at p l _ _ _ s w.0 w.1 d _ _
      (⊎_elim (λ q. inl (ap (λ (y : ℕ). get_or r y 0) (sym q.0), ap (λ (y : ℕ). get_or r y 0) (sym q.1)))
      (λ q. inr (q.0, ap (λ (y : ℕ). get_or r y 0) (sym q.2), ap (λ (y : ℕ). get_or r y 0) (sym q.1))) (joined d u v x a.0)) in
      let z : x.cost ≡ c = a.1 in
      omega (arith, zed)

  pub poured_new : (xs : List (Link ℤ)) (l : List ℤ) → RowsBelow xs → length l ≡ p * p → (i j : ℕ) → j < p
      → (cell p (poured d p r xs l) i j ≡ cell p l i j) ⊎ ArcIn xs i j (cell p (poured d p r xs l) i j)
  poured_new [] l w s i j k = inl refl
  poured_new (x ∷ xs) l w s i j k =
      ⊎_elim old (λ a. inr (record { u = a.u; v = a.v; arc = inr a.arc; row = a.row; column = a.column }))
      (poured_new xs (linked d p l (get_or r x.a 0) (get_or r x.b 0) x.cost) w.2 (linked_size p l _ _ _ s w.0 w.1 d) i j k)
    where
      old : cell p (poured d p r xs (linked d p l (get_or r x.a 0) (get_or r x.b 0) x.cost)) i j ≡ cell p (linked d p l (get_or r x.a 0) (get_or r x.b 0) x.cost) i j
          → (cell p (poured d p r xs (linked d p l (get_or r x.a 0) (get_or r x.b 0) x.cost)) i j ≡ cell p l i j) ⊎ ArcIn (x ∷ xs) i j
          (cell p (poured d p r xs (linked d p l (get_or r x.a 0) (get_or r x.b 0) x.cost)) i j)
      old e =
          ⊎_elim (λ f. inl (e ∙ f))
          (λ f. ⊎_elim
          (λ q. inr (record { u = x.a; v = x.b; arc = inl (joins_of d x.a x.b x (inl (refl, refl)), sym (e ∙ f.1)); row = sym q.0; column = sym q.1 }))
          (λ q. inr (record { u = x.b; v = x.a; arc = inl (joins_of d x.b x.a x (inr (q.0, refl, refl)), sym (e ∙ f.1)); row = sym q.1; column = sym q.2 }))
          f.0)
          (linked_new p l _ _ _ s w.0 w.1 d i j k)
