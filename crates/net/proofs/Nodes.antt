-- The indices for which a test holds in rising order, and the place of each among them; then those that a map has.
-- The list is made from below: one index more is put at its end, or nothing. So the place of an index is how many come before it, by induction on the bound; the
-- index at a place has that place, hence two places hold different indices; and the members are exactly the indices below the bound for which the test holds. A
-- map's nodes are the case where the test is presence.
-- Assumes nothing.
use mathlib.Core.Path.{◌≡◌, refl, sym, ap, ◌∙◌, subst}
use mathlib.Core.Bool.{Bool, true, false, cond}
use mathlib.Core.List.{List, [], ◌∷◌, ◌++◌, append-nil}
use Prim.Native.Nat.{ℕ, zero, suc, ◌+◌, ◌≤◌, ◌<◌}
use native.Mathlib.Decide.{ℕ_discrete, dec_lt}
use native.Mathlib.Omega.{arith}
use borrow.Author.Tests.{lt-ltb, eq-eqb, ne_eqb}
use lib.ListN.{length, get_or, length-append, get_or-append}
use lib.Seq.{get_or-append_seam}
use Rattle.table.specs.Links.{present}
use Rattle.table.proofs.Laws.{present_below}
use Rattle.walks.specs.Pigeon.{In, here, there}
use Rattle.net.specs.Net.{Net, rising, has, nodes_of, width}

-- the same test gives the same list
pub rising_same : (f h : ℕ → Bool) → ((i : ℕ) → f i ≡ h i) → (m : ℕ) → rising f m ≡ rising h m
rising_same f h e zero = refl
rising_same f h e (suc m) = ap (λ (l : List ℕ). l ++ cond (f m) (m ∷ []) []) (rising_same f h e m) ∙ ap (λ (b : Bool). rising h m ++ cond b (m ∷ []) []) (e m)

-- a place of a list holds a member, and a member has a place
pub member : (l : List ℕ) (i : ℕ) → i < length l → In (get_or l i 0) l
member [] i h = absurd (omega arith)
member (x ∷ l) zero h = here refl
member (x ∷ l) (suc i) h = there (member l i (omega arith))

pub place_of : (l : List ℕ) (x : ℕ) → In x l → (i : ℕ) × (i < length l) × (get_or l i 0 ≡ x)
place_of (y ∷ l) x (here e) = (0, omega arith, sym e)
place_of (y ∷ l) x (there w) = let k = place_of l x w in (suc k.0, omega (arith, k.1), k.2)
place_of [] x x3 = elim x3 [ ]

module _ (f : ℕ → Bool) where
  -- one index more, absent or present
  pub rising_absent : (m : ℕ) → f m ≡ false → rising f (suc m) ≡ rising f m
  rising_absent m e = ap (λ (b : Bool). rising f m ++ cond b (m ∷ []) []) e ∙ append-nil (rising f m)

  pub rising_present : (m : ℕ) → f m ≡ true → rising f (suc m) ≡ rising f m ++ (m ∷ [])
  rising_present m e = ap (λ (b : Bool). rising f m ++ cond b (m ∷ []) []) e

  -- their number
  pub count_absent : (m : ℕ) → f m ≡ false → length (rising f (suc m)) ≡ length (rising f m)
  count_absent m e = ap length (rising_absent m e)

  pub count_present_lem : (m : ℕ) → f m ≡ true → length (rising f (suc m)) ≡ length (rising f m) + 1
  count_present_lem m e = ap length (rising_present m e) ∙ length-append (rising f m) (m ∷ [])

  pub count_most : (m : ℕ) → length (rising f m) ≤ m
  count_most zero = omega arith
  count_most (suc m) = go (count_most m) (f m) refl
    where
      go : length (rising f m) ≤ m → (b : Bool) → f m ≡ b → length (rising f (suc m)) ≤ suc m
      go h true e = omega (arith, count_present_lem m e)
      go h false e = omega (arith, count_absent m e)

  -- the place of an index below m for which the test holds
  pub record Ranked (m u : ℕ) : Type 0 where
    pub within : length (rising f u) < length (rising f m)
    pub at : get_or (rising f m) (length (rising f u)) 0 ≡ u

  pub ranked : (m u : ℕ) → u < m → f u ≡ true → Ranked m u
  ranked zero u h e = absurd (omega arith)
  ranked (suc m) u h e = go (λ k. ranked m u k e) (ℕ_discrete u m) (f m) refl
    where
      last : u ≡ m → Ranked (suc m) u
      last q =
          let e' : f m ≡ true = sym (ap f q) ∙ e in
          subst (λ (x : ℕ). Ranked (suc m) x) (sym q) (record {
            within = omega (arith, count_present_lem m e');
            at = ap (λ (l : List ℕ). get_or l (length (rising f m)) 0) (rising_present m e') ∙ get_or-append_seam (rising f m) m [] 0;
          })

      go : (u < m → Ranked m u) → Dec (u ≡ m) → (b : Bool) → f m ≡ b → Ranked (suc m) u
      go ih (yes q) b z = last q
      go ih (no q) false z =
          let r = ih (omega (arith, q)) in record { within = omega (arith, r.within, count_absent m z); at = ap (λ (l : List ℕ). get_or l (length (rising f u)) 0) (rising_absent m z) ∙ r.at }
      go ih (no q) true z =
          let r = ih (omega (arith, q)) in
          record {
            within = omega (arith, r.within, count_present_lem m z);
            at = ap (λ (l : List ℕ). get_or l (length (rising f u)) 0) (rising_present m z) ∙ (get_or-append (rising f m) (m ∷ []) 0 (length (rising f u)) r.within ∙ r.at);
          }

  -- the index at a place has this place
  pub rank_of_rising : (m i : ℕ) → i < length (rising f m) → length (rising f (get_or (rising f m) i 0)) ≡ i
  rank_of_rising zero i h = absurd (omega arith)
  rank_of_rising (suc m) i h = go (rank_of_rising m i) (f m) refl (dec_lt i (length (rising f m)))
    where
      go : (i < length (rising f m) → length (rising f (get_or (rising f m) i 0)) ≡ i) → (b : Bool) → f m ≡ b → Dec (i < length (rising f m)) → length (rising f (get_or (rising f (suc m)) i 0)) ≡ i
      go ih false z (yes k) = ap (λ (l : List ℕ). length (rising f (get_or l i 0))) (rising_absent m z) ∙ ih k
      go ih false z (no k) = absurd (omega (arith, k, count_absent m z))
      go ih true z (yes k) = ap (λ (l : List ℕ). length (rising f (get_or l i 0))) (rising_present m z) ∙ (ap (λ (x : ℕ). length (rising f x)) (get_or-append (rising f m) (m ∷ []) 0 i k) ∙ ih k)
      go ih true z (no k) =
          let e : length (rising f m) ≡ i = omega (arith, k, count_present_lem m z) in
          subst (λ (x : ℕ). length (rising f (get_or (rising f (suc m)) x 0)) ≡ x) e
          (ap (λ (l : List ℕ). length (rising f (get_or l (length (rising f m)) 0))) (rising_present m z) ∙ ap (λ (x : ℕ). length (rising f x)) (get_or-append_seam (rising f m) m [] 0))

  pub one_place : (m i j : ℕ) → i < length (rising f m) → j < length (rising f m) → get_or (rising f m) i 0 ≡ get_or (rising f m) j 0 → i ≡ j
  one_place m i j h k e = sym (rank_of_rising m i h) ∙ (ap (λ (x : ℕ). length (rising f x)) e ∙ rank_of_rising m j k)

  -- the index at a place is below m and passes the test
  pub node_marked : (m i : ℕ) → i < length (rising f m) → (get_or (rising f m) i 0 < m) × (f (get_or (rising f m) i 0) ≡ true)
  node_marked zero i h = absurd (omega arith)
  node_marked (suc m) i h = go (node_marked m i) (f m) refl (dec_lt i (length (rising f m)))
    where
      Has : ℕ → ℕ → Type 0
      Has k x = (x < k) × (f x ≡ true)

      up : (x : ℕ) → Has m x → Has (suc m) x
      up x p = (omega (arith, p.0), p.1)

      go : (i < length (rising f m) → Has m (get_or (rising f m) i 0)) → (b : Bool) → f m ≡ b → Dec (i < length (rising f m)) → Has (suc m) (get_or (rising f (suc m)) i 0)
      go ih false z (yes k) = subst (λ (l : List ℕ). Has (suc m) (get_or l i 0)) (sym (rising_absent m z)) (up _ (ih k))
      go ih false z (no k) = absurd (omega (arith, k, count_absent m z))
      go ih true z (yes k) =
          subst (λ (l : List ℕ). Has (suc m) (get_or l i 0)) (sym (rising_present m z)) (subst (λ (x : ℕ). Has (suc m) x) (sym (get_or-append (rising f m) (m ∷ []) 0 i k)) (up _ (ih k)))
      go ih true z (no k) =
          let e : length (rising f m) ≡ i = omega (arith, k, count_present_lem m z) in
          subst (λ (l : List ℕ). Has (suc m) (get_or l i 0)) (sym (rising_present m z))
          (subst (λ (j : ℕ). Has (suc m) (get_or (rising f m ++ (m ∷ [])) j 0)) e
          (subst (λ (x : ℕ). Has (suc m) x) (sym (get_or-append_seam (rising f m) m [] 0)) (omega arith, z)))

  -- its members are the indices below m for which the test holds
  pub rising_in : (m u : ℕ) → u < m → f u ≡ true → In u (rising f m)
  rising_in m u h e = let r = ranked m u h e in subst (λ (x : ℕ). In x (rising f m)) r.at (member (rising f m) (length (rising f u)) r.within)

  pub in_rising : (m u : ℕ) → In u (rising f m) → (u < m) × (f u ≡ true)
  in_rising m u w = let k = place_of (rising f m) u w in subst (λ (x : ℕ). (x < m) × (f x ≡ true)) k.2 (node_marked m k.0 k.1)

-- what the mark of an index below the bound says
pub present_yes : (m : ℕ) (marks : List ℕ) (u : ℕ) → u < m → (get_or marks u 0 ≡ 0 → ⊥) → present m marks u ≡ true
unfolding present
present_yes m marks u h e = rw (lt-ltb u m h, ne_eqb (get_or marks u 0) 0 e)

pub present_no : (m : ℕ) (marks : List ℕ) (u : ℕ) → u < m → get_or marks u 0 ≡ 0 → present m marks u ≡ false
unfolding present
present_no m marks u h e = rw (lt-ltb u m h, eq-eqb (get_or marks u 0) 0 e)

-- the nodes of a map
module _ {C : Type 0} (g : Net C) where
  pub has_below : (u : ℕ) → has g u ≡ true → u < g.bound
  has_below u e = present_below g.bound g.marks u e

  pub width_most : width g ≤ g.bound
  width_most = count_most (has g) g.bound

  pub node_ranked : (u : ℕ) → has g u ≡ true → Ranked (has g) g.bound u
  node_ranked u e = ranked (has g) g.bound u (has_below u e) e

  pub present_in : (u : ℕ) → has g u ≡ true → In u (nodes_of g)
  present_in u e = rising_in (has g) g.bound u (has_below u e) e

  pub in_present : (u : ℕ) → In u (nodes_of g) → has g u ≡ true
  in_present u w = (in_rising (has g) g.bound u w).1

  pub node_has : (i : ℕ) → i < width g → has g (get_or (nodes_of g) i 0) ≡ true
  node_has i h = (node_marked (has g) g.bound i h).1
