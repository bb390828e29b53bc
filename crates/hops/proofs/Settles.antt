-- The promise settles the answer and each buffer, and goes by the ends of the arcs alone: the costs, and the kind of the map, have no influence.
-- Two least numbers of arcs between the same indices are equal, so two matrices are, entry by entry, and the rest is told by the rows of the promise. With each arc at
-- the cost 1 a number of arcs is a total, and a least total has fewer arcs than there are indices: so no number of hops is none. Maps of any two kinds whose arcs
-- have the same ends have the same steps between indices, and so one promise.
-- Assumes nothing.
use mathlib.Core.Path.{◌≡◌, refl, sym, ap, ◌∙◌, subst}
use mathlib.Core.Bool.{Bool, true, ◌&&◌}
use mathlib.Core.List.{List, [], ◌∷◌, ◌++◌}
use mathlib.Core.Logic.{◌↔◌}
use Prim.Native.Nat.{ℕ, suc, ◌+◌, ◌*◌, ◌≤◌, ◌<◌}
use native.Mathlib.Omega.{arith}
use native.Mathlib.Decide.{dec_lt}
use lib.IntN.{ℤ, pos}
use lib.Signed.{◌≤ℤ◌}
use lib.ListN.{length, get_or, drop}
use lib.Seq.{ext_get_or}
use Rattle.clean.specs.None.{none_u32}
use Rattle.clean.proofs.Filled.{rest_at}
use Rattle.whole.specs.Zed.{zed, sum, Within}
use Rattle.whole.proofs.Cases.{agree}
use Rattle.numbers.specs.Numbers.{At, Given}
use Rattle.numbers.specs.Over.{Over}
use Rattle.numbers.proofs.Numbers.{◌then◌, is_one, follows_one, exactly, given, follows_over}
use Rattle.table.specs.Links.{zip3}
use Rattle.table.proofs.Arcs.{inside_arc, ends_leads}
use Rattle.walks.specs.Walk.{Walk, Least, NoNeg}
use Rattle.walks.specs.Walk as walks
use Rattle.walks.proofs.Cheap.{least_within}
use Rattle.net.specs.Net.{Net, LeadsOf, links_of, has, rising, nodes_of, width, whole_net, inside_net, most_arcs, most_arcs_of, SameNet}
use Rattle.net.proofs.Nodes.{rising_same, member, present_in}
use Rattle.net.proofs.Same.{leads_has, same_leads}
use Rattle.net.proofs.Bounds.{Whole, width_small}
use Rattle.matrix.proofs.Matrix.{place}
use Rattle.hops.specs.Steps.{Steps, stay, step, LeastSteps, Entry}
use Rattle.hops.specs.Promise.{Buffers, Matrix, enough, long_enough, left, Result, result_of, table, Promise}
use Rattle.hops.proofs.Steps.{entry_one, entry_over, diagonal_zero}

-- ---- two answers that the promise allows are equal
-- two matrices of hops are equal
pub matrix_one : {C : Type 0} (g : Net C) (b x y : List ℕ) → Matrix g b x → Matrix g b y → x ≡ y
matrix_one g b x y p q = ext_get_or 0 x y (p.long ∙ sym q.long) (λ i h. at i (dec_lt i (width g * width g)))
  where
    at : (i : ℕ) → Dec (i < width g * width g) → get_or x i 0 ≡ get_or y i 0
    at i (yes h) =
        let k = place (width g) i h in
        subst (λ (z : ℕ). get_or x z 0 ≡ get_or y z 0) k.at (entry_one (p.each k.i k.j k.row k.column) (q.each k.i k.j k.row k.column))
    at i (no f) = rest_at (width g * width g) x y 0 i (p.rest ∙ sym q.rest) (omega (arith, f))

-- what is left after 0: one matrix is allowed, and it tells the rest
abbrev pub After : {C : Type 0} → Net C → Buffers → Result → Type 0
After g b o = Matrix g b.matrix o.buffers.matrix × (o ≡ result_of (width g) (left g b o.buffers.matrix))

module _ {C : Type 0} {g : Net C} {b : Buffers} where
  -- the number, p and every buffer, the outputs and the scratch
  pub promise_one : {e e' : Buffers} {number number' p p' : ℕ} → Promise g b e number p → Promise g b e' number' p' → (number ≡ number') × (p ≡ p') × (e ≡ e')
  promise_one {e} {e'} {number} {number'} {p} {p'} x y =
      let o = follows_one (table g b) (result_of p e) (result_of p' e') number number' (is_one then is_one then all then tt) x.follows y.follows in
      (o.0, ap (λ (z : Result). z.count) o.1, ap (λ (z : Result). z.buffers) o.1)
    where
      all : (x y : Result) → After g b x → After g b y → x ≡ y
      all x y p q = p.1 ∙ (ap (λ (z : List ℕ). result_of (width g) (left g b z)) (matrix_one g b.matrix _ _ p.0 q.0) ∙ sym q.1)

  module _ {e : Buffers} {number p : ℕ} (a : Promise g b e number p) where
    -- ---- each number exactly when its row is reached, and what is then left
    pub promise_exactly : (k : ℕ) → (number ≡ k) ↔ At k (table g b)
    promise_exactly = exactly (table g b) (result_of p e) number a.follows

    pub promise_given : (k : ℕ) → number ≡ k → Given k (table g b) (result_of p e)
    promise_given = given (table g b) (result_of p e) number a.follows

-- ---- the diagonal is 0, and a map without nodes leaves the outputs as they were
pub diagonal : {C : Type 0} (g : Net C) (b x : List ℕ) → Matrix g b x → (i : ℕ) → i < width g → get_or x (i * width g + i) 0 ≡ 0
diagonal g b x m i h = diagonal_zero (m.each i i h h)

written_none : (l r : List ℕ) → length l ≡ 0 → l ++ drop (length l) r ≡ r
written_none [] r e = refl
written_none (y ∷ l) r e = absurd (omega arith)

pub no_nodes : {C : Type 0} {g : Net C} {b e : Buffers} {p : ℕ} → Promise g b e 0 p → width g ≡ 0 → (p ≡ 0) × (e.nodes ≡ b.nodes) × (e.matrix ≡ b.matrix)
no_nodes {g = g} {b = b} {e = e} a z =
    let (l, (i, (t, x))) = promise_given a 0 refl in (
      ap (λ (o : Result). o.count) x.1 ∙ z,
      ap (λ (o : Result). o.buffers.nodes) x.1 ∙ written_none (nodes_of g) b.nodes z,
      subst (λ (w : ℕ). drop (w * w) e.matrix ≡ drop (w * w) b.matrix) z x.0.rest,
    )

-- ---- no number of hops is none: a shortest walk passes no index twice, so it has fewer arcs than the map has nodes
-- each arc at the cost 1
abbrev Unit1 : (ℕ → ℕ → Type 0) → ℕ → ℕ → ℤ → Type 0
Unit1 E u v c = E u v × (c ≡ pos 1)

module _ {E : ℕ → ℕ → Type 0} where
  total_of : {u v n : ℕ} → Steps E u v n → Walk (Unit1 E) u v (pos n)
  total_of stay = walks.stay refl
  total_of (step {n = n} a w) = walks.step {r = pos (suc n)} (a, refl) (total_of w) (omega (arith, zed, sum (pos 1) (pos n)))

  count_of : {u v : ℕ} {t : ℤ} → Walk (Unit1 E) u v t → (n : ℕ) × Steps E u v n × (t ≡ pos n)
  count_of (walks.stay e) = (0, stay, e)
  count_of {t = r} (walks.step {c} {t} a w e) =
      let k = count_of w in
      let n : ℕ = k.0 in
      let x : t ≡ pos n = k.2 in
      let y : c ≡ pos 1 = a.1 in
      (suc n, step a.0 k.1, omega (arith, zed, sum c t))

  least_of : {s v d : ℕ} → LeastSteps E s v d → Least (Unit1 E) s v (pos d)
  least_of {s} {v} {d} l = record { walk = total_of l.walk; least = low }
    where
      low : (t : ℤ) → Walk (Unit1 E) s v t → pos d ≤ℤ t
      low t w =
          let k = count_of w in
          let n : ℕ = k.0 in
          let x : t ≡ pos n = k.2 in
          let y : d ≤ n = l.least n k.1 in
          omega (arith, zed)

  no_neg : (s : ℕ) → NoNeg (Unit1 E) s
  no_neg s x a t r w =
      let k = count_of w in
      let n : ℕ = k.0 in
      let y : t ≡ pos n = k.2 in
      omega (arith, zed)

module _ {C : Type 0} (g : Net C) (inside : inside_net g ≡ true) where
  pub hops_few : (i v d : ℕ) → i < width g → LeastSteps (LeadsOf g) (get_or (nodes_of g) i 0) v d → d < width g
  hops_few i v d h l =
      let w = least_within (nodes_of g) 1 (λ x y c a. present_in g y (leads_has g inside x y a.0).1) (member (nodes_of g) i h) (λ x y c a. subst (Within 1) (sym a.1) (omega arith)) (no_neg _)
      (least_of l) in
      let n : ℕ = w.0 in
      let a : Within (n * 1) (pos d) = w.2 in
      let few : n < width g = w.1 in
      omega (arith, zed)

  pub hops_not_none : Whole g → (i v d : ℕ) → i < width g → LeastSteps (LeadsOf g) (get_or (nodes_of g) i 0) v d → d < none_u32
  hops_not_none whole i v d h l = omega (arith, hops_few i v d h l, width_small whole)

-- ---- the promise goes by the ends of the arcs alone
-- maps of any kinds: the same numbers and present indices, and arcs between the same indices
pub record SameEnds {C D : Type 0} (g : Net C) (g' : Net D) : Type 0 where
  pub bound : g.bound ≡ g'.bound
  pub count : g.count ≡ g'.count
  pub directed : g.directed ≡ g'.directed
  pub has : (i : ℕ) → has g i ≡ has g' i
  pub leads : (u v : ℕ) → LeadsOf g u v ↔ LeadsOf g' u v

pub ends_back : {C D : Type 0} {g : Net C} {g' : Net D} → SameEnds g g' → SameEnds g' g
ends_back s = record { bound = sym s.bound; count = sym s.count; directed = sym s.directed; has = λ i. sym (s.has i); leads = λ u v. ((s.leads u v).1, (s.leads u v).0) }

pub inside_over : {C D : Type 0} {g : Net C} {g' : Net D} → SameEnds g g' → inside_net g ≡ true → inside_net g' ≡ true
inside_over {g = g} {g' = g'} s e =
    inside_arc g'.directed g'.bound g'.marks (links_of g') (λ u v c w. let k = leads_has g e u v ((s.leads u v).1 (c, w)) in (sym (s.has u) ∙ k.0, sym (s.has v) ∙ k.1))

module _ {C D : Type 0} {g : Net C} {g' : Net D} (s : SameEnds g g') where
  same_inside : inside_net g ≡ inside_net g'
  same_inside = agree (inside_net g) (inside_net g') (λ e. inside_over s e) (λ e. inside_over (ends_back s) e)

  same_nodes : nodes_of g ≡ nodes_of g'
  same_nodes = rising_same (has g) (has g') (λ i. s.has i) g.bound ∙ ap (λ (m : ℕ). rising (has g') m) s.bound

  same_size : most_arcs_of g ≡ most_arcs_of g'
  same_size = λ i. most_arcs (s.directed i) (s.count i)

  same_left : (b : Buffers) (x : List ℕ) → left g b x ≡ left g' b x
  same_left b x = rw (same_nodes, s.bound, same_size)

  pub matrix_over : (b x : List ℕ) → Matrix g b x → Matrix g' b x
  matrix_over b x p = record {
    long = p.long;
    each =
        subst (λ (r : List ℕ). (i j : ℕ) → i < length r → j < length r → Entry (LeadsOf g') (get_or r i 0) (get_or r j 0) (get_or x (i * length r + j) 0)) same_nodes
        (λ i j h k. entry_over (λ u v. (s.leads u v).0) (λ u v. (s.leads u v).1) (p.each i j h k));
    rest = subst (λ (r : List ℕ). drop (length r * length r) x ≡ drop (length r * length r) b) same_nodes p.rest;
  }

  module _ (whole : whole_net g ≡ whole_net g') where
    same_enough : (b : Buffers) → enough g b ≡ enough g' b
    same_enough b = λ i. whole i && long_enough (s.bound i) (same_size i) (length (same_nodes i)) b

    -- maps of different kinds with the same ends, both long enough or both not, have one promise
    pub promise_ends : {b e : Buffers} {number p : ℕ} → Promise g b e number p → Promise g' b e number p
    promise_ends {b} {e} {number} {p} a = record { follows = follows_over (table g b) (table g' b) (result_of p e) number rows a.follows }
      where
        -- row by row
        rows : Over (table g b) (table g' b)
        rows =
            (refl, same_enough b, λ o q. q)
            then (refl, same_inside, λ o q. q)
            then (refl, (λ u. u, λ u. u), λ o q. (matrix_over b.matrix o.buffers.matrix q.0, q.1 ∙ (λ i. result_of (length (same_nodes i)) (same_left b o.buffers.matrix i))))
            then tt

    -- two calls on such maps, with the same buffers, answer the same and leave the same
    pub answers_ends : {b e e' : Buffers} {number number' p p' : ℕ} → Promise g b e number p → Promise g' b e' number' p' → (number ≡ number') × (p ≡ p') × (e ≡ e')
    answers_ends a c = promise_one (promise_ends a) c

-- no cost, and no open mark, has any influence: maps of any kinds over the same slices of ends have the same ends
pub costs_free : {C D : Type 0} (m n r r' : ℕ) (d : Bool) (marks xs ys : List ℕ) (cs : List C) (ds : List D) → n ≤ length cs → n ≤ length ds
    → SameEnds (record { bound = m; count = n; directed = d; room = r; marks = marks; table = zip3 xs ys cs })
    (record { bound = m; count = n; directed = d; room = r'; marks = marks; table = zip3 xs ys ds })
costs_free m n r r' d marks xs ys cs ds h k = record {
  bound = refl;
  count = refl;
  directed = refl;
  has = λ i. refl;
  leads = λ u v. (
    λ w. (ends_leads d xs ys ds n k u v).0 ((ends_leads d xs ys cs n h u v).1 w),
    λ w. (ends_leads d xs ys cs n h u v).0 ((ends_leads d xs ys ds n k u v).1 w),
  );
}

-- ---- so it goes by the arcs
module _ {C : Type 0} {g g' : Net C} (s : SameNet g g') where
  ends_of : SameEnds g g'
  ends_of = record { bound = s.bound; count = s.count; directed = s.directed; has = s.has; leads = same_leads s }

  pub promise_arcs : {b e : Buffers} {number p : ℕ} → Promise g b e number p → Promise g' b e number p
  promise_arcs a = promise_ends ends_of s.whole a
