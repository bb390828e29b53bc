-- One put into a table. The search ends in one of three ways (`Found`): refused with some number, and the table stays; at the place of the
-- link, whose cost is replaced there; at the end, where the record is appended. In the last two the number is 0, the links are those of
-- `put_list`, and the table stays sound.
-- Assumes nothing.
use mathlib.Core.Path.{◌≡◌, refl, sym, ap, ◌∙◌, subst}
use mathlib.Core.Bool.{Bool, true, false, cond}
use mathlib.Core.List.{List, [], ◌∷◌, ◌++◌}
use Prim.Native.Nat.{ℕ, zero, suc, ◌+◌, ◌≤◌, ◌<◌}
use native.Mathlib.Nat.{not-suc-le-zero}
use native.Mathlib.Numerals.{add-one}
use native.Mathlib.Omega.{arith}
use borrow.Author.Tests.{ne_eqb}
use lib.Dec.{eqb}
use lib.ListN.{length, take, set, length-set}
use lib.Seq.{length-take-le, take-suc-set}
use Rattle.whole.proofs.Cases.{and_left, and_right}
use Rattle.table.specs.Links.{Link, link_of, joins, place_of, inside, all_inside, Place, place_now, placing}
use Rattle.table.proofs.Tables.{put_list, recost, Table, store, put_table, held}
use Rattle.table.proofs.Laws.{Found, refused, replaced, appended, found, not_zero}

module _ {C : Type 0} where
  -- the cost replaced, in the first n places and in all
  pub take_recost : (n k : ℕ) (c : C) (ls : List (Link C)) → take n (recost k c ls) ≡ recost k c (take n ls)
  take_recost zero k c ls = refl
  take_recost (suc n) k c [] = refl
  take_recost (suc n) zero c (l ∷ ls) = refl
  take_recost (suc n) (suc k) c (l ∷ ls) = ap {B = List (Link C)} (λ x. l ∷ x) (take_recost n k c ls)

  pub length_recost : (k : ℕ) (c : C) (ls : List (Link C)) → length (recost k c ls) ≡ length ls
  length_recost k c [] = refl
  length_recost zero c (l ∷ ls) = refl
  length_recost (suc k) c (l ∷ ls) = ap suc (length_recost k c ls)

  -- a put at the place of a link replaces its cost
  put_recost : (d : Bool) (r : Link C) (ls : List (Link C)) → place_of d r.a r.b ls < length ls → recost (place_of d r.a r.b ls) r.cost ls ≡ put_list d r ls
  put_recost d r [] h = absurd (not-suc-le-zero h)
  put_recost d r (l ∷ ls) h = go (place_of d r.a r.b ls) (λ k. put_recost d r ls k) (joins d r.a r.b l) h
    where
      go : (k : ℕ) → (k < length ls → recost k r.cost ls ≡ put_list d r ls) → (t : Bool) → cond t 0 (1 + k) < suc (length ls)
          → recost (cond t 0 (1 + k)) r.cost (l ∷ ls) ≡ cond t (link_of l.a l.b r.cost ∷ ls) (l ∷ put_list d r ls)
      go k f true q = refl
      go k f false q = let e : 1 + k ≡ suc k = omega arith in rw e (ap {B = List (Link C)} (λ x. l ∷ x) (f (omega arith)))

  -- a put of a new link appends it
  put_end : (d : Bool) (r : Link C) (ls : List (Link C)) → length ls ≤ place_of d r.a r.b ls → put_list d r ls ≡ ls ++ (r ∷ [])
  put_end d r [] h = refl
  put_end d r (l ∷ ls) h = go (place_of d r.a r.b ls) (put_end d r ls) (joins d r.a r.b l) h
    where
      go : (k : ℕ) → (length ls ≤ k → put_list d r ls ≡ ls ++ (r ∷ [])) → (t : Bool) → suc (length ls) ≤ cond t 0 (1 + k)
          → cond t (link_of l.a l.b r.cost ∷ ls) (l ∷ put_list d r ls) ≡ l ∷ (ls ++ (r ∷ []))
      go k f true q = absurd (omega arith)
      go k f false q = ap {B = List (Link C)} (λ x. l ∷ x) (f (omega arith))

  -- a put of a good record keeps every link inside
  all_put : (d : Bool) (m : ℕ) (marks : List ℕ) (r : Link C) (ls : List (Link C)) → inside m marks r ≡ true → all_inside m marks ls ≡ true → all_inside m marks (put_list d r ls) ≡ true
  all_put d m marks r [] h e = rw h
  all_put d m marks r (l ∷ ls) h e = go (all_put d m marks r ls h (and_right (inside m marks l) _ e)) (joins d r.a r.b l)
    where
      go : all_inside m marks (put_list d r ls) ≡ true → (t : Bool) → all_inside m marks (cond t (link_of l.a l.b r.cost ∷ ls) (l ∷ put_list d r ls)) ≡ true
      go q true = e
      go q false = rw (and_left (inside m marks l) _ e) q

module _ {C : Type 0} (m room : ℕ) (marks : List ℕ) where
  -- a table with its count within its room and every link inside: what refusals 1 and 2 leave out is the bound and the marks, which no put changes
  pub record Sound (t : Table C) : Type 0 where
    pub few : t.count ≤ room
    pub inside : all_inside m marks (held t) ≡ true
    pub roomy : room ≤ length t.places

  -- the number of its links
  pub held_long : (t : Table C) → Sound t → length (held t) ≡ t.count
  held_long t s = length-take-le t.count t.places (omega (arith, s.few, s.roomy))

-- the three ends of a store
module _ {C : Type 0} (r : Link C) (n : ℕ) (ls : List (Link C)) where
  store_refused : (k : ℕ) → (k ≡ 0 → ⊥) → store (place_now k n 0 false) r ls ≡ record { number = k; count = n; places = ls }
  unfolding store
  store_refused k h = rw (ne_eqb k 0 h)

  store_old : (k : ℕ) → store (place_now 0 n k false) r ls ≡ record { number = 0; count = n; places = recost k r.cost ls }
  unfolding store
  store_old k = refl

  store_new : store (place_now 0 (n + 1) n true) r ls ≡ record { number = 0; count = n + 1; places = set ls n r }
  unfolding store
  store_new = refl

module _ {C : Type 0} (d : Bool) (m room : ℕ) (marks : List ℕ) (r : Link C) (t : Table C) (s : Sound m room marks t) where
  -- what a put leaves: the record put on the list of links if the number is 0, else the links that were there
  pub record Step (t' : Table C) : Type 0 where
    pub sound : Sound m room marks t'
    pub holds : held t' ≡ cond (eqb t'.number 0) (put_list d r (held t)) (held t)

  -- a put that was done
  done : (n : ℕ) (ls : List (Link C)) → inside m marks r ≡ true → n ≤ room → room ≤ length ls → take n ls ≡ put_list d r (held t) → Step (record { number = 0; count = n; places = ls })
  done n ls i f l e = record { sound = record { few = f; inside = ap (all_inside m marks) e ∙ all_put d m marks r (held t) i s.inside; roomy = l }; holds = e }

  pub put_step : Step (put_table d m room marks r t)
  put_step = by (found d m room marks r.a r.b t.count t.places)
    where
      by : Found d m room marks r.a r.b t.count t.places (placing d m room marks r.a r.b t.count t.places) → Step (put_table d m room marks r t)
      by (refused k w q) =
          let z = not_zero d m room marks r.a r.b t.count t.places k w in
          let e = ap (λ (p : Place). store p r t.places) q ∙ store_refused r t.count t.places k z in
          subst Step (sym e) (record { sound = record { few = s.few; inside = s.inside; roomy = s.roomy }; holds = rw (ne_eqb k 0 z) })
      by (replaced g i h q) =
          let e = ap (λ (p : Place). store p r t.places) q ∙ store_old r t.count t.places (place_of d r.a r.b (held t)) in
          subst Step (sym e)
          (done t.count (recost (place_of d r.a r.b (held t)) r.cost t.places) i
          s.few
          (omega (arith, s.roomy, length_recost (place_of d r.a r.b (held t)) r.cost t.places))
          (take_recost t.count (place_of d r.a r.b (held t)) r.cost t.places ∙ put_recost d r (held t) (omega (arith, held_long m room marks t s))))
      by (appended g i h k q) =
          let e = ap (λ (p : Place). store p r t.places) q ∙ store_new r t.count t.places in
          subst Step (sym e)
          (done (t.count + 1) (set t.places t.count r) i
          (omega arith)
          (omega (arith, s.roomy, length-set t.places t.count r))
          (rw (add-one t.count) (take-suc-set t.places t.count r (omega (arith, s.roomy))) ∙ sym (put_end d r (held t) (omega (arith, held_long m room marks t s)))))
