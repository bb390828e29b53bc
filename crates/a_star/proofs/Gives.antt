-- What a path that is given is: a path of the map from the source to the target without an index twice, its total with the cheapest arcs, which every path of a map has,
-- never above the cost; with a heuristic that is 0 at the target and at each index of the map no more than the total of any walk from there to the target, the cost is
-- the least total and the path's. From the source to itself it is the source alone, at cost 0.
-- Assumes nothing.
use mathlib.Core.Path.{◌≡◌, refl, sym, ap, ◌∙◌, subst}
use mathlib.Core.Bool.{true}
use mathlib.Core.List.{List, [], ◌∷◌, reverse, reverse-reverse}
use mathlib.Core.Logic.{◌⊎◌, inl, inr, ⊎_elim, ◌↔◌}
use mathlib.Core.Option.{Option, none, some}
use Prim.Native.Nat.{ℕ, suc, ◌≤◌, ◌<◌}
use native.Mathlib.Omega.{arith}
use borrow.Author.Tests.{eq-eqb}
use lib.IntN.{ℤ, pos}
use lib.Signed.{◌≤ℤ◌}
use lib.ListN.{length, get_or, take, drop, length-reverse}
use lib.Seq.{take_at}
use Rattle.whole.specs.Zed.{zed}
use Rattle.whole.proofs.Cases.{clash}
use Rattle.clean.specs.Fill.{filled}
use Rattle.clean.specs.None.{none_i64, none_u32}
use Rattle.walks.specs.Pigeon.{NoDup}
use Rattle.walks.specs.Walk.{Walk, stay, step, Least}
use Rattle.walks.specs.Chain.{passed, Path, Cheapest}
use Rattle.walks.proofs.Walk.{walk_up}
use Rattle.walks.proofs.Chain.{chain_distinct, passed_length}
use Rattle.pending.specs.Setting.{End}
use Rattle.pending.specs.OnePlace.{Cell, out, has as held, dist_of, done_at, begin, Ends, empty, found, wrong, more}
use Rattle.pending.specs.Reach.{Admissible}
use Rattle.pending.proofs.Cells.{upd_cases, upd_here, not_out}
use Rattle.net.specs.Net.{Net, ArcOf, has, width}
use Rattle.net.proofs.Same.{arc_has}
use Rattle.net.proofs.Cheapest.{net_path_total}
use Rattle.a_star.specs.Promise.{Question, Answer, answer_of, Buffers, Fine, at_front, search_of, Says, unreached, reached, Result, result_of, with_path, Outcome, Promise}
use Rattle.a_star.specs.Given.{path_in, Modest, Given}
use Rattle.a_star.proofs.Path.{chain_path, distinct_back, passed_source}
use Rattle.a_star.proofs.Answers.{answered, got, chain_few, some_zero}
use Rattle.a_star.proofs.Literal.{literal_exactly}
use Rattle.a_star.proofs.Settles.{cases, outcome_of}

-- an index from which a walk leads to one that the map has is one too
starts_has : (g : Net ℤ) → ((u v : ℕ) (c : ℤ) → ArcOf g u v c → has g u ≡ true) → {u v : ℕ} {t : ℤ} → Walk (ArcOf g) u v t → has g v ≡ true → has g u ≡ true
starts_has g f (stay e) h = h
starts_has g f (step {u} {v} {c = c} a w e) h = f u v c a

-- the front of what was written
front_take : (l p : List ℕ) (n : ℕ) → length l ≡ n → take n (at_front l p) ≡ l
unfolding at_front
front_take l p n e = take_at l (drop (length l) p) n e

-- the path that is given is that of the outcome
pub path_front : {g : Net ℤ} {q : Question} {b : Buffers} (e : Buffers) (r : Answer) (o : Outcome g q b (result_of r e)) → path_in e r ≡ o.path
path_front {g} {b = b} e r o =
    ap (λ (y : Result). take y.length y.buffers.path) o.leaves ∙ front_take o.path (filled g.bound none_u32 b.path) (length o.path) refl

-- its length is the one given, and no more than p, since it has no index twice
pub path_few : {g : Net ℤ} {q : Question} {b : Buffers} {y : Result} → Fine g q b → (o : Outcome g q b y) → (length o.path ≤ width g) × (y.length ≡ length o.path)
path_few {g} {q} w o = (go o.says, ap (λ (x : Result). x.length) o.leaves)
  where
    go : {d : ℤ} {l : List ℕ} → Says (ArcOf g) q o.end d l → length l ≤ width g
    go (unreached n p i) = omega (arith, ap length i)
    go {d} (reached n c i) = omega (arith, ap length i, length-reverse (passed c), passed_length c, chain_few g q w (literal_exactly.0 o.ends) d n c)

module _ {g : Net ℤ} {q : Question} {b : Buffers} where
  module _ (e : Buffers) (r : Answer) (w : Fine g q b) (o : Outcome g q b (result_of r e)) where
    -- a modest heuristic is admissible
    admissible : Modest g q → Admissible (ArcOf g) (λ v. get_or q.guess v (pos 0)) q.target
    admissible a = record { at_target = a.at_target; under = λ v t k. a.under v (starts_has g (λ u z c y. (arc_has g w.inside u z c y).0) k w.target) t k }

    -- of an outcome with a path
    gives : 0 < r.length → Given g q r (path_in e r)
    gives h = go o.says
      where
        go : Says (ArcOf g) q o.end o.cost o.path → Given g q r (path_in e r)
        go (unreached n p i) = absurd (omega (arith, h, (path_few w o).1, ap length i))
        go (reached n c i) =
            let z = some_zero (literal_exactly.0 o.ends) n in
            let is : path_in e r ≡ reverse (passed c) = path_front e r o ∙ i in
            let t = net_path_total g (chain_path c) in
            let total : Cheapest (ArcOf g) (passed c) t.0 = subst (λ (l : List ℕ). Cheapest (ArcOf g) l t.0) (reverse-reverse (passed c)) t.1 in
            let cost : o.cost ≡ r.cost = sym (ap (λ (y : Result). y.cost) o.leaves) in
            let y = answered q (literal_exactly.0 o.ends) in
            record {
              path = subst (Path (ArcOf g) q.source q.target) (sym is) (chain_path c);
              distinct = subst NoDup (sym is) (distinct_back (passed c) (chain_distinct c));
              few = omega (arith, ap length (path_front e r o), (path_few w o).0);
              walk = subst (Walk (ArcOf g) q.source q.target) cost (y.walk z o.cost n);
              total = t.0;
              cheapest = subst (λ (l : List ℕ). Cheapest (ArcOf g) (reverse l) t.0) (sym is) t.1;
              low = subst (λ (x : ℤ). t.0 ≤ℤ x) cost (y.never_above z o.cost n c t.0 total);
              least = λ a. subst (Least (ArcOf g) q.source q.target) cost (y.least z (admissible a) o.cost n);
              meets = λ a. y.path_total z (admissible a) o.cost n c t.0 total ∙ cost;
            }

  -- of every answer with a path
  pub given : {e : Buffers} {r : Answer} → Promise g q b e r → 0 < r.length → Given g q r (path_in e r)
  given {e} {r} p h = ⊎_elim (λ x. absurd (omega (arith, h, ap (λ (y : Result). y.length) x.2))) (λ x. gives e r x.0 x.1.0 h) (cases p)

-- there is such a heuristic: 0 at every index, where no cost is below zero
pub zero_modest : (g : Net ℤ) (q : Question) → ((v : ℕ) → get_or q.guess v (pos 0) ≡ pos 0) → ((u v : ℕ) (c : ℤ) → ArcOf g u v c → pos 0 ≤ℤ c) → Modest g q
zero_modest g q zero up = record { at_target = zero q.target; under = λ v h t w. subst (λ (x : ℤ). x ≤ℤ t) (sym (zero v)) (walk_up up w) }

-- ---- no path
-- no walk leads to the target
abbrev NoWalk : Net ℤ → Question → Type 0
NoWalk g q = (t : ℤ) → Walk (ArcOf g) q.source q.target t → ⊥

-- a path is given: a walk's total as the cost, not below zero
abbrev Found : Net ℤ → Question → Answer → Type 0
Found g q r = (pos 0 ≤ℤ r.cost) × (0 < r.length) × Walk (ArcOf g) q.source q.target r.cost

module _ {g : Net ℤ} {q : Question} {b : Buffers} where
  -- without a refusal: no cost and no path where no walk leads to the target, else both
  none_or_given : {e : Buffers} {r : Answer} → Promise g q b e r → r.number ≡ 0 → ((result_of r e ≡ with_path g b none_i64 []) × NoWalk g q) ⊎ Found g q r
  none_or_given {e} {r} promise z = ⊎_elim (λ x. absurd (omega (arith, z, x.0))) (λ x. go x.1.0 (sym x.1.1 ∙ z) x.1.0.says) (cases promise)
    where
      go : (o : Outcome g q b (result_of r e)) → o.end.number ≡ 0 → Says (ArcOf g) q o.end o.cost o.path → ((result_of r e ≡ with_path g b none_i64 []) × NoWalk g q) ⊎ Found g q r
      go o y (unreached n p i) = inl (o.leaves ∙ (λ j. with_path g b (p j) (i j)), (answered q (literal_exactly.0 o.ends)).unreached y n)
      go o y (reached n c i) =
          let k = got q (literal_exactly.0 o.ends) q.target o.cost n in
          let cost : o.cost ≡ r.cost = sym (ap (λ (y : Result). y.cost) o.leaves) in
          let some : 0 < r.length = omega (arith, ap (λ (y : Result). y.length) o.leaves, ap length i, length-reverse (passed c), passed_length c) in
          inr (subst (λ (x : ℤ). pos 0 ≤ℤ x) cost k.up, some, subst (Walk (ArcOf g) q.source q.target) cost k.walk)

  -- so no path exactly without a walk
  pub none_exactly : {e : Buffers} {r : Answer} → Promise g q b e r → r.number ≡ 0 → (r.length ≡ 0) ↔ NoWalk g q
  none_exactly {e} {r} p z = go (none_or_given p z)
    where
      go : ((result_of r e ≡ with_path g b none_i64 []) × NoWalk g q) ⊎ Found g q r → (r.length ≡ 0) ↔ NoWalk g q
      go (inl k) = (λ e. k.1, λ f. ap (λ (y : Result). y.length) k.0)
      go (inr k) = (λ e. absurd (omega (arith, e, k.1)), λ f. absurd (f r.cost k.2))

  -- and cost none exactly without one
  pub cost_none_exactly : {e : Buffers} {r : Answer} → Promise g q b e r → r.number ≡ 0 → (r.cost ≡ none_i64) ↔ NoWalk g q
  cost_none_exactly {e} {r} p z = go (none_or_given p z)
    where
      go : ((result_of r e ≡ with_path g b none_i64 []) × NoWalk g q) ⊎ Found g q r → (r.cost ≡ none_i64) ↔ NoWalk g q
      go (inl k) = (λ e. k.1, λ f. ap (λ (y : Result). y.cost) k.0)
      go (inr k) = (λ e. absurd (omega (arith, zed, e, k.0)), λ f. absurd (f r.cost k.2))

-- ---- from the source to itself
-- at the start the source alone is pending
first_held : (q : Question) (u : ℕ) (d : ℤ) (p : Option ℕ) → begin (search_of q) u ≡ held d p true → u ≡ q.source
unfolding begin
first_held q u d p e = elim (upd_cases (λ v. out) q.source (held (pos 0) none true) u (held d p true) e) [ inl i ↦ i.0 | inr i ↦ absurd (not_out i.1) ]

-- it has the distance 0
first_dist : (q : Question) → begin (search_of q) q.source ≡ held (pos 0) none true
unfolding begin
first_dist q = upd_here (λ v. out) q.source (held (pos 0) none true)

-- so the search ends with the first take
ends_first : {Arc : ℕ → ℕ → ℤ → Type 0} (q : Question) → q.target ≡ q.source → {s : ℕ → Cell ℤ} {n : ℕ} {x : End ℤ} → s ≡ begin (search_of q) → Ends (search_of q) Arc s n x → x ≡ done_at s (suc n)
ends_first q e k (empty f) = absurd (f q.source (pos 0) none (ap (λ (z : ℕ → Cell ℤ). z q.source) k ∙ first_dist q))
ends_first q e k (found u d p t i) = refl
ends_first q e k (wrong u d p t i v c a y) = absurd (clash (eq-eqb u q.target (first_held q u d p (sym (ap (λ (z : ℕ → Cell ℤ). z u) k) ∙ t.held) ∙ sym e)) i)
ends_first q e k (more w r) = absurd (clash (eq-eqb w.u q.target (first_held q w.u w.d w.p (sym (ap (λ (z : ℕ → Cell ℤ). z w.u) k) ∙ w.taken.held) ∙ sym e)) w.passed)

module _ {g : Net ℤ} {q : Question} {b : Buffers} where
  -- cost 0, and the source alone
  pub own_place : {e : Buffers} {r : Answer} → Promise g q b e r → Fine g q b → q.target ≡ q.source → (r ≡ answer_of 0 (pos 0) 1) × (path_in e r ≡ q.source ∷ [])
  own_place {e} {r} promise w k = go o.says
    where
      o : Outcome g q b (result_of r e)
      o = (outcome_of promise w).0

      x : o.end ≡ done_at (begin (search_of q)) 1
      x = ends_first q k refl (literal_exactly.0 o.ends)

      at : o.end.dist q.target ≡ some (pos 0)
      at = ap (λ (y : End ℤ). y.dist q.target) x ∙ ap dist_of (ap (begin (search_of q)) k ∙ first_dist q)

      number : r.number ≡ 0
      number = (outcome_of promise w).1 ∙ ap (λ (y : End ℤ). y.number) x

      go : Says (ArcOf g) q o.end o.cost o.path → (r ≡ answer_of 0 (pos 0) 1) × (path_in e r ≡ q.source ∷ [])
      go (unreached n p i) = absurd (let y : none ≡ some (pos 0) = sym n ∙ at in let j : ◌≡◌ {A = ℕ} 0 1 = cc in omega arith)
      go (reached n c i) =
          let y : some o.cost ≡ some (pos 0) = sym n ∙ at in
          let cost : o.cost ≡ pos 0 = cc in
          let l : o.path ≡ q.source ∷ [] = i ∙ (ap reverse (passed_source c k) ∙ ap (λ (v : ℕ). v ∷ []) k) in
          let is : result_of r e ≡ with_path g b (pos 0) (q.source ∷ []) = o.leaves ∙ (λ j. with_path g b (cost j) (l j)) in
          (λ j. answer_of (number j) (is j).cost (is j).length, path_front e r o ∙ l)
