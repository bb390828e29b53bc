-- The promise of `a_star` settles the answer and each buffer (the pending bag has one end, and one chain leads back from the target), goes by the arcs alone, and gives
-- each number exactly when its row is reached. Behind the tests both 0 and 6 are what the search's end says, so a call is refused with nothing changed or has an outcome.
-- Assumes nothing.
use mathlib.Core.Path.{◌≡◌, refl, sym, ap, ◌∙◌, subst, fun_ext}
use mathlib.Core.Bool.{Bool, true, false, ◌&&◌}
use mathlib.Core.List.{List, [], reverse}
use mathlib.Core.Logic.{◌⊎◌, inl, inr, ⊎_elim, ◌↔◌}
use mathlib.Core.Option.{Option, none, some}
use Prim.Native.Nat.{ℕ, zero, suc, ◌≤◌, ◌<◌}
use native.Mathlib.Omega.{arith}
use lib.IntN.{ℤ, pos}
use lib.ListN.{length, get_or}
use Rattle.whole.proofs.Cases.{clash, other}
use Rattle.numbers.specs.Numbers.{here, past, Follows, At, Given}
use Rattle.numbers.specs.Over.{Over}
use Rattle.numbers.proofs.Numbers.{◌then◌, is_one, follows_one, exactly, given, follows_over, behind, follows_behind}
use Rattle.std.specs.Prelude.{Result as Back, Ok, Err, Option as Found, Some, None}
use Rattle.numbers.specs.declared.Refusal.{Refusal}
use Rattle.numbers.proofs.Refused.{refused_ne0, refusal_one}
use Rattle.clean.specs.Fill.{filled}
use Rattle.clean.specs.None.{none_i64, none_u32}
use Rattle.pending.specs.Setting.{End}
use Rattle.pending.proofs.Literal.{literal_one}
use Rattle.pending.proofs.One.{ends_map, number_is}
use Rattle.net.specs.Net.{Net, ArcOf, has, SameNet}
use Rattle.net.proofs.Same.{same_inside, same_size}
use Rattle.rows.specs.Rows.{rows_of}
use Rattle.a_star.specs.declared.Route.{Route}
use Rattle.a_star.specs.Promise.{Question, Answer, answer_of, answer_in, HasIndex, Buffers, long_enough, enough, is_fair, fair_at, fair_below, fair_guess}
use Rattle.a_star.specs.Promise.{Fine, at_front, wiped_all, search_of, EndsIn, Says, unreached, reached, Result, result_of, no_path, with_path, Outcome, table, Promise}
use Rattle.a_star.proofs.Path.{passed_one, chain_over, passed_over}
use Rattle.a_star.proofs.Refusals.{fair_absent, fair_present, fair_stop}
use Rattle.a_star.proofs.Answers.{end_refused}
use Rattle.a_star.proofs.Literal.{literal_exactly}

-- ---- one outcome
-- the search has one end
pub end_one : {g : Net ℤ} {q : Question} {x y : End ℤ} → EndsIn g q x → EndsIn g q y → x ≡ y
end_one {g} {q} p r = literal_one (search_of q) (rows_of g) p.run r.run

-- none is no distance
nothing : {A : Type 0} {o : Option ℤ} {d : ℤ} → o ≡ none → o ≡ some d → A
nothing {A} {o} {d} p z = absurd (let k : none ≡ some d = sym p ∙ z in let y : ◌≡◌ {A = ℕ} 0 1 = cc in omega arith)

-- what an end says is one cost and one path
says_one : {Arc : ℕ → ℕ → ℤ → Type 0} {q : Question} {x : End ℤ} {d d' : ℤ} {l l' : List ℕ} → Says Arc q x d l → Says Arc q x d' l' → (d ≡ d') × (l ≡ l')
says_one (unreached n p i) (unreached n' p' i') = (p ∙ sym p', i ∙ sym i')
says_one (unreached n p i) (reached n' c' i') = nothing n n'
says_one (reached n c i) (unreached n' p' i') = nothing n' n
says_one {d = d} {d'} (reached n c i) (reached n' c' i') = let k : some d ≡ some d' = sym n ∙ n' in (cc, i ∙ (ap reverse (passed_one c c' refl) ∙ sym i'))

-- one cost and one path, whatever the buffers
pub outcome_path : {g : Net ℤ} {q : Question} {b b' : Buffers} {y y' : Result} (o : Outcome g q b y) (u : Outcome g q b' y') → (o.cost ≡ u.cost) × (o.path ≡ u.path)
outcome_path {g} {q} o u = says_one o.says (subst (λ (x : End ℤ). Says (ArcOf g) q x u.cost u.path) (end_one u.ends o.ends) u.says)

-- one outcome
outcome_one : {g : Net ℤ} {q : Question} {b : Buffers} {y y' : Result} → Outcome g q b y → Outcome g q b y' → y ≡ y'
outcome_one {g} {q} {b} o u = let k = outcome_path o u in o.leaves ∙ ((λ i. with_path g b (k.0 i) (k.1 i)) ∙ sym u.leaves)

-- ---- from the outcome to the promise, and back
-- an end with 6 gives no path
no_distance : {g : Net ℤ} {q : Question} {x : End ℤ} → EndsIn g q x → x.number ≡ 6 → x.dist q.target ≡ none
no_distance {q = q} r z = ap (λ (y : End ℤ). y.dist q.target) (end_refused (literal_exactly.0 r) (λ y. other 6 0 z y (λ w. omega arith))).1

-- an end with another number has 0
zero_else : {g : Net ℤ} {q : Question} {x : End ℤ} → EndsIn g q x → (x.number ≡ 6 → ⊥) → x.number ≡ 0
zero_else r f = ⊎_elim (λ z. z) (λ z. absurd (f z)) (number_is (literal_exactly.0 r))

-- an outcome, and its end's number
abbrev pub Ran : Net ℤ → Question → Buffers → Buffers → Answer → Type 0
Ran g q b e r = (o : Outcome g q b (result_of r e)) × (r.number ≡ o.end.number)

-- a refusal by a test: no path, and the buffers as lent
abbrev pub Refused : Buffers → Buffers → Answer → Type 0
Refused b e r = (1 ≤ r.number) × (r.number ≤ 5) × (result_of r e ≡ no_path b)

-- behind the tests the promise says an outcome: after 6 one without a path
run_of : (g : Net ℤ) (q : Question) (b e : Buffers) (r : Answer) → Follows (behind 5 (table g q b)) (result_of r e) r.number → Ran g q b e r
run_of g q b e r (here y x) =
    (record { end = y.0; ends = y.1; cost = none_i64; path = []; says = unreached (no_distance y.1 y.2) refl refl; leaves = x.1 }, x.0 ∙ sym y.2)
run_of g q b e r (past w (here y x)) = let o = x.1 in (o, x.0 ∙ sym (zero_else o.ends (λ z. w (o.end, o.ends, z))))
run_of g q b e r (past w (past y x)) = absurd x

module _ {g : Net ℤ} {q : Question} {b e : Buffers} where
  -- an outcome is what the promise says
  pub ran : {r : Answer} → Fine g q b → Ran g q b e r → Promise g q b e r
  ran {r} w (o, is) =
      record { follows = past w.enough (past w.inside (past w.source (past w.target (past w.fair (go (number_is (literal_exactly.0 o.ends))))))) }
    where
      blank : o.end.number ≡ 6 → Says (ArcOf g) q o.end o.cost o.path → result_of r e ≡ with_path g b none_i64 []
      blank z (unreached n p i) = o.leaves ∙ (λ j. with_path g b (p j) (i j))
      blank z (reached n c i) = nothing (no_distance o.ends z) n

      go : (o.end.number ≡ 0) ⊎ (o.end.number ≡ 6) → Follows (behind 5 (table g q b)) (result_of r e) r.number
      go (inl z) = past (λ y. other 6 0 y.2 (ap (λ (x : End ℤ). x.number) (end_one y.1 o.ends) ∙ z) (λ k. omega arith)) (here tt (is ∙ z, o))
      go (inr z) = here (o.end, o.ends, z) (is ∙ z, blank z o.says)

  -- where nothing is refused there is an outcome
  pub outcome_of : {r : Answer} → Promise g q b e r → Fine g q b → Ran g q b e r
  outcome_of {r} p w = run_of g q b e r (follows_behind 5 (table g q b) (result_of r e) r.number (w.enough then w.inside then w.source then w.target then w.fair then tt) p.follows)

  -- so what the promise says is a refusal or an outcome
  pub cases : {r : Answer} → Promise g q b e r → Refused b e r ⊎ (Fine g q b × Ran g q b e r)
  cases {r} promise = go promise.follows
    where
      test : (k : ℕ) → 1 ≤ k → k ≤ 5 → (r.number ≡ k) × (result_of r e ≡ no_path b) → Refused b e r ⊎ (Fine g q b × Ran g q b e r)
      test k l h x = let n = x.0 in inl (omega (arith, n, l), omega (arith, n, h), x.1)

      go : Follows (table g q b) (result_of r e) r.number → Refused b e r ⊎ (Fine g q b × Ran g q b e r)
      go (here l x) = test 1 (omega arith) (omega arith) x
      go (past l (here i x)) = test 2 (omega arith) (omega arith) x
      go (past l (past i (here s x))) = test 3 (omega arith) (omega arith) x
      go (past l (past i (past s (here t x)))) = test 4 (omega arith) (omega arith) x
      go (past l (past i (past s (past t (here h x))))) = test 5 (omega arith) (omega arith) x
      go (past l (past i (past s (past t (past h f))))) = inr (record { enough = l; inside = i; source = s; target = t; fair = h }, run_of g q b e r f)

-- what the code gives, by its answer
told_one : (r s : Back (Found Route) Refusal) → HasIndex r → HasIndex s → answer_in r ≡ answer_in s → r ≡ s
told_one (Ok (Some x)) (Ok (Some y)) h k e = λ i. Ok (Some (record { cost = (e i).cost; length = (e i).length }))
told_one (Ok (Some x)) (Ok None) h k e = absurd (omega (arith, h, ap (λ (y : Answer). y.length) e))
told_one (Ok None) (Ok (Some y)) h k e = absurd (omega (arith, k, ap (λ (y : Answer). y.length) e))
told_one (Ok None) (Ok None) h k e = refl
told_one (Ok (Some x)) (Err y) h k e = absurd (refused_ne0 y (sym (ap (λ (y : Answer). y.number) e)))
told_one (Ok None) (Err y) h k e = absurd (refused_ne0 y (sym (ap (λ (y : Answer). y.number) e)))
told_one (Err x) (Ok (Some y)) h k e = absurd (refused_ne0 x (ap (λ (y : Answer). y.number) e))
told_one (Err x) (Ok None) h k e = absurd (refused_ne0 x (ap (λ (y : Answer). y.number) e))
told_one (Err x) (Err y) h k e = ap (λ z. Err z) (refusal_one x y (ap (λ (y : Answer). y.number) e))

module _ {g : Net ℤ} {q : Question} {b : Buffers} where
  -- ---- two answers that the promise allows are equal: after 0 one outcome, else the row names what is left
  pub promise_one : {e f : Buffers} {r s : Answer} → Promise g q b e r → Promise g q b f s → (r ≡ s) × (e ≡ f)
  promise_one {e} {f} {r} {s} p p' =
      let k = follows_one (table g q b) (result_of r e) (result_of s f) r.number s.number
      (is_one then is_one then is_one then is_one then is_one then is_one then (λ x y o u. outcome_one o u) then tt) p.follows p'.follows in
      (λ i. answer_of (k.0 i) (k.1 i).cost (k.1 i).length, λ i. (k.1 i).buffers)

  -- so is what the code gives: the answer tells it, for a path has an index
  pub route_one : {e f : Buffers} {r s : Back (Found Route) Refusal} → Promise g q b e (answer_in r) → Promise g q b f (answer_in s) → HasIndex r → HasIndex s → (r ≡ s) × (e ≡ f)
  route_one {e} {f} {r} {s} p p' h k = let w = promise_one p p' in (told_one r s h k w.0, w.1)

  module _ {e : Buffers} {r : Answer} (p : Promise g q b e r) where
    -- ---- each number exactly when its row is reached, and what is then left
    pub promise_exactly : (k : ℕ) → (r.number ≡ k) ↔ At k (table g q b)
    promise_exactly = exactly (table g q b) (result_of r e) r.number p.follows

    pub promise_given : (k : ℕ) → r.number ≡ k → Given k (table g q b) (result_of r e)
    promise_given = given (table g q b) (result_of r e) r.number p.follows

-- 5 in other words: an index that the map has with a heuristic outside -2^42 ..= 2^42
pub far_exactly : (g : Net ℤ) (h : List ℤ) → (fair_guess g h ≡ false) ↔ ((v : ℕ) × (v < g.bound) × (has g v ≡ true) × (is_fair (get_or h v (pos 0)) ≡ false))
far_exactly g h = (seek g.bound, λ w. sym (fair_stop (has g) h g.bound w.0 w.1 (sym (fair_present (has g) h w.0 w.2) ∙ w.3)))
  where
    found_at : (k : ℕ) → fair_at (has g) h k ≡ false → (has g k ≡ true) × (is_fair (get_or h k (pos 0)) ≡ false)
    found_at k e = go (has g k) refl
      where
        go : (b : Bool) → has g k ≡ b → (has g k ≡ true) × (is_fair (get_or h k (pos 0)) ≡ false)
        go false p = absurd (clash (sym (fair_absent (has g) h k p)) e)
        go true p = (p, fair_present (has g) h k p ∙ e)

    seek : (m : ℕ) → fair_below (has g) h m ≡ false → (v : ℕ) × (v < m) × (has g v ≡ true) × (is_fair (get_or h v (pos 0)) ≡ false)
    seek zero e = absurd (clash refl e)
    seek (suc m) e = go (fair_below (has g) h m) refl (seek m)
      where
        go : (b : Bool) → fair_below (has g) h m ≡ b → (fair_below (has g) h m ≡ false → (v : ℕ) × (v < m) × (has g v ≡ true) × (is_fair (get_or h v (pos 0)) ≡ false))
            → (v : ℕ) × (v < suc m) × (has g v ≡ true) × (is_fair (get_or h v (pos 0)) ≡ false)
        go false p r = let w = r p in (w.0, omega (arith, w.1), w.2, w.3)
        go true p r = let w = found_at m (sym (ap (λ (b : Bool). b && fair_at (has g) h m) p) ∙ e) in (m, omega arith, w.0, w.1)

-- ---- the promise goes by the arcs: maps that no question can tell apart get the same answers
module _ {g g' : Net ℤ} (same : SameNet g g') (q : Question) (b : Buffers) where
  -- refusal 1 for both or for none
  same_enough : enough g q b ≡ enough g' q b
  same_enough = λ i. same.whole i && long_enough (same.bound i) (same_size same i) q.guess b

  -- refusal 5 for both or for none
  same_fair : fair_guess g q.guess ≡ fair_guess g' q.guess
  same_fair = λ i. fair_below (fun_ext (λ v. same.has v) i) q.guess (same.bound i)

  -- the same is left
  same_result : (d : ℤ) (l : List ℕ) → with_path g b d l ≡ with_path g' b d l
  same_result d l = λ i. record {
    cost = d;
    length = length l;
    buffers = record { path = at_front l (filled (same.bound i) none_u32 b.path); scratch = wiped_all (same.bound i) (same_size same i) b.scratch };
  }

  -- an end of the one is an end of the other
  over : (u v : ℕ) (c : ℤ) → ArcOf g u v c → ArcOf g' u v c
  over u v c = (same.arcs u v c).0

  ends_over : {x : End ℤ} → EndsIn g q x → EndsIn g' q x
  ends_over r = literal_exactly.1 (ends_map (search_of q) (ArcOf g) (ArcOf g') over (λ u v c. (same.arcs u v c).1) (literal_exactly.0 r))

  ends_back : {x : End ℤ} → EndsIn g' q x → EndsIn g q x
  ends_back r = literal_exactly.1 (ends_map (search_of q) (ArcOf g') (ArcOf g) (λ u v c. (same.arcs u v c).1) over (literal_exactly.0 r))

  -- and says the same
  says_over : {x : End ℤ} {d : ℤ} {l : List ℕ} → Says (ArcOf g) q x d l → Says (ArcOf g') q x d l
  says_over (unreached n p i) = unreached n p i
  says_over (reached n c i) = reached n (chain_over over c) (i ∙ ap reverse (sym (passed_over over c)))

  -- so the outcome of the one is that of the other
  same_outcome : (y : Result) → Outcome g q b y → Outcome g' q b y
  same_outcome y o = record { end = o.end; ends = ends_over o.ends; cost = o.cost; path = o.path; says = says_over o.says; leaves = o.leaves ∙ same_result o.cost o.path }

  -- row by row
  same_table : Over (table g q b) (table g' q b)
  same_table =
      (refl, same_enough, λ y p. p)
      then (refl, same_inside same, λ y p. p)
      then (refl, same.has q.source, λ y p. p)
      then (refl, same.has q.target, λ y p. p)
      then (refl, same_fair, λ y p. p)
      then (refl, (λ x. (x.0, ends_over x.1, x.2), λ x. (x.0, ends_back x.1, x.2)), λ y p. p ∙ same_result none_i64 [])
      then (refl, (λ u. u, λ u. u), same_outcome)
      then tt

  -- the same answer and the same buffers
  pub promise_arcs : {e : Buffers} {r : Answer} → Promise g q b e r → Promise g' q b e r
  promise_arcs {e} {r} p = record { follows = follows_over (table g q b) (table g' q b) (result_of r e) r.number same_table p.follows }
