-- The heuristic is read at the indices that the map has alone: two heuristics that agree there get the same answers. Every index with a distance is one that the map
-- has, so the keys that are compared are the same.
-- Assumes nothing.
use mathlib.Core.Path.{◌≡◌, refl, sym, ap, ◌∙◌, subst}
use mathlib.Core.Bool.{Bool, true, false, ◌&&◌}
use mathlib.Core.List.{List}
use mathlib.Core.Option.{Option}
use Prim.Native.Nat.{ℕ, zero, suc}
use lib.Dec.{leb}
use lib.IntN.{ℤ, pos}
use lib.Signed.{lt_z}
use lib.ListN.{length, get_or}
use Rattle.whole.specs.Zed.{◌⊕◌}
use Rattle.numbers.specs.Numbers.{here, past, Follows}
use Rattle.bag.specs.Order.{before}
use Rattle.pending.specs.Setting.{End}
use Rattle.pending.specs.OnePlace.{Cell, begin, Takes, NewCell, stays, stores, Next, Ends, empty, found, wrong, more}
use Rattle.pending.proofs.Once.{Within, begin_within, next_within}
use Rattle.net.specs.Net.{Net, ArcOf, whole_net, has, nodes_of, inside_net, most_arcs_of}
use Rattle.net.proofs.Nodes.{present_in, in_present}
use Rattle.net.proofs.Same.{arc_has}
use Rattle.rows.specs.Scratch.{has_lists}
use Rattle.search.specs.Lists.{has_memory}
use Rattle.a_star.specs.Promise.{Question, question_of, Answer, Buffers, long_enough, enough, is_fair, fair_at, fair_below, Fine, search_of, Says, unreached, reached, result_of, table, Promise}
use Rattle.a_star.proofs.Refusals.{fair_absent, fair_present}
use Rattle.a_star.proofs.Settles.{ran, outcome_of}
use Rattle.a_star.proofs.Literal.{literal_exactly}

-- what a turn stores does not look at the keys
new_same : (q q' : Question) {A : ℤ → Type 0} {u : ℕ} {d : ℤ} {old new : Cell ℤ} → NewCell (search_of q) A u d old new → NewCell (search_of q') A u d old new
new_same q q' (stays f e) = stays f e
new_same q q' (stores c a k b m e) = stores c a k b m e

module _ (g : Net ℤ) (q : Question) (h : List ℤ) (same : (v : ℕ) → has g v ≡ true → get_or q.guess v (pos 0) ≡ get_or h v (pos 0)) where
  -- the question with the other heuristic
  abbrev q' : Question
  q' = question_of q.source q.target h

  -- refusal 5 for both or for none
  at_same : (k : ℕ) → fair_at (has g) q.guess k ≡ fair_at (has g) h k
  at_same k = go (has g k) refl
    where
      go : (b : Bool) → has g k ≡ b → fair_at (has g) q.guess k ≡ fair_at (has g) h k
      go true e = sym (fair_present (has g) q.guess k e) ∙ (ap is_fair (same k e) ∙ fair_present (has g) h k e)
      go false e = sym (fair_absent (has g) q.guess k e) ∙ fair_absent (has g) h k e

  -- so below every m
  fair_same : (m : ℕ) → fair_below (has g) q.guess m ≡ fair_below (has g) h m
  fair_same zero = refl
  fair_same (suc m) = λ i. fair_same m i && at_same m i

  -- the same pair is taken
  takes_same : {s : ℕ → Cell ℤ} {u : ℕ} {d : ℤ} {p : Option ℕ} → Within (nodes_of g) s → Takes (search_of q) s u d p → Takes (search_of q') s u d p
  takes_same {s} {u} {d} {p} f t = record {
    held = t.held;
    least = λ v e o i.
        let a = same v (in_present g v (f v e o true i)) in
        let b = same u (in_present g u (f u d p true t.held)) in
        (λ j. before lt_z (e ⊕ sym a j) v (d ⊕ sym b j) u) ∙ t.least v e o i;
  }

  -- a turn is the same
  next_same : {s t : ℕ → Cell ℤ} → Within (nodes_of g) s → Next (search_of q) (ArcOf g) s t → Next (search_of q') (ArcOf g) s t
  next_same f w = record { u = w.u; d = w.d; p = w.p; taken = takes_same f w.taken; passed = w.passed; good = w.good; turned = λ v. new_same q q' (w.turned v) }

  module _ (source_in : has g q.source ≡ true) (inside : inside_net g ≡ true) where
    -- each arc leads to an index that the map has
    heads_in : (u v : ℕ) (c : ℤ) → ArcOf g u v c → has g v ≡ true
    heads_in u v c a = (arc_has g inside u v c a).1

    -- so the search has the same end
    ends_same : {s : ℕ → Cell ℤ} {n : ℕ} {x : End ℤ} → Within (nodes_of g) s → Ends (search_of q) (ArcOf g) s n x → Ends (search_of q') (ArcOf g) s n x
    ends_same f (empty e) = empty e
    ends_same f (found u d p t i) = found u d p (takes_same f t) i
    ends_same f (wrong u d p t i v c a b) = wrong u d p (takes_same f t) i v c a b
    ends_same f (more w r) = more (next_same f w) (ends_same (next_within (search_of q) (ArcOf g) (nodes_of g) (present_in g q.source source_in) (λ u v c a. present_in g v (heads_in u v c a)) f w) r)

    -- the start does not look at the keys
    begin_same : begin (search_of q) ≡ begin (search_of q')
    unfolding begin
    begin_same = refl

    -- from the start
    end_same : {x : End ℤ} → Ends (search_of q) (ArcOf g) (begin (search_of q)) 0 x → Ends (search_of q') (ArcOf g) (begin (search_of q')) 0 x
    end_same {x} r =
        subst (λ (s : ℕ → Cell ℤ). Ends (search_of q') (ArcOf g) s 0 x) begin_same
        (ends_same (begin_within (search_of q) (ArcOf g) (nodes_of g) (present_in g q.source source_in) (λ u v c a. present_in g v (heads_in u v c a))) r)

  -- an end says the same
  says_same : {x : End ℤ} {d : ℤ} {l : List ℕ} → Says (ArcOf g) q x d l → Says (ArcOf g) q' x d l
  says_same (unreached n p i) = unreached n p i
  says_same (reached n c i) = reached n c i

  module _ (b : Buffers) (long : leb g.bound (length q.guess) ≡ leb g.bound (length h)) where
    -- refusal 1 for both or for none
    long_same : long_enough g.bound (most_arcs_of g) q.guess b ≡ long_enough g.bound (most_arcs_of g) h b
    unfolding long_enough
    long_same = ap (λ (x : Bool). x && (leb g.bound (length b.path) && (has_lists g.bound (most_arcs_of g) b.scratch.rows && has_memory g.bound b.scratch.memory))) long

    -- with the map
    enough_same : enough g q b ≡ enough g q' b
    enough_same = ap (λ (x : Bool). whole_net g && x) long_same

    -- both long enough or neither, and alike at each index that the map has: the same answers
    pub promise_guess : {e : Buffers} {r : Answer} → Promise g q b e r → Promise g q' b e r
    promise_guess {e} {r} promise = record { follows = go promise.follows }
      where
        -- behind the tests the same outcome
        outcome : Fine g q b → Follows (table g q' b) (result_of r e) r.number
        outcome w =
            let (o, is) = outcome_of promise w in
            let x = literal_exactly.1 (end_same w.source w.inside (literal_exactly.0 o.ends)) in
            (ran (record { enough = sym enough_same ∙ w.enough; inside = w.inside; source = w.source; target = w.target; fair = sym (fair_same g.bound) ∙ w.fair })
            (record { end = o.end; ends = x; cost = o.cost; path = o.path; says = says_same o.says; leaves = o.leaves }, is)).follows

        go : Follows (table g q b) (result_of r e) r.number → Follows (table g q' b) (result_of r e) r.number
        go (here l x) = here (sym enough_same ∙ l) x
        go (past l (here i x)) = past (sym enough_same ∙ l) (here i x)
        go (past l (past i (here s x))) = past (sym enough_same ∙ l) (past i (here s x))
        go (past l (past i (past s (here t x)))) = past (sym enough_same ∙ l) (past i (past s (here t x)))
        go (past l (past i (past s (past t (here h x))))) = past (sym enough_same ∙ l) (past i (past s (past t (here (sym (fair_same g.bound) ∙ h) x))))
        go (past l (past i (past s (past t (past h f))))) = outcome (record { enough = l; inside = i; source = s; target = t; fair = h })
