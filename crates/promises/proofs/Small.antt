-- The small maps S1 to S9: what their few arcs allow, and so what the questions that 01 names for each map give.
-- 6 and 7 are shown by an arc or a closed walk below zero that is written down. Distances are shown by taking every walk apart: in S3 no arc is below zero, in S4 none
-- leaves index 2, in S6 a walk from 0 stays or goes to 1. S7 and S8 are the bag by computation (a_star, Small), S9 the puts by computation (table, Small).
-- Assumes nothing.
use mathlib.Core.Path.{◌≡◌, refl, sym, subst}
use mathlib.Core.Bool.{Bool, true, false}
use mathlib.Core.List.{List, [], ◌∷◌}
use mathlib.Core.Logic.{◌⊎◌, inl, inr}
use Prim.Native.Nat.{ℕ, zero, suc, ◌+◌, ◌*◌, ◌≤◌, ◌<◌}
use native.Mathlib.Omega.{arith}
use native.Mathlib.Nat.{not-suc-le-zero}
use borrow.Author.Tests.{le-leb}
use lib.IntN.{ℤ, pos, negsuc}
use lib.Signed.{◌≤ℤ◌, ◌<ℤ◌}
use lib.ListN.{length, get_or, replicate}
use Rattle.whole.specs.Zed.{zed}
use Rattle.whole.proofs.Cases.{both_of}
use Rattle.clean.specs.Fill.{filled}
use Rattle.clean.specs.None.{none_i64}
use Rattle.walks.specs.Walk.{Walk, stay, step, NoNeg, NegativeFrom, Negative, Entry}
use Rattle.walks.proofs.Walk.{arc, anywhere}
use Rattle.pending.specs.Reach.{BadInReach}
use Rattle.table.specs.Links.{link_of, present, present_both, lent_whole}
use Rattle.table.specs.Lent.{shorter, room_ints}
use Rattle.table.proofs.Joins.{joins_of}
use Rattle.table.proofs.Small as Table
use Rattle.net.specs.Net.{ArcOf, whole_net, most_arcs}
use Rattle.rows.specs.Scratch.{has_lists}
use Rattle.search.specs.Lists.{has_memory}
use Rattle.matrix.specs.Matrix.{Matrix}
use Rattle.dijkstra.proofs.Up.{total_up, no_negative}
use Rattle.bellman_ford.proofs.Settles.{undirected_negative}
use Rattle.dijkstra.specs.Promise as Dijkstra
use Rattle.bellman_ford.specs.Promise as BellmanFord
use Rattle.floyd_warshall.specs.Promise as FloydWarshall
use Rattle.johnson.specs.Promise as Johnson
use Rattle.a_star.specs.Promise as AStar
use Rattle.a_star.proofs.Small as AStarSmall
use Rattle.promises.specs.Small.{empty, loop, behind, pair, apart, starting, SmallMaps}
use Rattle.promises.proofs.SmallWalks.{ordered, stays, stays_or_goes}
use Rattle.promises.proofs.SmallGives.{starting_settled, dijkstra_six, dijkstra_zero, bellman_ford_seven, bellman_ford_zero, pairs_seven, pairs_zero, floyd_warshall_room, johnson_room}

-- ---- arcs that are not below zero
module _ {Arc : ℕ → ℕ → ℤ → Type 0} (up : (u v : ℕ) (c : ℤ) → Arc u v c → pos 0 ≤ℤ c) where
  -- none in reach is
  none_bad : {s : ℕ} → BadInReach Arc s → ⊥
  none_bad n =
      let p : pos 0 ≤ℤ n.c = up n.u n.v n.c n.arc_is in
      let q : n.c <ℤ pos 0 = n.below in
      omega (arith, zed)

  -- no closed walk is
  none_negative : Negative Arc → ⊥
  none_negative n =
      let p : pos 0 ≤ℤ n.t = total_up none_bad {a = pos 0} (stay refl) n.loop in
      let q : n.t <ℤ pos 0 = n.below in
      omega (arith, zed)

  -- an index is at 0 from itself
  own_entry : {s : ℕ} → Entry Arc s s (pos 0)
  own_entry = inl (record { walk = stay refl; least = λ t w. total_up none_bad {a = pos 0} (stay refl) w }, omega arith)

-- ---- S1
-- within the limits
empty_whole : (d : Bool) (marks xs ys : List ℕ) (cs : List ℤ) → whole_net (empty d marks xs ys cs) ≡ true
unfolding lent_whole
empty_whole d marks xs ys cs = both_of _ _ (le-leb 0 (length marks) (omega arith)) (le-leb 0 (room_ints xs ys cs) (omega arith))

-- so no entries are long enough
empty_long : (d : Bool) (marks xs ys : List ℕ) (cs : List ℤ) → FloydWarshall.enough (empty d marks xs ys cs) [] [] ≡ true
unfolding FloydWarshall.enough
empty_long d marks xs ys cs = both_of _ _ (empty_whole d marks xs ys cs) refl

-- no arcs
empty_up : (d : Bool) (marks xs ys : List ℕ) (cs : List ℤ) (u v : ℕ) (c : ℤ) → ArcOf (empty d marks xs ys cs) u v c → pos 0 ≤ℤ c
empty_up d marks xs ys cs u v c a = absurd a

-- no entries
empty_matrix : (d : Bool) (marks xs ys : List ℕ) (cs before : List ℤ) → Matrix (empty d marks xs ys cs) before (starting [] before)
empty_matrix d marks xs ys cs before = record { long = refl; each = λ i j h k. absurd (not-suc-le-zero h); rest = refl }

-- ---- S2 and S3
-- the loop
loop_arc : (c : ℤ) → ArcOf (loop c) 0 0 c
loop_arc c = inl (joins_of true 0 0 (link_of 0 0 c) (inl (refl, refl)), refl)

-- below zero, it is a closed walk below zero
loop_negative : NegativeFrom (ArcOf (loop (negsuc 0))) 0
loop_negative = record { x = 0; a = pos 0; t = negsuc 0; reach = stay refl; loop = arc (loop_arc (negsuc 0)); below = omega (arith, zed) }

-- and an arc below zero in reach
loop_bad : BadInReach (ArcOf (loop (negsuc 0))) 0
loop_bad = record { u = 0; t = pos 0; v = 0; c = negsuc 0; reach = stay refl; arc_is = loop_arc (negsuc 0); below = omega (arith, zed) }

-- of cost 3, no arc is below zero
loop_up : (u v : ℕ) (c : ℤ) → ArcOf (loop (pos 3)) u v c → pos 0 ≤ℤ c
loop_up u v c (inl p) = let q : pos 3 ≡ c = p.1 in omega (arith, zed)
loop_up u v c (inr x) = absurd x

-- the one distance
loop_entry : (v : ℕ) → v < 1 → Entry (ArcOf (loop (pos 3))) 0 v (get_or (pos 0 ∷ []) v (pos 0))
loop_entry zero h = own_entry loop_up
loop_entry (suc v) h = absurd (omega arith)

-- the one entry
loop_matrix : (before : List ℤ) → 1 ≤ length before → Matrix (loop (pos 3)) before (starting (pos 0 ∷ []) before)
unfolding present
loop_matrix before h =
    let s = starting_settled {E = λ i x. Entry (ArcOf (loop (pos 3))) 0 i x} 1 (pos 0 ∷ []) before refl h loop_entry in
    record { long = s.long; each = each; rest = s.rest }
  where
    each : (i j : ℕ) → i < 1 → j < 1 → Entry (ArcOf (loop (pos 3))) (get_or (0 ∷ []) i 0) (get_or (0 ∷ []) j 0) (get_or (starting (pos 0 ∷ []) before) (i * 1 + j) (pos 0))
    each zero zero p q = own_entry loop_up
    each zero (suc j) p q = absurd (omega arith)
    each (suc i) j p q = absurd (omega arith)

-- ---- S4
-- from 0 the arc below zero is one step away
behind_bad : BadInReach (ArcOf behind) 0
behind_bad = record {
  u = 1;
  t = pos 5;
  v = 2;
  c = negsuc 1;
  reach = arc (inl (joins_of true 0 1 (link_of 0 1 (pos 5)) (inl (refl, refl)), refl));
  arc_is = inr (inl (joins_of true 1 2 (link_of 1 2 (negsuc 1)) (inl (refl, refl)), refl));
  below = omega (arith, zed);
}

-- no arc leaves 2
behind_end : (v : ℕ) (c : ℤ) → ArcOf behind 2 v c → ⊥
behind_end v c (inl p) = let q : ◌≡◌ {A = ℕ} 0 2 = (ordered 2 v (link_of 0 1 (pos 5)) p.0).0 in omega (arith, q)
behind_end v c (inr (inl p)) = let q : ◌≡◌ {A = ℕ} 1 2 = (ordered 2 v (link_of 1 2 (negsuc 1)) p.0).0 in omega (arith, q)
behind_end v c (inr (inr (inl p))) = let q : ◌≡◌ {A = ℕ} 0 2 = (ordered 2 v (link_of 0 2 (pos 4)) p.0).0 in omega (arith, q)
behind_end v c (inr (inr (inr x))) = absurd x

-- so from 2 there is none below zero
behind_good : BadInReach (ArcOf behind) 2 → ⊥
behind_good n = behind_end n.v n.c (subst (λ (x : ℕ). ArcOf behind x n.v n.c) (stays behind_end n.reach).0 n.arc_is)

-- and no walk but the one that stays
behind_entry : (v : ℕ) → v < 3 → Entry (ArcOf behind) 2 v (get_or (none_i64 ∷ none_i64 ∷ pos 0 ∷ []) v (pos 0))
behind_entry zero h = inr (refl, λ t w. let q : ◌≡◌ {A = ℕ} 0 2 = (stays behind_end w).0 in omega (arith, q))
behind_entry (suc zero) h = inr (refl, λ t w. let q : ◌≡◌ {A = ℕ} 1 2 = (stays behind_end w).0 in omega (arith, q))
behind_entry (suc (suc zero)) h = inl (record { walk = stay refl; least = λ t w. let q : t ≡ pos 0 = (stays behind_end w).1 in omega (arith, zed) }, omega arith)
behind_entry (suc (suc (suc v))) h = absurd (omega arith)

-- ---- S5
-- there and back
pair_negative : NegativeFrom (ArcOf pair) 0
pair_negative = undirected_negative pair 0 0 1 (pos 0) (negsuc 0) refl (stay refl) (inl (joins_of false 0 1 (link_of 0 1 (negsuc 0)) (inl (refl, refl)), refl)) (omega (arith, zed))

-- ---- S6
-- from 0 one arc leads to 1
apart_start : (v : ℕ) (c : ℤ) → ArcOf apart 0 v c → (v ≡ 1) × (c ≡ pos 2)
apart_start v c (inl p) = (sym (ordered 0 v (link_of 0 1 (pos 2)) p.0).1, sym p.1)
apart_start v c (inr (inl p)) = absurd (let q : ◌≡◌ {A = ℕ} 2 0 = (ordered 0 v (link_of 2 3 (negsuc 0)) p.0).0 in omega (arith, q))
apart_start v c (inr (inr (inl p))) = absurd (let q : ◌≡◌ {A = ℕ} 3 0 = (ordered 0 v (link_of 3 2 (pos 0)) p.0).0 in omega (arith, q))
apart_start v c (inr (inr (inr x))) = absurd x

-- none leaves 1
apart_end : (v : ℕ) (c : ℤ) → ArcOf apart 1 v c → ⊥
apart_end v c (inl p) = let q : ◌≡◌ {A = ℕ} 0 1 = (ordered 1 v (link_of 0 1 (pos 2)) p.0).0 in omega (arith, q)
apart_end v c (inr (inl p)) = let q : ◌≡◌ {A = ℕ} 2 1 = (ordered 1 v (link_of 2 3 (negsuc 0)) p.0).0 in omega (arith, q)
apart_end v c (inr (inr (inl p))) = let q : ◌≡◌ {A = ℕ} 3 1 = (ordered 1 v (link_of 3 2 (pos 0)) p.0).0 in omega (arith, q)
apart_end v c (inr (inr (inr x))) = absurd x

-- what a walk from 0 comes to
abbrev Comes : ℕ → ℤ → Type 0
Comes v t = ((v ≡ 0) × (t ≡ pos 0)) ⊎ ((v ≡ 1) × (t ≡ pos 2))

-- and every walk does
comes : (v : ℕ) (t : ℤ) → Walk (ArcOf apart) 0 v t → Comes v t
comes v t w = stays_or_goes 1 (pos 2) apart_start apart_end w

-- no closed walk below zero is in reach of 0
apart_none : NoNeg (ArcOf apart) 0
apart_none x a t r w = go (comes x a r)
  where
    back : Comes 0 t → pos 0 ≤ℤ t
    back (inl p) = let q : t ≡ pos 0 = p.1 in omega (arith, zed)
    back (inr p) = absurd (let q : ◌≡◌ {A = ℕ} 0 1 = p.0 in omega (arith, q))

    go : Comes x a → pos 0 ≤ℤ t
    go (inl p) = back (comes 0 t (subst (λ (y : ℕ). Walk (ArcOf apart) y y t) p.0 w))
    go (inr p) = let q : t ≡ pos 0 = (stays apart_end (subst (λ (y : ℕ). Walk (ArcOf apart) y y t) p.0 w)).1 in omega (arith, zed)

-- an index other than 0 and 1 is out of reach
apart_far : (v : ℕ) → 2 ≤ v → (t : ℤ) → Walk (ArcOf apart) 0 v t → ⊥
apart_far v h t w = go (comes v t w)
  where
    go : Comes v t → ⊥
    go (inl p) = omega (arith, h, p.0)
    go (inr p) = omega (arith, h, p.0)

-- the distances from 0
apart_entry : (v : ℕ) → v < 4 → Entry (ArcOf apart) 0 v (get_or (pos 0 ∷ pos 2 ∷ none_i64 ∷ none_i64 ∷ []) v (pos 0))
apart_entry zero h = inl (record { walk = stay refl; least = λ t w. go t (comes 0 t w) }, omega arith)
  where
    go : (t : ℤ) → Comes 0 t → pos 0 ≤ℤ t
    go t (inl p) = let q : t ≡ pos 0 = p.1 in omega (arith, zed)
    go t (inr p) = let q : t ≡ pos 2 = p.1 in omega (arith, zed)
apart_entry (suc zero) h = inl (record { walk = arc (inl (joins_of true 0 1 (link_of 0 1 (pos 2)) (inl (refl, refl)), refl)); least = λ t w. go t (comes 1 t w) }, omega arith)
  where
    go : (t : ℤ) → Comes 1 t → pos 2 ≤ℤ t
    go t (inl p) = absurd (let q : ◌≡◌ {A = ℕ} 1 0 = p.0 in omega (arith, q))
    go t (inr p) = let q : t ≡ pos 2 = p.1 in omega (arith, zed)
apart_entry (suc (suc zero)) h = inr (refl, apart_far 2 (omega arith))
apart_entry (suc (suc (suc zero))) h = inr (refl, apart_far 3 (omega arith))
apart_entry (suc (suc (suc (suc v)))) h = absurd (omega arith)

-- 2 and 3 make a closed walk below zero
apart_negative : Negative (ArcOf apart)
apart_negative = record {
  x = 2;
  t = negsuc 0;
  loop =
      step {c = negsuc 0} {t = pos 0} (inr (inl (joins_of true 2 3 (link_of 2 3 (negsuc 0)) (inl (refl, refl)), refl)))
      (arc (inr (inr (inl (joins_of true 3 2 (link_of 3 2 (pos 0)) (inl (refl, refl)), refl))))) refl;
  below = omega (arith, zed);
}

-- ---- buffers that are long enough for each of the maps: sixteen entries in each slice
-- entries
abbrev few : List ℕ
few = replicate 16 0

-- costs
abbrev few_i : List ℤ
few_i = replicate 16 (pos 0)

-- of each question
abbrev dijkstra_few : Dijkstra.Buffers
dijkstra_few = Dijkstra.buffers_of few_i few few few_i few few few few_i

abbrev bellman_ford_few : BellmanFord.Buffers
bellman_ford_few = BellmanFord.buffers_of few_i few few few_i few few few

abbrev johnson_few : Johnson.Scratch
johnson_few = Johnson.scratch_of few few few_i few_i few_i few few few few_i

abbrev a_star_few : AStar.Buffers
a_star_few = AStar.buffers_of few few few few_i few_i few few few few_i

-- ---- the statement
pub small_maps : SmallMaps
unfolding filled present present_both lent_whole shorter room_ints most_arcs has_lists has_memory Dijkstra.long_enough BellmanFord.long_enough
    FloydWarshall.enough Johnson.long_enough AStar.long_enough
small_maps = record {
  s1 = λ d marks xs ys cs. ((([], []), empty_long d marks xs ys cs), λ b e number long p. pairs_zero refl [] (none_negative (empty_up d marks xs ys cs)) (empty_matrix d marks xs ys cs b.0) p long);
  s2_dijkstra = ((dijkstra_few, refl), dijkstra_six (loop (negsuc 0)) 0 refl refl loop_bad);
  s2_bellman_ford = ((bellman_ford_few, refl), bellman_ford_seven (loop (negsuc 0)) 0 refl refl loop_negative);
  s2_floyd_warshall = (((few_i, few), refl), λ b e number long p. pairs_seven refl (anywhere loop_negative) p long);
  s2_johnson = (((few_i, johnson_few), refl), λ b e number long p. pairs_seven refl (anywhere loop_negative) p long);
  s3_dijkstra = ((dijkstra_few, refl), dijkstra_zero (loop (pos 3)) 0 refl refl (pos 0 ∷ []) refl (none_bad loop_up) loop_entry);
  s3_bellman_ford = ((bellman_ford_few, refl), bellman_ford_zero (loop (pos 3)) 0 refl refl (pos 0 ∷ []) refl (no_negative (none_bad loop_up)) loop_entry);
  s3_floyd_warshall =
      (((few_i, few), refl), λ b e number long p. pairs_zero refl (pos 0 ∷ []) (none_negative loop_up) (loop_matrix b.0 (floyd_warshall_room (loop (pos 3)) b.0 b.1 long)) p long);
  s3_johnson = (((few_i, johnson_few), refl), λ b e number long p. pairs_zero refl (pos 0 ∷ []) (none_negative loop_up) (loop_matrix b.0 (johnson_room (loop (pos 3)) b.0 b.1 long)) p long);
  s4_from_0 = ((dijkstra_few, refl), dijkstra_six behind 0 refl refl behind_bad);
  s4_from_2 = ((dijkstra_few, refl), dijkstra_zero behind 2 refl refl (none_i64 ∷ none_i64 ∷ pos 0 ∷ []) refl behind_good behind_entry);
  s5 = ((bellman_ford_few, refl), bellman_ford_seven pair 0 refl refl pair_negative);
  s6_bellman_ford = ((bellman_ford_few, refl), bellman_ford_zero apart 0 refl refl (pos 0 ∷ pos 2 ∷ none_i64 ∷ none_i64 ∷ []) refl apart_none apart_entry);
  s6_johnson = (((few_i, johnson_few), refl), λ b e number long p. pairs_seven refl apart_negative p long);
  s7 = ((a_star_few, refl), λ b e r long p. AStarSmall.s7 p long);
  s8 = ((a_star_few, refl), λ b e r long p. AStarSmall.s8 p long);
  s9 = Table.s9;
}
