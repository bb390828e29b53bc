-- Which numbers an engine can give on a map that was read: never 1 or 2, since the map and the buffers are large enough and the links lie within the map; 5 never,
-- since a heuristic of 0 is fair. What is left are the numbers of specs/Numbers.antt.
-- Assumes nothing.
use mathlib.Core.Path.{◌≡◌, refl, sym, ap, ◌∙◌, subst}
use mathlib.Core.Bool.{Bool, true, false, not, ◌||◌}
use mathlib.Core.List.{List, [], ◌∷◌}
use mathlib.Core.Logic.{inl, inr}
use Prim.Native.Nat.{ℕ, zero, suc, ◌+◌, ◌*◌, ◌≤◌}
use native.Mathlib.Nat.{mul-le-mul_right}
use native.Mathlib.Omega.{arith}
use borrow.Author.Tests.{le-leb}
use lib.Dec.{leb}
use lib.IntN.{ℤ, pos}
use lib.ListN.{get_or-replicate}
use Rattle.whole.proofs.Cases.{by_test, both_of, not_t}
use Rattle.numbers.proofs.Numbers.{◌then◌, among}
use Rattle.walks.specs.Pigeon.{In, here, there}
use Rattle.table.specs.declared.FloatCost.{FloatCost}
use Rattle.table.proofs.Laws.{whole, whole_of_no, all_of_no}
use Rattle.net.specs.Net.{Net, whole_net, inside_net, most_arcs, most_arcs_of, width, has}
use Rattle.net.proofs.Nodes.{width_most}
use Rattle.rows.specs.Scratch.{has_lists}
use Rattle.search.specs.Lists.{has_memory}
use Rattle.mapfile.specs.declared.Engine.{Engine}
use Rattle.mapfile.specs.declared.Engine.TheVariants as asked
use Rattle.mapfile.specs.declared.Question.{Question}
use Rattle.mapfile.specs.declared.Stage.TheVariants.{Asked}
use Rattle.mapfile.specs.Engines.{has_engine}
use Rattle.mapfile.proofs.Loads.{loaded_bounded}
use Rattle.float.specs.Cutoff.{Cutoff}
use Rattle.dijkstra.specs.Promise as dijkstra
use Rattle.bellman_ford.specs.Promise as bellman
use Rattle.a_star.specs.Promise as star
use Rattle.floyd_warshall.specs.Promise as floyd
use Rattle.johnson.specs.Promise as johnson
use Rattle.matrix.specs.Matrix as matrix
use Rattle.hops.specs.Promise as hops
use Rattle.hops.proofs.Settles as hops_laws
use Rattle.dijkstra_path.specs.Promise as path
use Rattle.answers.specs.Answers.{zeros, zeros_i}
use Rattle.sheet.specs.Sheet as sheet
use Rattle.sheet.specs.Sheet.{read_file, int_map, float_map, Answer}
use Rattle.sheet.specs.Numbers.{Possible}
use Rattle.sheet.proofs.Ends.{Ended, broken, asks, file_ends}
use Rattle.sheet.proofs.Good.{file_good}
use Rattle.sheet.proofs.Settles.{asked_one}

-- a map that every engine takes with the fresh buffers
record Small {C : Type 0} (g : Net C) : Type 0 where
  pub whole : whole_net g ≡ true
  pub inside : inside_net g ≡ true
  pub few : g.bound ≤ 64
  pub arcs : most_arcs_of g ≤ 1024

-- at most twice as many arcs as links
arcs_few : (d : Bool) (n : ℕ) → n ≤ 512 → most_arcs d n ≤ 1024
unfolding most_arcs
arcs_few d n h = by_test (λ (a : ℕ). a ≤ 1024) d _ _ (λ _. omega arith) (λ _. omega arith)

module _ (file : List ℕ) {q : Question} (e : (read_file file).reading.stage ≡ Asked q) where
  -- it has at most 64 indices
  bounded : (read_file file).reading.bound ≤ 64
  bounded = loaded_bounded 16384 file (zeros 64) (zeros 512) (zeros 512) (zeros_i 512) (zeros 512) (zeros 512)

  -- the map that was read is one
  ints_small : (read_file file).reading.float ≡ false → Small (int_map (read_file file))
  ints_small f =
      let g = int_map (read_file file) in
      let k = (file_good file e).ints f in
      let w = whole_of_no g.bound g.count g.room g.marks g.table k.0 in
      record {
        whole = w;
        inside = all_of_no g.bound g.count g.room g.marks g.table k.0;
        few = bounded;
        arcs = arcs_few g.directed g.count (omega (arith, (whole g.bound g.count g.room g.marks w).few, k.1));
      }

  floats_small : (read_file file).reading.float ≡ true → Small (float_map (read_file file))
  floats_small f =
      let g = float_map (read_file file) in
      let k = (file_good file e).floats f in
      let w = whole_of_no g.bound g.count g.room g.marks g.table k.0 in
      record {
        whole = w;
        inside = all_of_no g.bound g.count g.room g.marks g.table k.0;
        few = bounded;
        arcs = arcs_few g.directed g.count (omega (arith, (whole g.bound g.count g.room g.marks w).few, k.1));
      }

-- the tests of lengths that the fresh buffers pass
module _ {C : Type 0} {g : Net C} (k : Small g) where
  slots : leb g.bound 64 ≡ true
  slots = le-leb g.bound 64 k.few

  offsets : leb (g.bound + 1) 65 ≡ true
  offsets = le-leb (g.bound + 1) 65 (omega (arith, k.few))

  arcs : leb (most_arcs_of g) 1024 ≡ true
  arcs = le-leb (most_arcs_of g) 1024 k.arcs

  nodes : leb (width g) 64 ≡ true
  nodes = le-leb (width g) 64 (omega (arith, k.few, width_most g))

  cells : leb (width g * width g) 4096 ≡ true
  cells = let w : width g ≤ 64 = omega (arith, k.few, width_most g) in le-leb (width g * width g) 4096 (omega (arith, mul-le-mul_right (width g) w))

-- ---- each engine, with buffers that suffice and links within the map
dijkstra_numbers : {g : Net ℤ} {s : ℕ} {b e : dijkstra.Buffers} {number : ℕ} → dijkstra.enough g b ≡ true → inside_net g ≡ true → dijkstra.Promise g s b e number → In number (0 ∷ 3 ∷ 6 ∷ [])
dijkstra_numbers {g} {s} {b} {e} {number} k l x =
    among (λ n. In n (0 ∷ 3 ∷ 6 ∷ [])) (dijkstra.table g s b) e number (inl k then inl l then inr (there (here refl)) then inr (there (there (here refl))) then inr (here refl) then tt) x.follows

bellman_numbers : {g : Net ℤ} {s : ℕ} {b e : bellman.Buffers} {number : ℕ} → bellman.enough g b ≡ true → inside_net g ≡ true → bellman.Promise g s b e number → In number (0 ∷ 7 ∷ [])
bellman_numbers {g} {s} {b} {e} {number} k l x =
    among (λ n. In n (0 ∷ 7 ∷ [])) (bellman.table g s b) e number (inl k then inl l then inr (here refl) then inr (there (here refl)) then inr (here refl) then tt) x.follows

pairs_numbers : {S : Type 0} {g : Net ℤ} {long : Bool} {clear : S} {b e : matrix.Buffers S} {number : ℕ} → long ≡ true → inside_net g ≡ true → matrix.AllPairs g long clear b e number
    → In number (0 ∷ 7 ∷ [])
pairs_numbers {S} {g} {long} {clear} {b} {e} {number} k l x =
    among (λ n. In n (0 ∷ 7 ∷ [])) (matrix.table g long clear b) e number (inl k then inl l then inr (there (here refl)) then inr (here refl) then tt) x.follows

hops_numbers : {C : Type 0} {g : Net C} {b e : hops.Buffers} {number p : ℕ} → hops.enough g b ≡ true → inside_net g ≡ true → hops.Promise g b e number p → number ≡ 0
hops_numbers k l a = (hops_laws.promise_exactly a 0).1 (k, (l, tt))

path_numbers : {g : Net FloatCost} {s : ℕ} {c : Cutoff} {b e : path.Buffers} {number : ℕ} → path.enough g b ≡ true → inside_net g ≡ true → path.Promise g s c b e number → In number (0 ∷ 3 ∷ 6 ∷ [])
path_numbers {g} {s} {c} {b} {e} {number} k l x =
    among (λ n. In n (0 ∷ 3 ∷ 6 ∷ [])) (path.table g s c b) e number (inl k then inl l then inr (there (here refl)) then inr (there (there (here refl))) then inr (here refl) then tt) x.follows

-- a heuristic of 0 is fair
fair_zeros : (f : ℕ → Bool) (n : ℕ) → n ≤ 64 → star.fair_below f (zeros_i 64) n ≡ true
unfolding star.fair_at star.is_fair
fair_zeros f zero h = refl
fair_zeros f (suc n) h =
    both_of (star.fair_below f (zeros_i 64) n) (star.fair_at f (zeros_i 64) n) (fair_zeros f n (omega arith))
    (by_either (f n) (ap star.is_fair (get_or-replicate 64 n (pos 0) (pos 0) (omega arith)) ∙ refl))
  where
    by_either : (b : Bool) {x : Bool} → x ≡ true → (not b || x) ≡ true
    by_either true e = e
    by_either false e = refl

star_numbers : {g : Net ℤ} {q : star.Question} {b e : star.Buffers} {r : star.Answer} → star.enough g q b ≡ true → inside_net g ≡ true → star.fair_guess g q.guess ≡ true → star.Promise g q b e r
    → In r.number (0 ∷ 3 ∷ 4 ∷ 6 ∷ [])
star_numbers {g} {q} {b} {e} {r} k l f x =
    among (λ n. In n (0 ∷ 3 ∷ 4 ∷ 6 ∷ [])) (star.table g q b) (star.result_of r e) r.number
    (inl k then inl l then inr (there (here refl)) then inr (there (there (here refl))) then inl f then inr (there (there (there (here refl)))) then inr (here refl) then tt) x.follows

module _ (file : List ℕ) {q : Question} (ask : (read_file file).reading.stage ≡ Asked q) where
  -- the map's kind has the engine
  may : has_engine q.engine (read_file file).reading.float ≡ true
  may = go (file_ends 16384 file (zeros 64) (zeros 512) (zeros 512) (zeros_i 512) (zeros 512) (zeros 512))
    where
      go : Ended (read_file file).reading → has_engine q.engine (read_file file).reading.float ≡ true
      go (broken b) = cc
      go (asks k a m) = let e : k ≡ q = asked_one (sym a ∙ ask) in subst (λ (x : Question). has_engine x.engine (read_file file).reading.float ≡ true) e m

  -- an engine that wants an integer map has one, and one that wants an f64 map
  of_ints : {g : Engine} → q.engine ≡ g → ((f : Bool) → has_engine g f ≡ not f) → Small (int_map (read_file file))
  of_ints h k = ints_small file ask (not_t _ (rw (h, k) at may))

  of_floats : q.engine ≡ asked.DijkstraPath → Small (float_map (read_file file))
  of_floats h = floats_small file ask (rw h at may)

  -- the numbers that are possible
  pub possible : {source target : ℕ} {text : List ℕ} (a : Answer (read_file file) q.engine source target text) → Possible a
  unfolding dijkstra.long_enough bellman.long_enough star.long_enough has_memory floyd.enough johnson.long_enough hops.long_enough path.long_enough has_lists
  possible (sheet.dijkstra e x) = let k = of_ints e (λ f. refl) in dijkstra_numbers (simp (k.whole, slots k, offsets k, arcs k)) k.inside x.promise
  possible (sheet.bellman_ford e x) = let k = of_ints e (λ f. refl) in bellman_numbers (simp (k.whole, slots k, offsets k, arcs k)) k.inside x.promise
  possible (sheet.a_star e x) =
      let k = of_ints e (λ f. refl) in
      star_numbers (simp (k.whole, slots k, offsets k, arcs k)) k.inside (fair_zeros (has (int_map (read_file file))) (read_file file).reading.bound k.few) x.promise
  possible (sheet.floyd_warshall e x) = let k = of_ints e (λ f. refl) in pairs_numbers (simp (k.whole, slots k, cells k)) k.inside x.promise
  possible (sheet.johnson e x) = let k = of_ints e (λ f. refl) in pairs_numbers (simp (k.whole, slots k, offsets k, arcs k, cells k)) k.inside x.promise
  possible (sheet.hops e f x) = let k = ints_small file ask f in hops_numbers (simp (k.whole, slots k, offsets k, arcs k, nodes k, cells k)) k.inside x.promise
  possible (sheet.hops64 e f x) = let k = floats_small file ask f in hops_numbers (simp (k.whole, slots k, offsets k, arcs k, nodes k, cells k)) k.inside x.promise
  possible (sheet.dijkstra_path e x) = let k = of_floats e in path_numbers (simp (k.whole, slots k, offsets k, arcs k)) k.inside x.promise
