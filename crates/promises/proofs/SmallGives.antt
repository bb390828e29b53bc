-- From what the arcs of a map allow to what an engine gives on it: the outcome is shown to be allowed, and the promise allows one.
-- Assumes nothing.
use mathlib.Core.Path.{◌≡◌, refl, ap, ◌∙◌, sym, subst}
use mathlib.Core.Bool.{Bool, true}
use mathlib.Core.List.{List}
use Prim.Native.Nat.{ℕ, ◌*◌, ◌≤◌, ◌<◌}
use native.Mathlib.Omega.{arith}
use lib.IntN.{ℤ, pos}
use lib.ListN.{length, get_or, drop, length-append, length-drop, get_or-append}
use lib.Seq.{drop_at}
use lib.Dec.{leb}
use borrow.Author.Tests.{leb-true}
use Rattle.whole.proofs.Cases.{and_left, and_right}
use Rattle.numbers.specs.Numbers.{here, past}
use Rattle.clean.specs.Fill.{filled, Settled}
use Rattle.clean.specs.None.{none_i64}
use Rattle.clean.proofs.Filled.{settle}
use Rattle.numbers.specs.Numbers.{here, past}
use Rattle.walks.specs.Walk.{NoNeg, NegativeFrom, Negative, Entry}
use Rattle.walks.proofs.Walk.{not_both}
use Rattle.pending.specs.Reach.{BadInReach}
use Rattle.net.specs.Net.{Net, ArcOf, whole_net, inside_net, has, width}
use Rattle.matrix.specs.Matrix as Pairs
use Rattle.matrix.proofs.Settles as PairsLaws
use Rattle.dijkstra.specs.Promise as Dijkstra
use Rattle.dijkstra.proofs.Refusals as DijkstraPassed
use Rattle.dijkstra.proofs.Settles as DijkstraLaws
use Rattle.bellman_ford.specs.Promise as BellmanFord
use Rattle.bellman_ford.proofs.Refusals as BellmanFordPassed
use Rattle.bellman_ford.proofs.Settles as BellmanFordLaws
use Rattle.floyd_warshall.specs.Promise as FloydWarshall
use Rattle.johnson.specs.Promise as Johnson
use Rattle.promises.specs.Small.{starting}

-- values at the first places, each as it is told
pub starting_settled : {E : ℕ → ℤ → Type 0} (n : ℕ) (xs l : List ℤ) → length xs ≡ n → n ≤ length l → ((i : ℕ) → i < n → E i (get_or xs i (pos 0))) → Settled n E l (starting xs l)
starting_settled {E} n xs l q h f =
    settle (pos 0) h
    (omega (arith, length-append xs (drop (length xs) l), length-drop (length xs) l))
    (λ i k. subst (E i) (sym (get_or-append xs (drop (length xs) l) (pos 0) i (omega (arith, q)))) (f i k))
    (drop_at xs (drop (length xs) l) n q ∙ ap (λ (k : ℕ). drop k l) q)

-- ---- dijkstra
module _ (g : Net ℤ) (s : ℕ) (inside : inside_net g ≡ true) (source : has g s ≡ true) where
  -- 6: every distance none
  pub dijkstra_six : BadInReach (ArcOf g) s → (b e : Dijkstra.Buffers) (number : ℕ) → Dijkstra.enough g b ≡ true → Dijkstra.Promise g s b e number
      → (number ≡ 6) × (e.dist ≡ filled g.bound none_i64 b.dist)
  dijkstra_six w b e k long p =
      let r = DijkstraLaws.promise_one p (record { follows = past long (past inside (past source (here w (refl, refl)))) }) in
      (r.0, ap (λ (x : Dijkstra.Buffers). x.dist) r.1)

  -- 0: the entries
  pub dijkstra_zero : (xs : List ℤ) → length xs ≡ g.bound → (BadInReach (ArcOf g) s → ⊥) → ((v : ℕ) → v < g.bound → Entry (ArcOf g) s v (get_or xs v (pos 0)))
      → (b e : Dijkstra.Buffers) (number : ℕ) → Dijkstra.enough g b ≡ true → Dijkstra.Promise g s b e number → (number ≡ 0) × (e.dist ≡ starting xs b.dist)
  dijkstra_zero xs q w f b e k long p =
      let room = (DijkstraPassed.enough_passed g s b long inside source).memory.dist in
      let left : Dijkstra.Buffers = record { dist = starting xs b.dist; scratch = Dijkstra.clear g b } in
      let found = starting_settled g.bound xs b.dist q room f in
      let made : Dijkstra.Promise g s b left 0 = record { follows = past long (past inside (past source (past w (here tt (refl, (found, refl)))))) } in
      let r = DijkstraLaws.promise_one p made in
      (r.0, ap (λ (x : Dijkstra.Buffers). x.dist) r.1)

  -- ---- bellman_ford
  -- 7: every distance none
  pub bellman_ford_seven : NegativeFrom (ArcOf g) s
      → (b e : BellmanFord.Buffers) (number : ℕ) → BellmanFord.enough g b ≡ true → BellmanFord.Promise g s b e number → (number ≡ 7) × (e.dist ≡ filled g.bound none_i64 b.dist)
  bellman_ford_seven w b e k long p =
      let r = BellmanFordLaws.promise_one p (record { follows = past long (past inside (past source (here w (refl, refl)))) }) in
      (r.0, ap (λ (x : BellmanFord.Buffers). x.dist) r.1)

  -- 0: the entries
  pub bellman_ford_zero : (xs : List ℤ) → length xs ≡ g.bound → NoNeg (ArcOf g) s → ((v : ℕ) → v < g.bound → Entry (ArcOf g) s v (get_or xs v (pos 0)))
      → (b e : BellmanFord.Buffers) (number : ℕ) → BellmanFord.enough g b ≡ true → BellmanFord.Promise g s b e number → (number ≡ 0) × (e.dist ≡ starting xs b.dist)
  bellman_ford_zero xs q w f b e k long p =
      let room = (BellmanFordPassed.enough_passed g b long inside).dist in
      let left : BellmanFord.Buffers = record { dist = starting xs b.dist; scratch = BellmanFord.clear g b } in
      let found = starting_settled g.bound xs b.dist q room f in
      let made : BellmanFord.Promise g s b left 0 = record { follows = past long (past inside (past source (past (λ x. not_both x w) (here tt (refl, (found, refl)))))) } in
      let r = BellmanFordLaws.promise_one p made in
      (r.0, ap (λ (x : BellmanFord.Buffers). x.dist) r.1)

-- ---- all pairs
module _ {S : Type 0} {g : Net ℤ} {long : Bool} {clear : S} {b e : Pairs.Buffers S} {number : ℕ} (inside : inside_net g ≡ true) where
  -- 7: every entry none
  pub pairs_seven : Negative (ArcOf g) → Pairs.AllPairs g long clear b e number → long ≡ true → (number ≡ 7) × (e.matrix ≡ filled (Pairs.square g) none_i64 b.matrix)
  pairs_seven w p l = let r = PairsLaws.promise_one p (record { follows = past l (past inside (here w (refl, refl))) }) in (r.0, ap (λ (x : Pairs.Buffers S). x.matrix) r.1)

  -- 0: the matrix
  pub pairs_zero : (xs : List ℤ) → (Negative (ArcOf g) → ⊥) → Pairs.Matrix g b.matrix (starting xs b.matrix) → Pairs.AllPairs g long clear b e number → long ≡ true
      → (number ≡ 0) × (e.matrix ≡ starting xs b.matrix)
  pairs_zero xs w m p l =
      let made : Pairs.AllPairs g long clear b (Pairs.buffers_of (starting xs b.matrix) clear) 0 = record { follows = past l (past inside (past w (here tt (refl, (m, refl))))) } in
      let r = PairsLaws.promise_one p made in
      (r.0, ap (λ (x : Pairs.Buffers S). x.matrix) r.1)

-- a matrix that is long enough for floyd_warshall has room for the square
pub floyd_warshall_room : (g : Net ℤ) (matrix : List ℤ) (ranks : List ℕ) → FloydWarshall.enough g matrix ranks ≡ true → Pairs.square g ≤ length matrix
unfolding FloydWarshall.enough
floyd_warshall_room g matrix ranks e = leb-true _ _ (and_right (leb g.bound (length ranks)) _ (and_right (whole_net g) _ e))

-- and for johnson
pub johnson_room : (g : Net ℤ) (matrix : List ℤ) (s : Johnson.Scratch) → Johnson.enough g matrix s ≡ true → Pairs.square g ≤ length matrix
unfolding Johnson.long_enough
johnson_room g matrix s e = leb-true _ _ (and_left (leb (width g * width g) (length matrix)) _ (and_right (whole_net g) _ e))
