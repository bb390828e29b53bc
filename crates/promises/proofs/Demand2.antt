-- Demand 2 in terms of walks: what the distances of `dijkstra`, `bellman_ford`, `floyd_warshall`, `johnson` and `hops` are, and when they are refused.
-- `QUESTION-distances`: after 0 each entry used is a distance (`Distance` in specs/): a number given is the total of a walk, no walk has a lower total, and it is
-- none exactly without a walk. `dijkstra_six`: 6 exactly when an arc below zero leaves an index in reach of the source. `QUESTION-seven`: 7 exactly when a closed
-- walk totals below zero: for `bellman_ford` one in reach of its source, for the matrices one anywhere, so (`QUESTION-undirected`) for every undirected map with a
-- cost below zero. `QUESTION-diagonal`: after 0 the diagonal of a matrix is 0. `bellman_ford_nowhere`: from a source that the map has not, 0 with every distance none.
-- The argument: by the promise an entry is a least total within -2^41 ..= 2^41, so that it is not none, or none without a walk.
-- What `a_star` and the f64 search answer is what the pending bag yields (Bag); what a path of `a_star` is beside that, and when it is cheapest, is cited here from
-- a_star (Gives), and when the page check says yes, from page (Settles).
-- Assumes nothing.
use mathlib.Core.Path.{◌≡◌, ap, ◌∙◌}
use mathlib.Core.Bool.{Bool, true, false}
use mathlib.Core.Logic.{inl, inr, ◌↔◌}
use mathlib.Core.List.{List}
use Prim.Native.Nat.{ℕ, ◌+◌, ◌*◌, ◌<◌}
use native.Mathlib.Omega.{arith}
use lib.IntN.{ℤ, pos}
use lib.Signed.{◌<ℤ◌}
use lib.ListN.{get_or}
use Rattle.whole.specs.Zed.{zed}
use Rattle.whole.proofs.Cases.{clash, and_left}
use Rattle.numbers.specs.Numbers.{Given}
use Rattle.numbers.proofs.Numbers.{left}
use Rattle.clean.specs.None.{none_i64, none_u32}
use Rattle.clean.proofs.Filled.{filled_at}
use Rattle.table.proofs.Laws as table
use Rattle.walks.specs.Walk.{Walk, NegativeFrom, Negative, Entry}
use Rattle.net.specs.Net.{Net, ArcOf, LeadsOf, nodes_of, width, whole_net, inside_net, has}
use Rattle.net.proofs.Nodes.{width_most}
use Rattle.pending.specs.Reach.{BadInReach}
use Rattle.matrix.specs.Matrix.{Buffers, AllPairs}
use Rattle.matrix.proofs.Matrix.{diagonal_zero}
use Rattle.matrix.proofs.Settles as matrix_laws
use Rattle.dijkstra.specs.Promise as dijkstra
use Rattle.dijkstra.proofs.Settles as dijkstra_laws
use Rattle.bellman_ford.specs.Promise as bellman
use Rattle.bellman_ford.proofs.Settles as bellman_laws
use Rattle.floyd_warshall.specs.Promise as floyd
use Rattle.johnson.specs.Promise as johnson
use Rattle.a_star.specs.Promise as star
use Rattle.a_star.specs.Given as star_given
use Rattle.a_star.proofs.Gives as star_gives
use Rattle.page.specs.Promise as page
use Rattle.page.proofs.Settles as page_laws
use Rattle.hops.specs.Steps as steps
use Rattle.hops.specs.Promise as hops
use Rattle.hops.proofs.Settles as hops_laws
use Rattle.promises.specs.Distance.{Distance, Hops}

-- ---- an entry is a distance
distance_of : {Arc : ℕ → ℕ → ℤ → Type 0} {s v : ℕ} {d : ℤ} → Entry Arc s v d → Distance Arc s v d
distance_of {d} (inl l) = record { attained = λ n. l.0.walk; lowest = l.0.least; none_exactly = (λ e. absurd (let w = l.1 in omega (arith, zed)), λ n. absurd (n d l.0.walk)) }
distance_of (inr p) = record { attained = λ n. absurd (n p.0); lowest = λ t w. absurd (p.1 t w); none_exactly = (λ e. p.1, λ n. p.0) }

-- ---- `dijkstra`
module _ {g : Net ℤ} {s : ℕ} {b e : dijkstra.Buffers} {number : ℕ} (p : dijkstra.Promise g s b e number) where
  pub dijkstra_distances : number ≡ 0 → (v : ℕ) → v < g.bound → Distance (ArcOf g) s v (get_or e.dist v (pos 0))
  dijkstra_distances z v k = distance_of ((left (dijkstra.table g s b) e number p.follows 0 z).0.each v (pos 0) k)

  pub dijkstra_six : (number ≡ 6) ↔ ((dijkstra.enough g b ≡ true) × (inside_net g ≡ true) × (has g s ≡ true) × BadInReach (ArcOf g) s)
  dijkstra_six = let x = dijkstra_laws.promise_exactly p 6 in (λ z. let (l, (i, (h, w))) = x.0 z in (l, i, h, w), λ c. x.1 (c.0, (c.1, (c.2, c.3))))

-- ---- `bellman_ford`
module _ {g : Net ℤ} {s : ℕ} {b e : bellman.Buffers} {number : ℕ} (p : bellman.Promise g s b e number) where
  pub bellman_ford_distances : has g s ≡ true → number ≡ 0 → (v : ℕ) → v < g.bound → Distance (ArcOf g) s v (get_or e.dist v (pos 0))
  bellman_ford_distances source z v k = go (bellman_laws.promise_given p 0 z)
    where
      go : Given 0 (bellman.table g s b) e → Distance (ArcOf g) s v (get_or e.dist v (pos 0))
      go (l, (i, inl x)) = absurd (clash source x.0)
      go (l, (i, inr (h, (w, (t, x))))) = distance_of (x.0.each v (pos 0) k)

  -- from a source that the map has not: 0, and every distance none
  pub bellman_ford_nowhere : bellman.enough g b ≡ true → inside_net g ≡ true → has g s ≡ false → (number ≡ 0) × ((v : ℕ) → v < g.bound → get_or e.dist v (pos 0) ≡ none_i64)
  bellman_ford_nowhere long inside absent = let z = (bellman_laws.promise_exactly p 0).1 (long, (inside, inl absent)) in (z, go (bellman_laws.promise_given p 0 z))
    where
      go : Given 0 (bellman.table g s b) e → (v : ℕ) → v < g.bound → get_or e.dist v (pos 0) ≡ none_i64
      go (l, (i, inl x)) v k = ap (λ (y : bellman.Buffers). get_or y.dist v (pos 0)) x.1 ∙ filled_at g.bound none_i64 (pos 0) b.dist v k
      go (l, (i, inr x)) v k = absurd (clash x.0 absent)

  pub bellman_ford_seven : (number ≡ 7) ↔ ((bellman.enough g b ≡ true) × (inside_net g ≡ true) × (has g s ≡ true) × NegativeFrom (ArcOf g) s)
  bellman_ford_seven = let x = bellman_laws.promise_exactly p 7 in (λ z. let (l, (i, (h, w))) = x.0 z in (l, i, h, w), λ c. x.1 (c.0, (c.1, (c.2, c.3))))

-- ---- both matrices: in row i and column j, the distance from the i-th node to the j-th
abbrev Distances : Net ℤ → List ℤ → Type 0
Distances g matrix = (i j : ℕ) → i < width g → j < width g → Distance (ArcOf g) (get_or (nodes_of g) i 0) (get_or (nodes_of g) j 0) (get_or matrix (i * width g + j) (pos 0))

module _ {S : Type 0} {g : Net ℤ} {long : Bool} {clear : S} {b e : Buffers S} {number : ℕ} (p : AllPairs g long clear b e number) where
  all_distances : number ≡ 0 → Distances g e.matrix
  all_distances z i j h k = let (l, (x, (w, (t, a)))) = matrix_laws.promise_given p 0 z in distance_of (a.0.each i j h k)

  diagonal : number ≡ 0 → (i : ℕ) → i < width g → get_or e.matrix (i * width g + i) (pos 0) ≡ pos 0
  diagonal z i h = let (l, (x, (w, (t, a)))) = matrix_laws.promise_given p 0 z in diagonal_zero w a.0 i h

  seven : (number ≡ 7) ↔ ((long ≡ true) × (inside_net g ≡ true) × Negative (ArcOf g))
  seven = let x = matrix_laws.promise_exactly p 7 in (λ z. let y = x.0 z in (y.0, y.1.0, y.1.1), λ y. x.1 (y.0, (y.1, y.2)))

module _ {g : Net ℤ} {m m' : List ℤ} {r r' : List ℕ} {number : ℕ} (p : floyd.Promise g m r m' r' number) where
  pub floyd_warshall_distances : number ≡ 0 → Distances g m'
  floyd_warshall_distances z = all_distances p z

  -- the diagonal is 0
  pub floyd_warshall_diagonal : number ≡ 0 → (i : ℕ) → i < width g → get_or m' (i * width g + i) (pos 0) ≡ pos 0
  floyd_warshall_diagonal z = diagonal p z

  pub floyd_warshall_seven : (number ≡ 7) ↔ ((floyd.enough g m r ≡ true) × (inside_net g ≡ true) × Negative (ArcOf g))
  floyd_warshall_seven = seven p

  -- so for every undirected map with a cost below zero
  pub floyd_warshall_undirected : floyd.enough g m r ≡ true → inside_net g ≡ true → g.directed ≡ false → (u v : ℕ) (c : ℤ) → ArcOf g u v c → c <ℤ pos 0 → number ≡ 7
  floyd_warshall_undirected long inside d u v c a h = floyd_warshall_seven.1 (long, inside, matrix_laws.undirected_negative g d u v c a h)

module _ {g : Net ℤ} {m m' : List ℤ} {s s' : johnson.Scratch} {number : ℕ} (p : johnson.Promise g m s m' s' number) where
  pub johnson_distances : number ≡ 0 → Distances g m'
  johnson_distances z = all_distances p z

  -- the diagonal is 0
  pub johnson_diagonal : number ≡ 0 → (i : ℕ) → i < width g → get_or m' (i * width g + i) (pos 0) ≡ pos 0
  johnson_diagonal z = diagonal p z

  pub johnson_seven : (number ≡ 7) ↔ ((johnson.enough g m s ≡ true) × (inside_net g ≡ true) × Negative (ArcOf g))
  johnson_seven = seven p

  -- so for every undirected map with a cost below zero
  pub johnson_undirected : johnson.enough g m s ≡ true → inside_net g ≡ true → g.directed ≡ false → (u v : ℕ) (c : ℤ) → ArcOf g u v c → c <ℤ pos 0 → number ≡ 7
  johnson_undirected long inside d u v c a h = johnson_seven.1 (long, inside, matrix_laws.undirected_negative g d u v c a h)

-- ---- `hops` and `hops_f64`: in row i and column j the number of hops from the i-th node to the j-th; fewer than the map has nodes, so never none
module _ {C : Type 0} (g : Net C) where
  few_hops : whole_net g ≡ true → inside_net g ≡ true → (i v d : ℕ) → i < width g → steps.LeastSteps (LeadsOf g) (get_or (nodes_of g) i 0) v d → d < none_u32
  few_hops whole inside i v d h l = omega (arith, hops_laws.hops_few g inside i v d h l, width_most g, (table.whole g.bound g.count g.room g.marks whole).indices)

  pub hops_distances : {b e : hops.Buffers} {number p : ℕ} → hops.Promise g b e number p → number ≡ 0 → (i j : ℕ) → i < width g → j < width g
      → Hops (LeadsOf g) (get_or (nodes_of g) i 0) (get_or (nodes_of g) j 0) (get_or e.matrix (i * width g + j) 0)
  hops_distances {b = b} {e = e} p z i j h k = let (l, (x, (t, a))) = hops_laws.promise_given p 0 z in go l x (get_or e.matrix (i * width g + j) 0) (a.0.each i j h k)
    where
      go : hops.enough g b ≡ true → inside_net g ≡ true → (d : ℕ) → steps.Entry (LeadsOf g) (get_or (nodes_of g) i 0) (get_or (nodes_of g) j 0) d
          → Hops (LeadsOf g) (get_or (nodes_of g) i 0) (get_or (nodes_of g) j 0) d
      go l x d (inl w) =
          let f = few_hops (and_left (whole_net g) _ l) x i (get_or (nodes_of g) j 0) d h w in
          record { attained = λ n. w.walk; lowest = w.least; none_exactly = (λ n. absurd (omega arith), λ n. absurd (n d w.walk)) }
      go l x d (inr w) = record { attained = λ n. absurd (n w.0); lowest = λ n s. absurd (w.1 n s); none_exactly = (λ n. w.1, λ n. w.0) }

-- ---- `a_star`: what a path that is given is, and when there is no path and no cost (a_star, Gives); what is found, and when, is the bag's (Bag)
module _ {g : Net ℤ} {q : star.Question} {b e : star.Buffers} {r : star.Answer} (p : star.Promise g q b e r) where
  pub a_star_path : 0 < r.length → star_given.Given g q r (star_given.path_in e r)
  a_star_path h = star_gives.given p h

  pub a_star_none : r.number ≡ 0 → (r.length ≡ 0) ↔ ((t : ℤ) → Walk (ArcOf g) q.source q.target t → ⊥)
  a_star_none z = star_gives.none_exactly p z

  pub a_star_cost_none : r.number ≡ 0 → (r.cost ≡ none_i64) ↔ ((t : ℤ) → Walk (ArcOf g) q.source q.target t → ⊥)
  a_star_cost_none z = star_gives.cost_none_exactly p z

-- ---- the page check: yes exactly of a page that is right, by a question that is not refused
pub page_yes : {g : Net ℤ} {s : ℕ} {l : List ℤ} {a : page.Answer} → page.Promise g s l a → (a.yes ≡ true)
    ↔ ((page.enough g l ≡ true) × (inside_net g ≡ true) × (has g s ≡ true) × page.Right (ArcOf g) g.bound s l)
page_yes p = page_laws.yes_exactly p
