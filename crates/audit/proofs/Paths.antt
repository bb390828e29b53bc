-- What distances, paths and loops mean to a caller, after a feed from count 0: they are those of the last accepted records.
-- Assumes nothing.
use mathlib.Core.Path.{◌≡◌, refl, sym, ap, ◌∙◌, subst}
use mathlib.Core.Bool.{true, false}
use mathlib.Core.List.{List, reverse}
use mathlib.Core.Logic.{◌⊎◌, inl, inr, ◌↔◌}
use mathlib.Core.Option.{none}
use Prim.Native.Nat.{ℕ, zero, suc, ◌+◌, ◌*◌, ◌≤◌, ◌<◌, ◌^◌}
use native.Mathlib.Omega.{arith}
use lib.IntN.{ℤ, pos}
use lib.Signed.{◌≤ℤ◌, ◌<ℤ◌}
use lib.ListN.{length, get_or}
use Rattle.whole.specs.Zed.{zed}
use Rattle.clean.specs.Fill.{filled}
use Rattle.clean.specs.None.{none_i64, none_u32, none_f64}
use Rattle.float.specs.Cutoff.{Cutoff, past}
use Rattle.std.specs.Prelude.{None}
use Rattle.table.specs.Links.{Link}
use Rattle.table.specs.Lent.{Ints}
use Rattle.table.specs.declared.FloatCost.{FloatCost}
use Rattle.table.specs.Feeds.{ints, Feed}
use Rattle.walks.specs.Walk.{Walk, Least, NegativeFrom, Negative}
use Rattle.walks.specs.Pigeon.{NoDup}
use Rattle.walks.specs.Chain.{Path, Cheapest}
use Rattle.net.specs.Net.{Net, ArcOf, LeadsOf, nodes_of, width, inside_net, has}
use Rattle.rows.specs.Rows.{rows_of, open_rows}
use Rattle.pending.specs.Setting.{End}
use Rattle.pending.specs.Literal as Lit
use Rattle.pending.specs.Floats.{search64}
use Rattle.pending.specs.Reach.{BadInReach}
use Rattle.pending.proofs.Literal.{literal_one}
use Rattle.matrix.specs.Matrix.{square}
use Rattle.dijkstra.specs.Promise as dijkstra
use Rattle.a_star.specs.Promise as star
use Rattle.a_star.specs.Given.{Modest, path_in}
use Rattle.bellman_ford.specs.Promise as bellman
use Rattle.floyd_warshall.specs.Promise as floyd
use Rattle.johnson.specs.Promise as johnson
use Rattle.hops.specs.Steps.{Steps, LeastSteps}
use Rattle.hops.specs.Promise as hops
use Rattle.dijkstra_path.specs.Promise as search
use Rattle.page.specs.Promise as page
use Rattle.promises.specs.Distance.{Distance}
use Rattle.promises.specs.Exact.{Converted, SameNumber, neither, both, pattern}
use Rattle.promises.specs.Maps.{map_after, map_of_lasts}
use Rattle.promises.proofs.Demand2 as demand2
use Rattle.promises.proofs.Demand3 as demand3
use Rattle.promises.proofs.Bag.{a_star_bag, dijkstra_path_bag}
use Rattle.promises.proofs.Exact.{exact_case}
use Rattle.promises.proofs.Agree.{bellman_ford_page_yes}
use Rattle.audit.proofs.Tables as told

-- ---- a number given is a least total, and none stands exactly where no walk leads
abbrev Shortest : (ℕ → ℕ → ℤ → Type 0) → ℕ → ℕ → ℤ → Type 0
Shortest Arc s v d = ((d ≡ none_i64 → ⊥) → Least Arc s v d) × ((d ≡ none_i64) ↔ ((t : ℤ) → Walk Arc s v t → ⊥))

shortest : {Arc : ℕ → ℕ → ℤ → Type 0} {s v : ℕ} {d : ℤ} → Distance Arc s v d → Shortest Arc s v d
shortest x = ((λ n. record { walk = x.attained n; least = x.lowest }), x.none_exactly)

-- of a matrix: the same from node to node, and no node has a closed walk below zero
abbrev AllShortest : Net ℤ → List ℤ → Type 0
AllShortest g m =
    ((i j : ℕ) → i < width g → j < width g → Shortest (ArcOf g) (get_or (nodes_of g) i 0) (get_or (nodes_of g) j 0) (get_or m (i * width g + j) (pos 0)))
    × ((i : ℕ) → i < width g → (t : ℤ) → Walk (ArcOf g) (get_or (nodes_of g) i 0) (get_or (nodes_of g) i 0) t → pos 0 ≤ℤ t)

all_shortest : (g : Net ℤ) (m : List ℤ) → ((i j : ℕ) → i < width g → j < width g → Distance (ArcOf g) (get_or (nodes_of g) i 0) (get_or (nodes_of g) j 0) (get_or m (i * width g + j) (pos 0)))
    → ((i : ℕ) → i < width g → get_or m (i * width g + i) (pos 0) ≡ pos 0) → AllShortest g m
all_shortest g m d z = ((λ i j h k. shortest (d i j h k)), λ i h t w. subst (λ (x : ℤ). x ≤ℤ t) (z i h) ((d i i h h).lowest t w))

-- ---- questions after a feed, by the map of its last records
module _ (f : Feed (Link ℤ) Ints) (e : f.lent.count ≡ 0) where
  abbrev last : Net ℤ
  last = map_of_lasts ints f

  pub dijkstra_fed : {s : ℕ} {b a : dijkstra.Buffers} {n : ℕ} → dijkstra.Promise (map_after ints f) s b a n
      → (n ≡ 0 → (v : ℕ) → v < f.bound → Shortest (ArcOf last) s v (get_or a.dist v (pos 0)))
      × ((n ≡ 6) ↔ ((dijkstra.enough last b ≡ true) × (inside_net last ≡ true) × (has last s ≡ true) × BadInReach (ArcOf last) s))
  dijkstra_fed p = let q = (demand3.dijkstra_of_last_records f e).0 p in ((λ z v k. shortest (demand2.dijkstra_distances q z v k)), demand2.dijkstra_six q)

  -- from a source that the map has, and from one that it has not
  pub bellman_ford_fed : {s : ℕ} {b a : bellman.Buffers} {n : ℕ} → bellman.Promise (map_after ints f) s b a n
      → (has last s ≡ true → n ≡ 0 → (v : ℕ) → v < f.bound → Shortest (ArcOf last) s v (get_or a.dist v (pos 0)))
      × ((n ≡ 7) ↔ ((bellman.enough last b ≡ true) × (inside_net last ≡ true) × (has last s ≡ true) × NegativeFrom (ArcOf last) s))
      × (bellman.enough last b ≡ true → inside_net last ≡ true → has last s ≡ false → (n ≡ 0) × ((v : ℕ) → v < f.bound → get_or a.dist v (pos 0) ≡ none_i64))
  bellman_ford_fed p =
      let q = (demand3.bellman_ford_of_last_records f e).0 p in
      ((λ h z v k. shortest (demand2.bellman_ford_distances q h z v k)), demand2.bellman_ford_seven q, demand2.bellman_ford_nowhere q)

  pub floyd_warshall_fed : {m m' : List ℤ} {r r' : List ℕ} {n : ℕ} → floyd.Promise (map_after ints f) m r m' r' n
      → (n ≡ 0 → AllShortest last m') × ((n ≡ 7) ↔ ((floyd.enough last m r ≡ true) × (inside_net last ≡ true) × Negative (ArcOf last)))
  floyd_warshall_fed {m' = m'} p =
      let q = (demand3.floyd_warshall_of_last_records f e).0 p in
      ((λ z. all_shortest last m' (demand2.floyd_warshall_distances q z) (demand2.floyd_warshall_diagonal q z)), demand2.floyd_warshall_seven q)

  pub johnson_fed : {m m' : List ℤ} {s s' : johnson.Scratch} {n : ℕ} → johnson.Promise (map_after ints f) m s m' s' n
      → (n ≡ 0 → AllShortest last m') × ((n ≡ 7) ↔ ((johnson.enough last m s ≡ true) × (inside_net last ≡ true) × Negative (ArcOf last)))
  johnson_fed {m' = m'} p = let q = (demand3.johnson_of_last_records f e).0 p in ((λ z. all_shortest last m' (demand2.johnson_distances q z) (demand2.johnson_diagonal q z)), demand2.johnson_seven q)

  pub page_fed : {s : ℕ} {l : List ℤ} {a : page.Answer} → page.Promise (map_after ints f) s l a
      → (a.yes ≡ true) ↔ ((page.enough last l ≡ true) × (inside_net last ≡ true) × (has last s ≡ true) × page.Right (ArcOf last) f.bound s l)
  page_fed p = demand2.page_yes ((demand3.page_of_last_records f e).0 p)

-- ---- an undirected map with a cost below zero: the matrix is blank
pub floyd_warshall_blank : {g : Net ℤ} {m m' : List ℤ} {r r' : List ℕ} {n : ℕ} → floyd.Promise g m r m' r' n → floyd.enough g m r ≡ true → inside_net g ≡ true → g.directed ≡ false
    → (u v : ℕ) (c : ℤ) → ArcOf g u v c → c <ℤ pos 0 → m' ≡ filled (square g) none_i64 m
floyd_warshall_blank p l i d u v c a h = ((told.floyd_warshall_leaves p).2 (demand2.floyd_warshall_undirected p l i d u v c a h)).0

pub johnson_blank : {g : Net ℤ} {m m' : List ℤ} {s s' : johnson.Scratch} {n : ℕ} → johnson.Promise g m s m' s' n → johnson.enough g m s ≡ true → inside_net g ≡ true → g.directed ≡ false
    → (u v : ℕ) (c : ℤ) → ArcOf g u v c → c <ℤ pos 0 → m' ≡ filled (square g) none_i64 m
johnson_blank p l i d u v c a h = ((told.johnson_leaves p).2 (demand2.johnson_undirected p l i d u v c a h)).0

-- ---- hops: a number given is the least of arcs, and none stands exactly where no walk leads
pub hops_fewest : {C : Type 0} (g : Net C) {b e : hops.Buffers} {n p : ℕ} → hops.Promise g b e n p → n ≡ 0 → (i j : ℕ) → i < width g → j < width g
    → let x = get_or (nodes_of g) i 0 in let y = get_or (nodes_of g) j 0 in let d = get_or e.matrix (i * width g + j) 0 in
    ((d ≡ none_u32 → ⊥) → LeastSteps (LeadsOf g) x y d) × ((d ≡ none_u32) ↔ ((k : ℕ) → Steps (LeadsOf g) x y k → ⊥))
hops_fewest g a z i j h k = let x = demand2.hops_distances g a z i j h k in ((λ n. record { walk = x.attained n; least = x.lowest }), x.none_exactly)

-- ---- the pending bag ends, and whatever it ends in, the answer is that
pub a_star_by_bag : {g : Net ℤ} {q : star.Question} {b e : star.Buffers} {r : star.Answer} → star.Promise g q b e r → star.Fine g q b
    → let Bag = Lit.Ends (star.search_of q) (rows_of g) (Lit.start (star.search_of q)) in
    ((x : End ℤ) × Bag x)
    × ((x : End ℤ) → Bag x → (r.number ≡ x.number) × (d : ℤ) × (l : List ℕ) × star.Says (ArcOf g) q x d l × (star.result_of r e ≡ star.with_path g b d l))
a_star_by_bag {g} {q} {b} {e} {r} p w =
    let y = a_star_bag p w in (
      (y.0, y.1),
      λ x run.
          subst (λ (z : End ℤ). (r.number ≡ z.number) × (d : ℤ) × (l : List ℕ) × star.Says (ArcOf g) q z d l × (star.result_of r e ≡ star.with_path g b d l))
          (literal_one (star.search_of q) (rows_of g) y.1 run) (y.2, y.3, y.4, y.5, y.6),
    )

pub dijkstra_path_by_bag : {g : Net FloatCost} {s : ℕ} {k : Cutoff} {b e : search.Buffers} {n : ℕ} → search.Promise g s k b e n → search.enough g b ≡ true → inside_net g ≡ true → has g s ≡ true
    → let Bag = Lit.Ends (search64 (past k) none s) (open_rows g) (Lit.start (search64 (past k) none s)) in
    ((x : End ℕ) × Bag x) × ((x : End ℕ) → Bag x → (n ≡ x.number) × (x.number ≡ 0 → search.Answers g.bound x b e))
dijkstra_path_by_bag {g} {s} {k} {b} {e} {n} p l i h =
    let y = dijkstra_path_bag p l i h in (
      (y.0, y.1),
      λ x run. subst (λ (z : End ℕ). (n ≡ z.number) × (z.number ≡ 0 → search.Answers g.bound z b e)) (literal_one (search64 (past k) none s) (open_rows g) y.1 run) (y.2, λ z. y.3 (y.2 ∙ z)),
    )

-- ---- `a_star` after 0: where a walk leads to the target a path of the map is given, with a cost that is no less than the path's total; with a modest heuristic that
-- total is the least of all; where none leads, no path and no cost
module _ (g : Net ℤ) (q : star.Question) (e : star.Buffers) (r : star.Answer) where
  abbrev Found : Type 0
  Found =
      (r.cost ≡ none_i64 → ⊥) × Path (ArcOf g) q.source q.target (path_in e r) × NoDup (path_in e r) × (length (path_in e r) ≤ width g) × Walk (ArcOf g) q.source q.target r.cost
      × (total : ℤ) × Cheapest (ArcOf g) (reverse (path_in e r)) total × (total ≤ℤ r.cost) × (Modest g q → Least (ArcOf g) q.source q.target total)

longer : (n : ℕ) → (n ≡ 0 → ⊥) → 0 < n
longer zero h = absurd (h refl)
longer (suc n) h = omega arith

pub a_star_finds : {g : Net ℤ} {q : star.Question} {b e : star.Buffers} {r : star.Answer} → star.Promise g q b e r → r.number ≡ 0 → let Leads = Walk (ArcOf g) q.source q.target in
    ((t : ℤ) → Leads t → Found g q e r) × (((t : ℤ) → Leads t → ⊥) → (r.length ≡ 0) × (r.cost ≡ none_i64))
a_star_finds {g} {q} {r = r} p z =
    let none = demand2.a_star_none p z in
    let free = demand2.a_star_cost_none p z in (
      λ t w. let x = demand2.a_star_path p (longer r.length (λ y. none.0 y t w)) in
          ((λ y. free.0 y t w), x.path, x.distinct, x.few, x.walk, x.total, x.cheapest, x.low, λ m. subst (Least (ArcOf g) q.source q.target) (sym (x.meets m)) (x.least m)),
      λ w. (none.1 w, free.1 w),
    )

-- ---- the exact case: the f64 search gives the patterns of the least totals
pub exact_least : {g : Net ℤ} {h : Net FloatCost} {s : ℕ} {b e : dijkstra.Buffers} {b' e' : search.Buffers} {n n' : ℕ} → Converted g h → dijkstra.Promise g s b e n → search.Promise h s None b' e' n'
    → (n ≡ 1 → ⊥) → (n' ≡ 1 → ⊥) → n' ≡ 0 → (v : ℕ) → v < g.bound
    → ((get_or e'.memory.dist v none_f64 ≡ none_f64) × ((t : ℤ) → Walk (ArcOf g) s v t → ⊥))
    ⊎ ((k : ℕ) × (k ≤ 2 ^ 53) × (get_or e'.memory.dist v none_f64 ≡ pattern (pos k)) × Least (ArcOf g) s v (pos k))
exact_least {g} {s = s} {e = e} {e' = e'} c p r f f' z v l =
    let a = exact_case c p r f f' in let y = a.number ∙ z in go (demand2.dijkstra_distances p y v l) (a.distances y v l)
  where
    go : {d : ℤ} {x : ℕ} → Distance (ArcOf g) s v d → SameNumber d x
        → ((x ≡ none_f64) × ((t : ℤ) → Walk (ArcOf g) s v t → ⊥)) ⊎ ((k : ℕ) × (k ≤ 2 ^ 53) × (x ≡ pattern (pos k)) × Least (ArcOf g) s v (pos k))
    go w (neither i q) = inl (q, w.none_exactly.0 i)
    go {d} w (both k m i q) = inr (k, m, q, subst (Least (ArcOf g) s v) i ((shortest w).0 (λ o. absurd (omega (arith, zed)))))

-- ---- the distances of `bellman_ford` are a page that is right
pub bellman_ford_right : {g : Net ℤ} {s : ℕ} {b e : bellman.Buffers} {n : ℕ} {a : page.Answer} → has g s ≡ true → bellman.Promise g s b e n → n ≡ 0 → page.Promise g s e.dist a
    → (a.number ≡ 0) × page.Right (ArcOf g) g.bound s e.dist
bellman_ford_right h p z r = let y = bellman_ford_page_yes h p z r in (ap (λ (x : page.Answer). x.number) y, ((demand2.page_yes r).0 (ap (λ (x : page.Answer). x.yes) y)).3)
