-- Demand 1, what holds of every call. That it ends, and reads and writes inside the lent slices alone, is what the prover demands of each function before it builds;
-- no question and no put has a `requires`, so it is so on every input. The rest stands here, one block for each question and put.
-- `QUESTION-follows`: its numbers and buffers are those of 01's table, which is its promise (`table` in the question's specs/Promise, of a put in table/specs/Promise):
-- the number is that of the first row whose condition holds, untouched buffers after 1 to 5 and 8, blank outputs after 6 and 7, zero in the scratch used after 0, 6
-- and 7, and every rest as before. `QUESTION-numbers`: so it is one of the numbers in the table. `QUESTION-exactly`: each number k exactly when a row of it is reached
-- (`At k`): its condition holds, and none before it. `QUESTION-settled`: two answers that the promise allows are equal, in the number, what is returned beside it,
-- and every buffer.
-- The argument: what holds of every table of numbers is proved once (numbers, Numbers); a question shows row by row that what is left is settled.
-- Assumes nothing.
use mathlib.Core.Path.{◌≡◌, sym, ◌∙◌, ap}
use mathlib.Core.Bool.{Bool}
use mathlib.Core.List.{List}
use mathlib.Core.Logic.{⊎_elim, ◌↔◌}
use Prim.Native.Nat.{ℕ, ◌≤◌}
use native.Mathlib.Omega.{arith}
use lib.IntN.{ℤ}
use lib.ListN.{length}
use Rattle.numbers.specs.Numbers.{Follows, OneOf, At}
use Rattle.numbers.proofs.Numbers.{one_of, exactly}
use Rattle.float.specs.Cutoff.{Cutoff}
use Rattle.table.specs.Links.{Link}
use Rattle.table.specs.Lent.{RawCost, Ints, put_ints, Floats, put_floats}
use Rattle.table.specs.declared.FloatCost.{FloatCost}
use Rattle.net.specs.Net.{Net, width}
use Rattle.matrix.specs.Matrix.{buffers_of}
use Rattle.table.specs.Promise.{ints_table, floats_table}
use Rattle.table.proofs.Numbers as table
use Rattle.matrix.proofs.Settles as matrix_laws
use Rattle.dijkstra.specs.Promise as dijkstra
use Rattle.dijkstra.proofs.Settles as dijkstra_laws
use Rattle.a_star.specs.Promise as star
use Rattle.a_star.proofs.Settles as star_laws
use Rattle.a_star.proofs.Gives as star_gives
use Rattle.bellman_ford.specs.Promise as bellman
use Rattle.bellman_ford.proofs.Settles as bellman_laws
use Rattle.floyd_warshall.specs.Promise as floyd
use Rattle.floyd_warshall.proofs.Settles as floyd_laws
use Rattle.johnson.specs.Promise as johnson
use Rattle.johnson.proofs.Settles as johnson_laws
use Rattle.hops.specs.Promise as hops
use Rattle.hops.proofs.Settles as hops_laws
use Rattle.dijkstra_path.specs.Promise as search
use Rattle.dijkstra_path.proofs.Settles as search_laws
use Rattle.page.specs.Promise as page
use Rattle.page.proofs.Settles as page_laws

-- ---- `put` and `put_f64`
module _ (d : Bool) (m : ℕ) (marks : List ℕ) (r : Link ℤ) (n : ℕ) (xs ys : List ℕ) (cs : List ℤ) where
  -- what `put` answers and leaves
  abbrev ints : Ints
  ints = put_ints d m marks r n xs ys cs

  pub put_ints_follows : Follows (ints_table d m marks r n xs ys cs) ints ints.number
  put_ints_follows = table.ints_follows d m marks r n xs ys cs

  pub put_ints_numbers : OneOf (ints_table d m marks r n xs ys cs) ints.number
  put_ints_numbers = one_of (ints_table d m marks r n xs ys cs) ints ints.number put_ints_follows

  pub put_ints_exactly : (k : ℕ) → (ints.number ≡ k) ↔ At k (ints_table d m marks r n xs ys cs)
  put_ints_exactly = exactly (ints_table d m marks r n xs ys cs) ints ints.number put_ints_follows

  pub put_ints_settled : {e e' : Ints} → e ≡ ints → e' ≡ ints → e ≡ e'
  put_ints_settled p q = p ∙ sym q

module _ (d : Bool) (m : ℕ) (marks : List ℕ) (r : Link RawCost) (n : ℕ) (xs ys bs os : List ℕ) where
  -- what `put_f64` answers and leaves
  abbrev floats : Floats
  floats = put_floats d m marks r n xs ys bs os

  pub put_floats_follows : Follows (floats_table d m marks r n xs ys bs os) floats floats.number
  put_floats_follows = table.floats_follows d m marks r n xs ys bs os

  pub put_floats_numbers : OneOf (floats_table d m marks r n xs ys bs os) floats.number
  put_floats_numbers = one_of (floats_table d m marks r n xs ys bs os) floats floats.number put_floats_follows

  pub put_floats_exactly : (k : ℕ) → (floats.number ≡ k) ↔ At k (floats_table d m marks r n xs ys bs os)
  put_floats_exactly = exactly (floats_table d m marks r n xs ys bs os) floats floats.number put_floats_follows

  pub put_floats_settled : {e e' : Floats} → e ≡ floats → e' ≡ floats → e ≡ e'
  put_floats_settled p q = p ∙ sym q

-- ---- `dijkstra`
module _ {g : Net ℤ} {s : ℕ} {b e : dijkstra.Buffers} {number : ℕ} (p : dijkstra.Promise g s b e number) where
  pub dijkstra_follows : Follows (dijkstra.table g s b) e number
  dijkstra_follows = p.follows

  pub dijkstra_numbers : OneOf (dijkstra.table g s b) number
  dijkstra_numbers = one_of (dijkstra.table g s b) e number p.follows

  pub dijkstra_exactly : (k : ℕ) → (number ≡ k) ↔ At k (dijkstra.table g s b)
  dijkstra_exactly = dijkstra_laws.promise_exactly p

  pub dijkstra_settled : {e' : dijkstra.Buffers} {number' : ℕ} → dijkstra.Promise g s b e' number' → (number ≡ number') × (e ≡ e')
  dijkstra_settled q = dijkstra_laws.promise_one p q

-- ---- `dijkstra_path_impl`, `dijkstra_path_f64`: the promise is the table
module _ {g : Net FloatCost} {s : ℕ} {k : Cutoff} {b e : search.Buffers} {number : ℕ} (p : search.Promise g s k b e number) where
  pub dijkstra_path_follows : Follows (search.table g s k b) e number
  dijkstra_path_follows = p.follows

  pub dijkstra_path_numbers : OneOf (search.table g s k b) number
  dijkstra_path_numbers = one_of (search.table g s k b) e number p.follows

  pub dijkstra_path_exactly : (n : ℕ) → (number ≡ n) ↔ At n (search.table g s k b)
  dijkstra_path_exactly = search_laws.promise_exactly p

  pub dijkstra_path_settled : {e' : search.Buffers} {number' : ℕ} → search.Promise g s k b e' number' → (number ≡ number') × (e ≡ e')
  dijkstra_path_settled q = search_laws.promise_one p q

-- ---- `bellman_ford`
module _ {g : Net ℤ} {s : ℕ} {b e : bellman.Buffers} {number : ℕ} (p : bellman.Promise g s b e number) where
  pub bellman_ford_follows : Follows (bellman.table g s b) e number
  bellman_ford_follows = p.follows

  pub bellman_ford_numbers : OneOf (bellman.table g s b) number
  bellman_ford_numbers = one_of (bellman.table g s b) e number p.follows

  pub bellman_ford_exactly : (k : ℕ) → (number ≡ k) ↔ At k (bellman.table g s b)
  bellman_ford_exactly = bellman_laws.promise_exactly p

  pub bellman_ford_settled : {e' : bellman.Buffers} {number' : ℕ} → bellman.Promise g s b e' number' → (number ≡ number') × (e ≡ e')
  bellman_ford_settled q = bellman_laws.promise_one p q

-- ---- `a_star`: the promise is the table
module _ {g : Net ℤ} {q : star.Question} {b e : star.Buffers} {r : star.Answer} (p : star.Promise g q b e r) where
  pub a_star_follows : Follows (star.table g q b) (star.result_of r e) r.number
  a_star_follows = p.follows

  pub a_star_numbers : OneOf (star.table g q b) r.number
  a_star_numbers = one_of (star.table g q b) (star.result_of r e) r.number p.follows

  pub a_star_exactly : (k : ℕ) → (r.number ≡ k) ↔ At k (star.table g q b)
  a_star_exactly = star_laws.promise_exactly p

  pub a_star_settled : {e' : star.Buffers} {r' : star.Answer} → star.Promise g q b e' r' → (r ≡ r') × (e ≡ e')
  a_star_settled p' = star_laws.promise_one p p'

  -- after 0 the path has at most p indices, and its length is given
  pub a_star_length : r.number ≡ 0 → (l : List ℕ) × (length l ≤ width g) × (r.length ≡ length l) × (e ≡ star.left g b l)
  a_star_length z = ⊎_elim (λ x. absurd (omega (arith, z, x.0))) (λ x. found x.0 x.1.0) (star_laws.cases p)
    where
      found : star.Fine g q b → (o : star.Outcome g q b (star.result_of r e)) → (l : List ℕ) × (length l ≤ width g) × (r.length ≡ length l) × (e ≡ star.left g b l)
      found w o = let k = star_gives.path_few w o in (o.path, k.0, k.1, ap (λ (y : star.Result). y.buffers) o.leaves)

-- ---- `floyd_warshall`: its promise is the table
module _ {g : Net ℤ} {m m' : List ℤ} {r r' : List ℕ} {number : ℕ} (p : floyd.Promise g m r m' r' number) where
  pub floyd_warshall_follows : Follows (floyd.table g m r) (buffers_of m' r') number
  floyd_warshall_follows = p.follows

  pub floyd_warshall_numbers : OneOf (floyd.table g m r) number
  floyd_warshall_numbers = one_of (floyd.table g m r) (buffers_of m' r') number p.follows

  pub floyd_warshall_exactly : (k : ℕ) → (number ≡ k) ↔ At k (floyd.table g m r)
  floyd_warshall_exactly = matrix_laws.promise_exactly p

  pub floyd_warshall_settled : {m'' : List ℤ} {r'' : List ℕ} {number' : ℕ} → floyd.Promise g m r m'' r'' number' → (number ≡ number') × (m' ≡ m'') × (r' ≡ r'')
  floyd_warshall_settled q = floyd_laws.promise_one p q

-- ---- `johnson`: its promise is the table
module _ {g : Net ℤ} {m m' : List ℤ} {s s' : johnson.Scratch} {number : ℕ} (p : johnson.Promise g m s m' s' number) where
  pub johnson_follows : Follows (johnson.table g m s) (buffers_of m' s') number
  johnson_follows = p.follows

  pub johnson_numbers : OneOf (johnson.table g m s) number
  johnson_numbers = one_of (johnson.table g m s) (buffers_of m' s') number p.follows

  pub johnson_exactly : (k : ℕ) → (number ≡ k) ↔ At k (johnson.table g m s)
  johnson_exactly = matrix_laws.promise_exactly p

  pub johnson_settled : {m'' : List ℤ} {s'' : johnson.Scratch} {number' : ℕ} → johnson.Promise g m s m'' s'' number' → (number ≡ number') × (m' ≡ m'') × (s' ≡ s'')
  johnson_settled q = johnson_laws.promise_one p q

-- ---- `hops` and `hops_f64`: C is the kind of cost; their promise is the table
module _ {C : Type 0} {g : Net C} {b e : hops.Buffers} {number p : ℕ} (a : hops.Promise g b e number p) where
  pub hops_follows : Follows (hops.table g b) (hops.result_of p e) number
  hops_follows = a.follows

  pub hops_numbers : OneOf (hops.table g b) number
  hops_numbers = one_of (hops.table g b) (hops.result_of p e) number a.follows

  pub hops_exactly : (k : ℕ) → (number ≡ k) ↔ At k (hops.table g b)
  hops_exactly = hops_laws.promise_exactly a

  pub hops_settled : {e' : hops.Buffers} {number' p' : ℕ} → hops.Promise g b e' number' p' → (number ≡ number') × (p ≡ p') × (e ≡ e')
  hops_settled q = hops_laws.promise_one a q

-- ---- the page check
module _ {g : Net ℤ} {s : ℕ} {l : List ℤ} {a : page.Answer} (p : page.Promise g s l a) where
  pub page_follows : Follows (page.table g s l) a.yes a.number
  page_follows = p.follows

  pub page_numbers : OneOf (page.table g s l) a.number
  page_numbers = one_of (page.table g s l) a.yes a.number p.follows

  pub page_exactly : (k : ℕ) → (a.number ≡ k) ↔ At k (page.table g s l)
  page_exactly = page_laws.promise_exactly p

  pub page_settled : {a' : page.Answer} → page.Promise g s l a' → a ≡ a'
  page_settled q = page_laws.promise_one p q
