-- Demand 2 for the questions that go by the pending bag: what `a_star` and the f64 search answer is what 01's bag, sentence by sentence, ends in.
-- `a_star_bag`: where nothing is refused with 1 to 5, the bag over the rows of the map ends in some x, and the number, the cost, the length and the path are what x
-- says. `dijkstra_path_bag`: where nothing is refused with 1 to 3, the bag over the open rows ends in some x, the number is x's, and after 0 the distances and the
-- predecessors are x's. The bag has one end (pending, `literal_one`).
-- The argument: the promises speak of 01's bag themselves.
-- Assumes nothing.
use mathlib.Core.Path.{◌≡◌, sym, ◌∙◌}
use mathlib.Core.Bool.{true}
use mathlib.Core.List.{List}
use mathlib.Core.Option.{none}
use Prim.Native.Nat.{ℕ}
use native.Mathlib.Omega.{arith}
use lib.IntN.{ℤ}
use Rattle.whole.proofs.Cases.{other}
use Rattle.numbers.specs.Numbers as rows
use Rattle.numbers.proofs.Numbers.{◌then◌, behind, follows_behind}
use Rattle.float.specs.Cutoff.{Cutoff, past}
use Rattle.table.specs.declared.FloatCost.{FloatCost}
use Rattle.net.specs.Net.{Net, ArcOf, inside_net, has}
use Rattle.rows.specs.Rows.{rows_of, open_rows}
use Rattle.pending.specs.Setting.{End}
use Rattle.pending.specs.Literal as Lit
use Rattle.pending.specs.Floats.{search64}
use Rattle.a_star.specs.Promise as star
use Rattle.a_star.proofs.Settles.{outcome_of}
use Rattle.dijkstra_path.specs.Promise as search

-- ---- `a_star`
pub a_star_bag : {g : Net ℤ} {q : star.Question} {b e : star.Buffers} {r : star.Answer} → star.Promise g q b e r → star.Fine g q b →
    (x : End ℤ) × Lit.Ends (star.search_of q) (rows_of g) (Lit.start (star.search_of q)) x × (r.number ≡ x.number)
    × (d : ℤ) × (l : List ℕ) × star.Says (ArcOf g) q x d l × (star.result_of r e ≡ star.with_path g b d l)
a_star_bag p w = let (o, n) = outcome_of p w in (o.end, o.ends.run, n, o.cost, o.path, o.says, o.leaves)

-- ---- `dijkstra_path_impl`, `dijkstra_path_f64`
pub dijkstra_path_bag : {g : Net FloatCost} {s : ℕ} {k : Cutoff} {b e : search.Buffers} {number : ℕ} → search.Promise g s k b e number → search.enough g b ≡ true → inside_net g ≡ true → has g s ≡ true
    →
    (x : End ℕ) × Lit.Ends (search64 (past k) none s) (open_rows g) (Lit.start (search64 (past k) none s)) x × (number ≡ x.number) × (number ≡ 0 → search.Answers g.bound x b e)
dijkstra_path_bag {g} {s} {k} {b} {e} {number} p l i h = go (follows_behind 3 (search.table g s k b) e number (l then i then h then tt) p.follows)
  where
    go : rows.Follows (behind 3 (search.table g s k b)) e number →
        (x : End ℕ) × Lit.Ends (search64 (past k) none s) (open_rows g) (Lit.start (search64 (past k) none s)) x × (number ≡ x.number) × (number ≡ 0 → search.Answers g.bound x b e)
    go (rows.here x y) = (x.0, x.1.run, y.0 ∙ sym x.2, λ n. other 6 0 y.0 n (λ c. omega arith))
    go (rows.past w (rows.here t y)) = let (x, r, z, a, q) = y.1 in (x, r.run, y.0 ∙ sym z, λ n. a)
    go (rows.past w (rows.past t y)) = absurd y
