-- The exact case: where every cost is a whole number from 0 to 2^31 - 1, `dijkstra` on the integer map and the f64 search without a cutoff on the map with each cost
-- converted agree. `exact_case`: if neither gives 1, the numbers are the same, and after 0 each f64 distance is the integer one as a number, none matching none.
-- `exact_nan`, `exact_infinity`: so with a cutoff that is NaN or +infinity, which cut nothing.
-- The argument: the converted map has the same arcs, each with the pattern of its cost, so the f64 search goes as one over whole numbers, no sum being rounded, and
-- its entries are least totals as numbers (dijkstra_path, Exact). Both maps have the same ends, so 2 and 3 come from both or from neither, and no cost is bad.
-- Assumes nothing.
use mathlib.Core.Path.{◌≡◌, refl, sym, ap, ◌∙◌, subst}
use mathlib.Core.Bool.{Bool, true, false}
use mathlib.Core.Logic.{inl, inr, ⊎_elim}
use mathlib.Core.Option.{Option, none, some}
use mathlib.Core.List.{List, [], ◌∷◌, map}
use Prim.Native.Nat.{ℕ, ◌≤◌, ◌<◌, ◌^◌}
use native.Mathlib.Omega.{arith}
use lib.IntN.{ℤ, pos}
use lib.Signed.{◌<ℤ◌}
use lib.ListN.{get_or}
use lib.Ieee.{nan, inf}
use Rattle.whole.specs.Zed.{zed}
use Rattle.whole.proofs.Cases.{agree}
use Rattle.numbers.specs.Numbers.{Follows, here, past}
use Rattle.numbers.proofs.Numbers.{behind, itself}
use Rattle.numbers.proofs.Beside.{beside, alike}
use Rattle.clean.specs.Fill.{Settled}
use Rattle.clean.specs.None.{none_i64, none_f64, shown}
use Rattle.std.specs.Prelude.{None, Some}
use Rattle.table.specs.Links.{Link, Arc}
use Rattle.table.specs.Lent.{float_cost}
use Rattle.table.specs.declared.FloatCost.{FloatCost}
use Rattle.walks.specs.Walk.{Entry}
use Rattle.walks.proofs.Over.{total_of}
use Rattle.net.specs.Net.{Net, links_of, ArcOf, OpenArcOf, inside_net}
use Rattle.pending.specs.Reach.{BadInReach}
use Rattle.pending.proofs.Exact.{WholeCost}
use Rattle.dijkstra.specs.Promise as dijkstra
use Rattle.dijkstra_path.specs.Promise as search
use Rattle.dijkstra_path.proofs.Settles.{cutoff_nan, cutoff_infinity}
use Rattle.dijkstra_path.proofs.Exact as search_exact
use Rattle.hops.proofs.Settles.{SameEnds, ends_back, inside_over}
use Rattle.promises.specs.Exact.{pattern, converted, Converted, SameNumber, neither, both, Agrees}

-- ---- the arcs of a map with each cost converted
convert_to : (d : Bool) (ls : List (Link ℤ)) (u v : ℕ) (c : ℤ) → Arc d ls u v c → Arc d (map converted ls) u v (float_cost (pattern c) true)
convert_to d [] u v c a = absurd a
convert_to d (l ∷ ls) u v c (inl a) = inl (a.0, ap (λ (z : ℤ). float_cost (pattern z) true) a.1)
convert_to d (l ∷ ls) u v c (inr a) = inr (convert_to d ls u v c a)

convert_from : (d : Bool) (ls : List (Link ℤ)) (u v : ℕ) (x : FloatCost) → Arc d (map converted ls) u v x → (c : ℤ) × Arc d ls u v c × (float_cost (pattern c) true ≡ x)
convert_from d [] u v x a = absurd a
convert_from d (l ∷ ls) u v x (inl a) = (l.cost, inl (a.0, refl), a.1)
convert_from d (l ∷ ls) u v x (inr a) = let k = convert_from d ls u v x a in (k.0, inr k.1, k.2)

module _ {g : Net ℤ} {h : Net FloatCost} (k : Converted g h) where
  arc_to : (u v : ℕ) (c : ℤ) → ArcOf g u v c → OpenArcOf h u v (pattern c)
  arc_to u v c a =
      subst (λ (d : Bool). Arc d (links_of h) u v (float_cost (pattern c) true)) k.directed
      (subst (λ (l : List (Link FloatCost)). Arc g.directed l u v (float_cost (pattern c) true)) (sym k.links) (convert_to g.directed (links_of g) u v c a))

  arc_from : (u v : ℕ) (x : FloatCost) → ArcOf h u v x → (c : ℤ) × ArcOf g u v c × (float_cost (pattern c) true ≡ x)
  arc_from u v x a =
      convert_from g.directed (links_of g) u v x
      (subst (λ (l : List (Link FloatCost)). Arc g.directed l u v x) k.links (subst (λ (d : Bool). Arc d (links_of h) u v x) (sym k.directed) a))

  -- the same ends, so both are refused with 2 or neither is
  same_ends : SameEnds g h
  same_ends = record {
    bound = k.bound;
    count = k.count;
    directed = k.directed;
    has = k.has;
    leads = λ u v. (λ a. (float_cost (pattern a.0) true, arc_to u v a.0 a.1), λ a. let b = arc_from u v a.0 a.1 in (b.0, b.1));
  }

  -- no arc is below zero
  none_bad : {s : ℕ} → BadInReach (ArcOf g) s → ⊥
  none_bad b =
      let w = k.whole b.u b.v b.c b.arc_is in
      let n : ℕ = w.size in
      let z : ℤ = b.c in
      let e : z ≡ pos n = w.is in
      let f : z <ℤ pos 0 = b.below in
      omega (arith, zed)

  -- each cost and its pattern
  whole_cost : (u v : ℕ) (c : ℤ) → ArcOf g u v c → WholeCost c (pattern c)
  whole_cost u v c a = let w = k.whole u v c a in record { size = w.size; is = w.is; small = less w.size w.small; bits = ap pattern w.is }
    where
      less : (n : ℕ) → n < 2 ^ 31 → n ≤ 2 ^ 31
      less n q = omega arith

  to : (u v : ℕ) (c : ℤ) → ArcOf g u v c → (x : ℕ) × OpenArcOf h u v x × WholeCost c x
  to u v c a = (pattern c, arc_to u v c a, whole_cost u v c a)

  from : (u v x : ℕ) → OpenArcOf h u v x → (c : ℤ) × ArcOf g u v c × WholeCost c x
  from u v x a = let t = arc_from u v (float_cost x true) a in (t.0, t.1, subst (WholeCost t.0) (ap (λ (y : FloatCost). y.bits) t.2) (whole_cost u v t.0 t.1))

-- an entry and the f64 entry that shows the same are one number, which f64 holds exactly, or both none
same_number : {Arc : ℕ → ℕ → ℤ → Type 0} {s v : ℕ} {d : ℤ} {x : ℕ} (y : Option ℤ) → d ≡ shown none_i64 y → search_exact.SameNumber y x → Entry Arc s v d → SameNumber d x
same_number none e q t = neither e q
same_number {d} (some z) e q t =
    let n : ℕ = q.0 in
    let i : d ≡ pos n = e ∙ q.1 in
    both n (⊎_elim (λ l. omega (arith, zed, l.1)) (λ p. absurd (let a : d ≡ none_i64 = p.0 in omega (arith, zed))) t) i q.2

-- ---- the exact case
module _ {g : Net ℤ} {h : Net FloatCost} {s : ℕ} {b e : dijkstra.Buffers} {b' e' : search.Buffers} {number number' : ℕ} (k : Converted g h) where
  pub exact_case : dijkstra.Promise g s b e number → search.Promise h s None b' e' number' → (number ≡ 1 → ⊥) → (number' ≡ 1 → ⊥)
      → Agrees g.bound e.dist e'.memory.dist number number'
  exact_case p r f f' = let n = both p.follows r.follows in record { number = n.0; distances = λ z v m. each (sym n.0 ∙ z) ((n.1 z).each v (pos 0) m) m }
    where
      inside : inside_net g ≡ inside_net h
      inside = agree (inside_net g) (inside_net h) (inside_over (same_ends k)) (inside_over (ends_back (same_ends k)))

      -- after 0 the distances are those of a promise of `dijkstra`
      Found : ℕ → dijkstra.Buffers → search.Buffers → Type 0
      Found n x y = n ≡ 0 → Settled g.bound (Entry (ArcOf g) s) b.dist x.dist

      -- past 1 the two tables have the same conditions: neither gives 6
      both : Follows (dijkstra.table g s b) e number → Follows (search.table h s None b') e' number' → (number ≡ number') × Found number e e'
      both (here l x) y = absurd (f x.0)
      both (past l x) (here l' y) = absurd (f' y.0)
      both (past l x) (past l' y) =
          beside Found (behind 1 (dijkstra.table g s b)) (behind 1 (search.table h s None b')) e e' number number'
          (alike refl inside (λ x y p q z. absurd (let c : ◌≡◌ {A = ℕ} 2 0 = z in omega (arith, c)))
          (λ i i'. alike refl (k.has s) (λ x y p q z. absurd (let c : ◌≡◌ {A = ℕ} 3 0 = z in omega (arith, c)))
          (λ a a'. alike refl (λ w. absurd (none_bad k w), λ z. absurd (search_exact.exact_good (ArcOf g) (to k) (from k) z.1 z.2))
          (λ x y p q z. absurd (let c : ◌≡◌ {A = ℕ} 6 0 = z in omega (arith, c)))
          (λ w w'. alike refl itself (λ x y p q z. p.0) (λ t t'. tt)))))
          x y

      each : {v : ℕ} → number' ≡ 0 → Entry (ArcOf g) s v (get_or e.dist v (pos 0)) → v < g.bound → SameNumber (get_or e.dist v (pos 0)) (get_or e'.memory.dist v none_f64)
      each {v} z t m =
          let y = search_exact.exact_entry g (to k) (from k) r z v (subst (λ (j : ℕ). v < j) k.bound m) (total_of t) in
          same_number y.0 y.1 y.2 t

  -- a cutoff that is NaN or +infinity cuts nothing
  pub exact_nan : dijkstra.Promise g s b e number → search.Promise h s (Some nan) b' e' number' → (number ≡ 1 → ⊥) → (number' ≡ 1 → ⊥)
      → Agrees g.bound e.dist e'.memory.dist number number'
  exact_nan p r f f' = exact_case p (cutoff_nan.0 r) f f'

  pub exact_infinity : dijkstra.Promise g s b e number → search.Promise h s (Some (inf false)) b' e' number' → (number ≡ 1 → ⊥) → (number' ≡ 1 → ⊥)
      → Agrees g.bound e.dist e'.memory.dist number number'
  exact_infinity p r f f' = exact_case p (cutoff_infinity.0 r) f f'
