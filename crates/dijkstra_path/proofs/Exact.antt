-- The exact case: every cost is a whole number up to 2 ^ 31, converted, and there is no cutoff. Then no sum is rounded and the pending bag goes as over whole numbers
-- (pending/proofs/Exact): 6 never comes back, and each entry is the integer search's distance as a number, none where that has none, with the same predecessor.
-- The integer search stands here first as an end of the pending bag over whole numbers, on arcs that are the open arcs with their costs converted; then, since it has
-- an end and that end has the least totals, as what `dijkstra` may hold for an index: the least total of a walk, or none.
-- Assumes nothing.
use mathlib.Core.Path.{◌≡◌, refl, sym, ap, ◌∙◌, subst}
use mathlib.Core.Bool.{true, false}
use mathlib.Core.Logic.{inl, inr}
use mathlib.Core.Option.{Option, none, some}
use Prim.Native.Nat.{ℕ, ◌≤◌, ◌<◌}
use native.Mathlib.Omega.{arith}
use lib.IntN.{ℤ, pos}
use lib.ListN.{get_or}
use lib.Ieee.{binary64}
use Rattle.whole.proofs.Cases.{other}
use Rattle.clean.specs.None.{none_i64, none_f64, none_u32, shown}
use Rattle.float.specs.Cost.{bad_cost}
use Rattle.float.specs.Cutoff.{past}
use Rattle.float.specs.Whole.{bits_of}
use Rattle.std.specs.Prelude.{None}
use Rattle.float.proofs.Whole.{whole_good}
use Rattle.table.specs.declared.FloatCost.{FloatCost}
use Rattle.walks.specs.Pigeon.{In}
use Rattle.walks.specs.Walk.{Total}
use Rattle.walks.proofs.Over.{total_one}
use Rattle.net.specs.Net.{Net, OpenArcOf, links_of, inside_net, has, nodes_of}
use Rattle.net.specs.Net as net
use Rattle.net.proofs.Same.{open_has}
use Rattle.net.proofs.Nodes.{present_in, width_most}
use Rattle.rows.specs.Rows.{rows_of, open_rows}
use Rattle.rows.proofs.Members.{arcs_rows}
use Rattle.pending.specs.Setting.{End, ArcOf}
use Rattle.pending.specs.OnePlace.{begin, Ends}
use Rattle.pending.specs.Ints.{dijkstra}
use Rattle.pending.specs.Floats.{search64}
use Rattle.pending.proofs.Floats.{laws64}
use Rattle.pending.proofs.One.{all_good}
use Rattle.pending.proofs.Ints.{whole_laws, whole_grows}
use Rattle.pending.proofs.Once.{plain_ends}
use Rattle.pending.proofs.Same.{same_ends, literal_ends}
use Rattle.pending.proofs.Cutoff64.{Ends64}
use Rattle.pending.proofs.Dijkstra.{dijkstra_answer}
use Rattle.pending.proofs.Like.{AlikeEnd}
use Rattle.pending.proofs.Exact.{WholeCost, WholeDist, exact}
use Rattle.dijkstra_path.specs.Promise.{Buffers, EndsIn, Promise}
use Rattle.dijkstra_path.proofs.Literal.{open_rows_lem, literal_exactly}
use Rattle.dijkstra_path.proofs.Settles.{one_end}
use Rattle.dijkstra_path.proofs.Entries.{Showing, showing}

-- a whole distance, or none, and the entry that is the same number
abbrev pub SameNumber : Option ℤ → ℕ → Type 0
SameNumber none d = d ≡ none_f64
SameNumber (some z) d = (n : ℕ) × (z ≡ pos n) × (d ≡ bits_of n)

module _ {g : Net FloatCost} {s : ℕ} (Arc : ℕ → ℕ → ℤ → Type 0) (to : (u v : ℕ) (c : ℤ) → Arc u v c → (x : ℕ) × OpenArcOf g u v x × WholeCost c x)
    (from : (u v x : ℕ) → OpenArcOf g u v x → (c : ℤ) × Arc u v c × WholeCost c x) where
  -- the two searches correspond
  pub exact_end : g.bound ≤ 1024 → inside_net g ≡ true → has g s ≡ true → {i : End ℤ} {x : End ℕ} → Ends (dijkstra s) Arc (begin (dijkstra s)) 0 i → EndsIn g s None x → AlikeEnd WholeDist i x
  exact_end few inside at {i} {x} r q =
      let over = (same_ends (search64 (past None) none s) (laws64 (past None) none s) (open_rows g) found.0).1 found.1 in
      subst (AlikeEnd WholeDist i) (one_end (record { run = over }) q) found.2
    where
      found : (f : End ℕ) × Ends64 (ArcOf (open_rows g)) None s f × AlikeEnd WholeDist i f
      found =
          exact Arc (open_rows g)
          (λ u v c a. let w = to u v c a in (w.0, (open_rows_lem g u v w.0).0 w.1, w.2))
          (λ u v y a. from u v y ((open_rows_lem g u v y).1 a))
          s (nodes_of g) (present_in g s at)
          (λ u v c a. let w = to u v c a in present_in g v (open_has g inside u v w.0 w.1).1)
          (omega (arith, width_most g, few)) i r

  -- no cost is bad
  pub exact_good : {x : End ℕ} → EndsIn g s None x → x.number ≡ 6 → ⊥
  exact_good r z = other 6 0 z (all_good fine (literal_exactly.0 r)) (λ w. omega arith)
    where
      fine : (u v x : ℕ) → OpenArcOf g u v x → bad_cost binary64 x ≡ false
      fine u v x a = let w = (from u v x a).2 in ap (bad_cost binary64) w.bits ∙ whole_good w.size

  module _ {b e : Buffers} {number : ℕ} (promise : Promise g s None b e number) where
    -- after 0 the integer search has 0 too, and each index the same distance as a number, and the same predecessor
    pub exact_answers : number ≡ 0 → {i : End ℤ} → Ends (dijkstra s) Arc (begin (dijkstra s)) 0 i
        → (i.number ≡ 0) × ((v : ℕ) → v < g.bound → SameNumber (i.dist v) (get_or e.memory.dist v none_f64) × (get_or e.memory.preds v none_u32 ≡ shown none_u32 (i.pred v)))
    exact_answers z {i} r = (same.number ∙ w.number, λ v l. (same_number v l (i.dist v) refl, w.preds v l ∙ ap (shown none_u32) (sym (same.pred v))))
      where
        w : Showing g s None e
        w = showing promise z

        same : AlikeEnd WholeDist i w.end
        same = exact_end w.limit w.inside w.source r (literal_exactly.1 w.ends)

        same_number : (v : ℕ) → v < g.bound → (x : Option ℤ) → i.dist v ≡ x → SameNumber x (get_or e.memory.dist v none_f64)
        same_number v l none q = w.dist v l ∙ ap (shown none_f64) (same.gone v q)
        same_number v l (some x) q = let k = same.reached v x q in (k.3.size, k.3.is, w.dist v l ∙ ap (shown none_f64) k.2 ∙ k.3.value)

-- against an integer map with the same indices and arcs, the costs converted
module _ {g : Net FloatCost} (h : Net ℤ) {s : ℕ} (to : (u v : ℕ) (c : ℤ) → net.ArcOf h u v c → (x : ℕ) × OpenArcOf g u v x × WholeCost c x)
    (from : (u v x : ℕ) → OpenArcOf g u v x → (c : ℤ) × net.ArcOf h u v c × WholeCost c x) {b e : Buffers} {number : ℕ} (promise : Promise g s None b e number) (zero : number ≡ 0) where
  shows : Showing g s None e
  shows = showing promise zero

  -- the integer search has an end
  whole_end : (i : End ℤ) × Ends (dijkstra s) (net.ArcOf h) (begin (dijkstra s)) 0 i
  whole_end =
      let L = whole_laws (λ d v. d) none s in
      let listed = arcs_rows h.directed (links_of h) in
      let k = plain_ends (dijkstra s) L (λ d v. refl) (λ d c x. whole_grows d c) (rows_of h) (nodes_of g) (present_in g s shows.source) (λ u v c a. heads u v c ((listed u v c).1 a)) in
      (k.0, (literal_ends (dijkstra s) L (net.ArcOf h) (rows_of h) listed k.0).1 k.1)
    where
      heads : (u v : ℕ) (c : ℤ) → net.ArcOf h u v c → In v (nodes_of g)
      heads u v c a = let w = to u v c a in present_in g v (open_has g shows.inside u v w.0 w.1).1

  -- what `dijkstra` may hold for an index and the f64 entry are one number, or both none
  pub exact_entry : (v : ℕ) → v < g.bound → {z : ℤ} → Total (net.ArcOf h) s v z → (y : Option ℤ) × (z ≡ shown none_i64 y) × SameNumber y (get_or e.memory.dist v none_f64)
  exact_entry v l {z} total = (i.dist v, total_one total (own (i.dist v) refl), (k.1 v l).0)
    where
      i : End ℤ
      i = whole_end.0

      k : (i.number ≡ 0) × ((v : ℕ) → v < g.bound → SameNumber (i.dist v) (get_or e.memory.dist v none_f64) × (get_or e.memory.preds v none_u32 ≡ shown none_u32 (i.pred v)))
      k = exact_answers (net.ArcOf h) to from promise zero whole_end.1

      own : (y : Option ℤ) → i.dist v ≡ y → Total (net.ArcOf h) s v (shown none_i64 y)
      own none q = inr (refl, (dijkstra_answer (net.ArcOf h) s whole_end.1).unreached k.0 v q)
      own (some d) q = inl ((dijkstra_answer (net.ArcOf h) s whole_end.1).least k.0 v d q)
