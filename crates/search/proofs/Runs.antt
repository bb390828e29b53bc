-- With no heuristic and no target the bag is `dijkstra`'s, and its end says least totals, or 6.
-- Assumes nothing.
use mathlib.Core.Path.{◌≡◌, refl, sym, ap, ◌∙◌, subst}
use mathlib.Core.List.{List, [], ◌∷◌}
use mathlib.Core.Logic.{◌⊎◌, inl, inr}
use mathlib.Core.Option.{Option, none, some}
use Prim.Native.Nat.{ℕ, zero, suc, ◌≤◌, ◌<◌}
use native.Mathlib.Omega.{arith}
use lib.IntN.{ℤ, pos}
use lib.ListN.{length, get_or, take}
use lib.Seq.{get_or-take}
use Rattle.whole.specs.Zed.{◌⊕◌, zed, sum}
use Rattle.clean.specs.None.{none_i64, none_u32, shown}
use Rattle.clean.proofs.Filled.{no_default, settle, settled_over}
use Rattle.walks.specs.Walk.{Least, Total}
use Rattle.walks.proofs.Over.{walk_over, total_over}
use Rattle.rows.specs.Rows.{Lists}
use Rattle.rows.specs.RowArc.{RowArc}
use Rattle.pending.specs.Setting.{Setting, End}
use Rattle.pending.specs.Ints.{whole, dijkstra}
use Rattle.pending.specs.OnePlace.{begin, Ends}
use Rattle.pending.specs.Reach.{BadInReach}
use Rattle.pending.specs.Answers.{DijkstraAnswer}
use Rattle.pending.proofs.Dijkstra.{dijkstra_answer}
use Rattle.turns.specs.Memory.{Memory, Shows}
use Rattle.search.specs.Ints.{key_of, asked_of, guided, Fair, Fit}
use Rattle.turns.specs.Kind.{setting_of as setting_for}
use Rattle.turns.specs.Firsts.{Ran}
use Rattle.search.specs.Runs.{Cheap, ToAll, done, bad}

-- a predecessor that the end names, read
pub shown_pred : {e : End ℤ} {M : Memory ℤ} → Shows none_i64 e M → (v u : ℕ) → v < length M.preds → e.pred v ≡ some u → get_or M.preds v 0 ≡ u
shown_pred {M} s v u i q = no_default M.preds v 0 none_u32 i ∙ s.preds v ∙ ap (shown none_u32) q

-- ---- no heuristic, no target
-- a heuristic of one zero
zeros : (v : ℕ) → get_or (pos 0 ∷ []) v (pos 0) ≡ pos 0
zeros zero = refl
zeros (suc v) = refl

zeros_fair : (v : ℕ) → Fair (pos 0 ∷ []) v
zeros_fair v = let e : get_or (pos 0 ∷ []) v (pos 0) ≡ pos 0 = zeros v in record { low = omega (arith, zed); high = omega (arith, zed) }

-- it adds nothing
no_key : key_of (pos 0 ∷ []) ≡ (λ d v. d)
unfolding key_of
no_key = λ i d v. step d v i
  where
    step : (d : ℤ) (v : ℕ) → d ⊕ get_or (pos 0 ∷ []) v (pos 0) ≡ d
    step d v = ap (λ (x : ℤ). d ⊕ x) (zeros v) ∙ (let e : d ⊕ pos 0 ≡ d = omega (arith, zed, sum d (pos 0)) in e)

-- the question is `dijkstra`'s
setting_is : (s : ℕ) → setting_for (guided (pos 0 ∷ [])) none s ≡ dijkstra s
setting_is s = λ i. whole (no_key i) none s

module _ {m s : ℕ} {nb : Lists ℤ} where
  -- it fits the search
  pub fits : Cheap m nb → s < m → Fit (asked_of m s m (pos 0 ∷ [])) nb
  fits w h = record { rows = w.rows; source = h; first = zeros_fair s; fair = λ u v c a. zeros_fair v; cheap = w.cheap }

  module _ {M M' : Memory ℤ} {number takes : ℕ} (w : Ran (guided (pos 0 ∷ [])) m none s nb M M' number takes) (room : m ≤ length M.dist) where
    -- what the end says
    answer : DijkstraAnswer (RowArc m nb) s w.searched.end
    answer = dijkstra_answer (RowArc m nb) s (subst (λ (S : Setting ℤ ℤ). Ends S (RowArc m nb) (begin S) 0 w.searched.end) (setting_is s) w.searched.ends)

    -- each distance is the least total, or none without a walk
    total : w.searched.end.number ≡ 0 → (v : ℕ) → Total (RowArc m nb) s v (get_or (take m M'.dist) v none_i64)
    total e v = go (w.searched.end.dist v) refl
      where
        reads : get_or (take m M'.dist) v none_i64 ≡ shown none_i64 (w.searched.end.dist v)
        reads = (w.searched.shows (w.searched.is ∙ e)).dist v

        go : (o : Option ℤ) → w.searched.end.dist v ≡ o → Total (RowArc m nb) s v (get_or (take m M'.dist) v none_i64)
        go none f = inr (reads ∙ ap (shown none_i64) f, λ t x. answer.unreached e v f t x)
        go (some d) f = inl (subst (λ (z : ℤ). Least (RowArc m nb) s v z) (sym (reads ∙ ap (shown none_i64) f)) (answer.least e v d f))

    -- the answer over the whole list of distances
    pub reached : ToAll (RowArc m nb) m s M.dist M'.dist number
    reached = go answer.number
      where
        go : (w.searched.end.number ≡ 0) ⊎ (w.searched.end.number ≡ 6) → ToAll (RowArc m nb) m s M.dist M'.dist number
        go (inl e) =
            done (w.searched.is ∙ e) (answer.clean e)
            (settle none_i64 room w.kept.dist.long (λ v h. subst (Total (RowArc m nb) s v) (get_or-take m M'.dist v none_i64 h) (total e v)) w.kept.dist.rest)
        go (inr e) = bad (w.searched.is ∙ e) (answer.refused_why e)

-- ---- the answer goes by the arcs alone
module _ {A B : ℕ → ℕ → ℤ → Type 0} (f : (u v : ℕ) (c : ℤ) → A u v c → B u v c) where
  -- an arc below zero in reach
  pub bad_over : {o : ℕ} → BadInReach A o → BadInReach B o
  bad_over n = record { u = n.u; t = n.t; v = n.v; c = n.c; reach = walk_over f n.reach; arc_is = f n.u n.v n.c n.arc_is; below = n.below }

module _ {A B : ℕ → ℕ → ℤ → Type 0} (f : (u v : ℕ) (c : ℤ) → A u v c → B u v c) (b : (u v : ℕ) (c : ℤ) → B u v c → A u v c) where
  -- the distances
  pub reached_over : {m s : ℕ} {before after : List ℤ} {number : ℕ} → ToAll A m s before after number → ToAll B m s before after number
  reached_over (done e n d) = done e (λ x. n (bad_over b x)) (settled_over (λ v h x y. total_over f b y) d)
  reached_over (bad e n) = bad e (bad_over f n)
