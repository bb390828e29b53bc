-- The totals of walks over a map of integers: no walk leads to an absent index, a least total lies in -2^41 ..= 2^41, and totals go by the arcs alone.
-- Assumes nothing.
use mathlib.Core.Path.{◌≡◌, subst}
use mathlib.Core.Bool.{true, false}
use mathlib.Core.List.{List}
use mathlib.Core.Logic.{inl, inr}
use Prim.Native.Nat.{ℕ, ◌*◌, ◌≤◌, ◌^◌}
use native.Mathlib.Omega.{arith}
use lib.IntN.{ℤ}
use Rattle.whole.specs.Zed.{Within}
use Rattle.whole.proofs.Cases.{clash}
use Rattle.clean.specs.Fill.{Settled}
use Rattle.clean.specs.None.{none_i64}
use Rattle.clean.proofs.Filled.{settled_over}
use Rattle.walks.specs.Costs.{Costs32}
use Rattle.walks.specs.Walk.{Walk, stay, step, Least, NoNeg, Entry}
use Rattle.walks.proofs.Cheap.{least_within}
use Rattle.walks.proofs.Over.{entry_over}
use Rattle.net.specs.Net.{Net, ArcOf, inside_net, has, nodes_of, width, SameNet}
use Rattle.net.proofs.Nodes.{present_in}
use Rattle.net.proofs.Same.{arc_has}

module _ (g : Net ℤ) (s v : ℕ) (d : ℤ) (inside : inside_net g ≡ true) (source : has g s ≡ true) where
  -- an absent index has no walk to it
  pub absent_none : has g v ≡ false → Entry (ArcOf g) s v d → d ≡ none_i64
  absent_none f (inr p) = p.0
  absent_none f (inl l) = absurd (clash (end source l.0.walk) f)
    where
      end : {u w : ℕ} {t : ℤ} → has g u ≡ true → Walk (ArcOf g) u w t → has g w ≡ true
      end k (stay e) = k
      end k (step {u} {v} {c} a w e) = end (arc_has g inside u v c a).1 w

  -- a least total has fewer than 1,024 arcs, each of a cost in -2^31 ..= 2^31
  pub total_within : width g ≤ 1024 → Costs32 (ArcOf g) → NoNeg (ArcOf g) s → Least (ArcOf g) s v d → Within (2 ^ 41) d
  total_within few small none l =
      let w = least_within (nodes_of g) (2 ^ 31) (λ x y c a. present_in g y (arc_has g inside x y c a).1) (present_in g s source) small none l in
      let n : ℕ = w.0 in
      let k : Within (n * 2 ^ 31) d = w.2 in
      omega (arith, w.1)

-- maps that no question can tell apart have the same arcs, and the same entries in a buffer
module _ {g g' : Net ℤ} (same : SameNet g g') where
  pub arc_over : (u v : ℕ) (c : ℤ) → ArcOf g u v c → ArcOf g' u v c
  arc_over u v c = (same.arcs u v c).0

  pub arc_back : (u v : ℕ) (c : ℤ) → ArcOf g' u v c → ArcOf g u v c
  arc_back u v c = (same.arcs u v c).1

  pub entries_over : {s : ℕ} {before after : List ℤ} → Settled g.bound (Entry (ArcOf g) s) before after → Settled g'.bound (Entry (ArcOf g') s) before after
  entries_over {s} {before} {after} d = subst (λ (m : ℕ). Settled m (Entry (ArcOf g') s) before after) same.bound (settled_over (λ v k x y. entry_over arc_over arc_back y) d)
