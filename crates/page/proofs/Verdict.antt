-- The tests together: all pass exactly on a page that is right.
-- Assumes nothing.
use mathlib.Core.Path.{◌≡◌, refl, sym}
use mathlib.Core.Bool.{Bool, true, false}
use mathlib.Core.List.{List}
use Prim.Native.Nat.{ℕ, zero, suc, ◌≤◌, ◌<◌}
use native.Mathlib.Omega.{arith}
use borrow.Author.Tests.{leb-true}
use lib.IntN.{ℤ, pos}
use lib.ListN.{length, get_or, replicate, length-replicate}
use Rattle.whole.proofs.Cases.{and_left, and_right}
use Rattle.numbers.specs.Numbers.{here, past}
use Rattle.net.specs.declared.Ints.{Ints}
use Rattle.net.specs.declared.Lent.{Lent}
use Rattle.net.specs.Net.{Net, int_net, ArcOf, whole_net, inside_net, has}
use Rattle.net.proofs.Nodes.{has_below}
use Rattle.net.proofs.Same.{arc_below}
use Rattle.net.proofs.Bounds.{whole_ints, long_ints}
use Rattle.page.specs.Promise.{Starts, Ranged, Right, enough, answer_of, Promise}
use Rattle.page.specs.Parts.{refusal_no, Decides, MarkedWhereKnown, Seen, Upto, Ripe, RipeIn}
use Rattle.page.proofs.Refusals.{passed}
use Rattle.page.proofs.Marks.{seen_start, forth}

-- the marks decide where the other three clauses hold
pub verdict : {A : ℕ → ℕ → ℤ → Type 0} {m s : ℕ} {page : List ℤ} {met : List ℕ} {r : Bool} → Starts page s → Ranged m page → Seen A page met
    → Decides ((v : ℕ) → v < m → MarkedWhereKnown s page met v) r → Decides (Right A m s page) r
verdict z w seen t =
    record {
      holds = λ e. record { starts = z; holds = seen.holds; reached = λ v k n l. seen.sound v (t.holds e v k n l); ranged = w };
      fails = λ e q. t.fails e (λ v k n l. seen.whole v (q.reached v k n l));
    }

-- the range passed: ready for the arcs
pub start : {d : Bool} {m n : ℕ} {xs ys : List ℕ} {cs : List ℤ} {s : ℕ} {page : List ℤ} {met : List ℕ} → Ripe m n xs ys cs s page met → Ranged m page → Upto d m n xs ys cs 0 page met
start ripe w = record { ready = ripe.ready; ranged = w; seen = seen_start (λ u v c a. a) ripe.zero }

-- a list of zeros holds 0 everywhere
zeros : (n v : ℕ) → ◌≡◌ {A = ℕ} (get_or (replicate n 0) v 0) 0
zeros zero zero = refl
zeros zero (suc v) = refl
zeros (suc n) zero = refl
zeros (suc n) (suc v) = zeros n v

-- a question that is not refused
module _ (l : Lent Ints) (s : ℕ) (page : List ℤ) (e : 0 ≡ refusal_no (int_net l) s page) where
  abbrev g : Net ℤ
  g = int_net l

  abbrev xs : List ℕ
  xs = l.from.now

  abbrev ys : List ℕ
  ys = l.to.now

  abbrev cs : List ℤ
  cs = l.costs.costs.now

  pass : (enough g page ≡ true) × (inside_net g ≡ true) × (has g s ≡ true)
  pass = passed g s page (sym e)

  whole : whole_net g ≡ true
  whole = and_left (whole_net g) _ pass.0

  long : (g.count ≤ length xs) × (g.count ≤ length ys) × (g.count ≤ length cs)
  long = long_ints g.bound g.count g.directed g.marks xs ys cs whole

  -- both ends of a link are below the bound: they are the ends of an arc
  ends : (i : ℕ) → i < g.count → (get_or xs i 0 < g.bound) × (get_or ys i 0 < g.bound)
  ends i h =
      arc_below g pass.1 (get_or xs i 0) (get_or ys i 0) (get_or cs i (pos 0))
      (forth g.directed xs ys cs i (omega (arith, long.0)) (omega (arith, long.1)) (omega (arith, long.2)) g.count h)

  -- with marks that are all zero: ripe to be judged
  pub ripe : (k : ℕ) → 1024 ≤ k → RipeIn l s page (replicate k 0)
  ripe k h = record {
    ready = record {
      in_from = long.0;
      in_to = long.1;
      in_costs = long.2;
      ends = ends;
      paged = leb-true g.bound (length page) (and_right (whole_net g) _ pass.0);
      marked = omega (arith, (whole_ints g.bound g.count g.directed g.marks xs ys cs whole).indices, length-replicate {A = ℕ} k 0);
    };
    source = has_below g s pass.2;
    zero = zeros k;
  }

  -- what was judged is what the promise says
  pub answered : {r : Bool} → Decides (Right (ArcOf g) g.bound s page) r → Promise g s page (answer_of 0 r)
  answered {r} t = go r refl
    where
      go : (b : Bool) → r ≡ b → Promise g s page (answer_of 0 r)
      go true q = record { follows = past pass.0 (past pass.1 (past pass.2 (here (t.holds q) (refl, q)))) }
      go false q = record { follows = past pass.0 (past pass.1 (past pass.2 (past (t.fails q) (here tt (refl, q))))) }
