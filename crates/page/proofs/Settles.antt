-- The promise of the page check settles the answer, and goes by the arcs alone.
-- What holds of every table of numbers (crate numbers) gives this, row by row. No arc leads to an index that the map has not, so a page with a distance there is
-- wrong. Maps with the same arcs call the same pages right.
-- Assumes nothing.
use mathlib.Core.Path.{◌≡◌, refl, sym, ap, subst}
use mathlib.Core.Bool.{Bool, true, false}
use mathlib.Core.List.{List}
use mathlib.Core.Logic.{◌↔◌}
use Prim.Native.Nat.{ℕ, ◌<◌}
use lib.IntN.{ℤ}
use Rattle.std.specs.Prelude.{Result, Ok, Err}
use Rattle.whole.proofs.Cases.{clash}
use Rattle.numbers.specs.Numbers.{here, past, Follows, At, Given}
use Rattle.numbers.specs.Over.{Over}
use Rattle.numbers.proofs.Numbers.{◌then◌, is_one, follows_one, exactly, given, follows_over, itself}
use Rattle.numbers.specs.declared.Refusal.{Refusal}
use Rattle.numbers.proofs.Refused.{refused_ne0, refusal_one}
use Rattle.net.specs.Net.{Net, ArcOf, inside_net, has, SameNet}
use Rattle.net.proofs.Same.{same_back, same_inside, arc_has}
use Rattle.page.specs.Promise.{Known, Right, enough, Answer, answer_of, answer_in, table, Promise}
use Rattle.page.proofs.Marks.{meets_over}

module _ {g : Net ℤ} {s : ℕ} {page : List ℤ} where
  -- ---- two answers that the promise allows are equal
  pub promise_one : {a a' : Answer} → Promise g s page a → Promise g s page a' → a ≡ a'
  promise_one {a} {a'} p q =
      let each = is_one then is_one then is_one then is_one then is_one then tt in
      let r = follows_one (table g s page) a.yes a'.yes a.number a'.number each p.follows q.follows in
      λ i. answer_of (r.0 i) (r.1 i)

  module _ {a : Answer} (p : Promise g s page a) where
    -- ---- each number exactly when its row is reached, and the word that is then said
    pub promise_exactly : (k : ℕ) → (a.number ≡ k) ↔ At k (table g s page)
    promise_exactly = exactly (table g s page) a.yes a.number p.follows

    pub promise_given : (k : ℕ) → a.number ≡ k → Given k (table g s page) a.yes
    promise_given = given (table g s page) a.yes a.number p.follows

    -- yes exactly on a page that is right, of a question that is not refused
    pub yes_exactly : (a.yes ≡ true) ↔ ((enough g page ≡ true) × (inside_net g ≡ true) × (has g s ≡ true) × Right (ArcOf g) g.bound s page)
    yes_exactly = go p.follows
      where
        go : Follows (table g s page) a.yes a.number → (a.yes ≡ true) ↔ ((enough g page ≡ true) × (inside_net g ≡ true) × (has g s ≡ true) × Right (ArcOf g) g.bound s page)
        go (here l x) = (λ z. absurd (clash z x.1), λ z. absurd (clash z.0 l))
        go (past l (here i x)) = (λ z. absurd (clash z x.1), λ z. absurd (clash z.1 i))
        go (past l (past i (here h x))) = (λ z. absurd (clash z x.1), λ z. absurd (clash z.2 h))
        go (past l (past i (past h (here w x)))) = (λ z. (l, i, h, w), λ z. x.1)
        go (past l (past i (past h (past w (here t x))))) = (λ z. absurd (clash z x.1), λ z. absurd (w z.3))
        go (past l (past i (past h (past w (past t x))))) = absurd x

-- ---- what a call gives is told by its answer
pub answer_one : (x y : Result Bool Refusal) → answer_in x ≡ answer_in y → x ≡ y
answer_one (Ok b) (Ok c) e = ap (λ (a : Answer). Ok a.yes) e
answer_one (Ok b) (Err s) e = absurd (refused_ne0 s (ap (λ (a : Answer). a.number) (sym e)))
answer_one (Err r) (Ok c) e = absurd (refused_ne0 r (ap (λ (a : Answer). a.number) e))
answer_one (Err r) (Err s) e = ap (λ z. Err z) (refusal_one r s (ap (λ (a : Answer). a.number) e))

-- an index that the map has not, with an entry that is not none, makes a page wrong: no arc leads to it
pub absent_wrong : (g : Net ℤ) {s : ℕ} {page : List ℤ} (v : ℕ) → inside_net g ≡ true → has g s ≡ true → v < g.bound → has g v ≡ false → Known page v → Right (ArcOf g) g.bound s page → ⊥
absent_wrong g v i h k f n w =
    let m = w.reached v k (λ q. clash h (subst (λ (x : ℕ). has g x ≡ false) q f)) n in
    clash (arc_has g i m.u v m.c m.arc).1 f

-- so the answer is no
pub absent_index_no : {g : Net ℤ} {s : ℕ} {page : List ℤ} {a : Answer} (v : ℕ) → v < g.bound → has g v ≡ false → Known page v → Promise g s page a → a.yes ≡ false
absent_index_no {g} {a = a} v k f n p = go a.yes refl
  where
    go : (b : Bool) → a.yes ≡ b → a.yes ≡ false
    go true e = let z = (yes_exactly p).0 e in absurd (absent_wrong g v z.1 z.2 k f n z.3)
    go false e = e

-- ---- the promise goes by the arcs
module _ {g g' : Net ℤ} (same : SameNet g g') where
  right_over : {s : ℕ} {page : List ℤ} → Right (ArcOf g) g.bound s page → Right (ArcOf g') g'.bound s page
  right_over w =
      record {
        starts = w.starts;
        holds = λ u v c a. w.holds u v c ((same.arcs u v c).1 a);
        reached = λ v h n k. meets_over (λ x y c a. (same.arcs x y c).0 a) (w.reached v (rw same.bound h) n k);
        ranged = λ v h. w.ranged v (rw same.bound h);
      }

module _ {g g' : Net ℤ} (same : SameNet g g') where
  pub promise_arcs : {s : ℕ} {page : List ℤ} {a : Answer} → Promise g s page a → Promise g' s page a
  promise_arcs {s} {page} {a} p = record { follows = follows_over (table g s page) (table g' s page) a.yes a.number over p.follows }
    where
      over : Over (table g s page) (table g' s page)
      over =
          (refl, rw (same.whole, same.bound), λ y q. q)
          then (refl, same_inside same, λ y q. q)
          then (refl, same.has s, λ y q. q)
          then (refl, (right_over same, right_over (same_back same)), λ y q. q)
          then (refl, itself, λ y q. q)
          then tt

  -- so two calls on such maps, with the same source and page, answer the same
  pub same_answers : {s : ℕ} {page : List ℤ} {a a' : Answer} → Promise g s page a → Promise g' s page a' → a ≡ a'
  same_answers p q = promise_one (promise_arcs p) q
