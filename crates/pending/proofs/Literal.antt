-- 01's bag, run by computation, ends in what it computes; and it has one end, since a turn is a function.
use mathlib.Core.Path.{◌≡◌, refl, ap, ◌∙◌, subst}
use mathlib.Core.Option.{Option, some}
use mathlib.Core.List.{List}
use Prim.Native.Nat.{ℕ, zero, suc}
use native.Mathlib.Omega.{arith}
use Rattle.pending.specs.Setting.{Setting, End}
use Rattle.pending.specs.Literal.{State, After, goes, ends, turn, Ends, last, more, run}

module _ {K C : Type 0} (S : Setting K C) (arcs : ℕ → List (ℕ × C)) where
  -- what is computed is an end
  pub run_ends : (n : ℕ) (s : State K) (e : End K) → run S arcs n s ≡ some e → Ends S arcs s e
  unfolding run
  run_ends zero s e h = absurd (let z : ◌≡◌ {A = ℕ} 0 1 = cc in omega arith)
  run_ends (suc n) s e h = go (turn S arcs s) refl h (λ t. run_ends n t e)
    where
      go : (a : After K) → turn S arcs s ≡ a → elim a as (λ x. Option (End K)) [ goes t ↦ run S arcs n t | ends f ↦ some f ] ≡ some e → ((t : State K) → run S arcs n t ≡ some e → Ends S arcs t e)
          → Ends S arcs s e
      go (goes t) p q f = more p (f t q)
      go (ends f) p q g = let k : f ≡ e = cc in last (p ∙ ap ends k)

  -- one end
  pub literal_one : {s : State K} {e f : End K} → Ends S arcs s e → Ends S arcs s f → e ≡ f
  literal_one (last p) (last q) = cc
  literal_one (last p) (more q r) = absurd (let z : ◌≡◌ {A = ℕ} 0 1 = cc in omega arith)
  literal_one (more p r) (last q) = absurd (let z : ◌≡◌ {A = ℕ} 0 1 = cc in omega arith)
  literal_one {s} {e} {f} (more {t} p r) (more {t = t'} q r') = literal_one r (subst (λ (x : State K). Ends S arcs x f) (let k : t' ≡ t = cc in k) r')
