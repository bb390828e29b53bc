-- A search whose turns lower a measure ends. There are two measures, the first before the second.
-- By induction on the first, within it on the second, within it on the length of the list: a dropped pair makes the list shorter and leaves both as they are.
use mathlib.Core.Path.{◌≡◌, refl}
use mathlib.Core.Logic.{◌⊎◌, inl, inr}
use mathlib.Core.List.{List}
use Prim.Native.Nat.{ℕ, zero, suc, ◌<◌, ◌≤◌}
use native.Mathlib.Omega.{arith}
use lib.ListN.{length}
use Rattle.pending.specs.Setting.{Setting, End, ArcOf}
use Rattle.pending.specs.Literal as Lit
use Rattle.pending.specs.Literal.{State, After, goes, ends}
use Rattle.pending.specs.OnePlace.{Cell, begin, Next, Ends}
use Rattle.pending.specs.Laws.{Laws}
use Rattle.pending.proofs.Same.{Sim, Outcome, turn_sim, start_sim, to_one_place}

module _ {K C : Type 0} (S : Setting K C) {ok : K → Type 0} (L : Laws S ok) (arcs : ℕ → List (ℕ × C)) where
  -- some end
  abbrev pub SomeEnd : State K → Type 0
  SomeEnd M = (e : End K) × Lit.Ends S arcs M e

  -- past the pairs that are dropped
  drops : (j : ℕ) (M : State K) (s : ℕ → Cell K) (n : ℕ) → length M.bag < j → Sim S L M s n → ((t : ℕ → Cell K) (N : State K) → Next S (ArcOf arcs) s t → Sim S L N t (suc n) → SomeEnd N)
      → SomeEnd M
  drops zero M s n o h on = absurd (omega arith)
  drops (suc j) M s n o h on = go (Lit.turn S arcs M) refl (turn_sim S L arcs M s n h) (λ N i k. drops j N s n i k on)
    where
      go : (r : After K) → Lit.turn S arcs M ≡ r → Outcome S L arcs s n (length M.bag) r → ((N : State K) → length N.bag < j → Sim S L N s n → SomeEnd N) → SomeEnd M
      go (ends f) p w rec = (f, Lit.last p)
      go (goes N) p (inl w) rec = let x : length N.bag < length M.bag = w.1 in let y = rec N (omega arith) w.0 in (y.0, Lit.more p y.1)
      go (goes N) p (inr w) rec = let y = on w.0 N w.1 w.2 in (y.0, Lit.more p y.1)

  module _ (I : (ℕ → Cell K) → ℕ → Type 0) (μ ν : (ℕ → Cell K) → ℕ → ℕ)
      (falls : (s t : ℕ → Cell K) (n : ℕ) → I s n → Next S (ArcOf arcs) s t → I t (suc n) × ((μ t (suc n) < μ s n) ⊎ ((μ t (suc n) ≤ μ s n) × (ν t (suc n) < ν s n)))) where
    -- while the first measure stays, the second falls
    inner : (a : ℕ) → ((M : State K) (s : ℕ → Cell K) (n : ℕ) → μ s n < a → I s n → Sim S L M s n → SomeEnd M)
        → (b : ℕ) (M : State K) (s : ℕ → Cell K) (n : ℕ) → μ s n < suc a → ν s n < b → I s n → Sim S L M s n → SomeEnd M
    inner a outer zero M s n p q i h = absurd (omega arith)
    inner a outer (suc b) M s n p q i h = drops (suc (length M.bag)) M s n (omega arith) h (λ t N w k. go t N k (falls s t n i w) (λ o g j. inner a outer b N t (suc n) o g j k))
      where
        go : (t : ℕ → Cell K) (N : State K) → Sim S L N t (suc n) → I t (suc n) × ((μ t (suc n) < μ s n) ⊎ ((μ t (suc n) ≤ μ s n) × (ν t (suc n) < ν s n)))
            → (μ t (suc n) < suc a → ν t (suc n) < b → I t (suc n) → SomeEnd N) → SomeEnd N
        go t N k (j, inl o) rec = outer N t (suc n) (omega arith) j k
        go t N k (j, inr o) rec = let x : μ t (suc n) ≤ μ s n = o.0 in let y : ν t (suc n) < ν s n = o.1 in rec (omega arith) (omega arith) j

    -- and the first falls
    outer : (a : ℕ) (M : State K) (s : ℕ → Cell K) (n : ℕ) → μ s n < a → I s n → Sim S L M s n → SomeEnd M
    outer zero M s n p i h = absurd (omega arith)
    outer (suc a) M s n p i h = inner a (outer a) (suc (ν s n)) M s n p (omega arith) i h

    -- 01's bag ends, and so does the one with a place per index
    pub search_ends : I (begin S) 0 → (e : End K) × Lit.Ends S arcs (Lit.start S) e × Ends S (ArcOf arcs) (begin S) 0 e
    search_ends i = let r = outer (suc (μ (begin S) 0)) (Lit.start S) (begin S) 0 (omega arith) i (start_sim S L) in (r.0, r.1, to_one_place S L arcs (start_sim S L) r.1)
