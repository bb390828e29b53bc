-- The f64 distances in their order, and the laws of every f64 search: a distance and a good cost, added and rounded, are a distance again, and no smaller.
-- So the search ends, each index is kept at most once, and keys come out in rising order (Settle, Once); and the source keeps 0.0 (Source).
use mathlib.Core.Path.{◌≡◌, refl}
use mathlib.Core.Bool.{Bool}
use mathlib.Core.List.{List, ◌∷◌}
use mathlib.Core.Option.{Option}
use Prim.Native.Nat.{ℕ}
use Rattle.float.specs.Dist.{Dist64, lt64}
use Rattle.float.proofs.Cost.{zero_dist, plus_dist, plus_grows}
use Rattle.float.proofs.BitOrder.{lt64_asym, lt64_neg, lt64_same, zero_least}
use Rattle.bag.specs.Order.{IsOrder}
use Rattle.walks.specs.Pigeon.{In, NoDup}
use Rattle.pending.specs.Setting.{End, ArcOf}
use Rattle.pending.specs.Literal as Lit
use Rattle.pending.specs.OnePlace.{Cell, begin, Takes, Ends}
use Rattle.pending.specs.Laws.{Laws}
use Rattle.pending.specs.Floats.{search64}
use Rattle.pending.proofs.Once.{indices, Rising, Took, once_rising, plain_ends}
use Rattle.pending.proofs.Source.{FromSource, from_source}

-- the f64 distances in their order
pub floats : IsOrder lt64 Dist64
floats = record { asym = lt64_asym; neg = lt64_neg; same = lt64_same }

-- the laws of every such search
pub laws64 : (cut : ℕ → Bool) (target : Option ℕ) (s : ℕ) → Laws (search64 cut target s) Dist64
laws64 cut target s = record { order = floats; zero_ok = zero_dist; plus_ok = plus_dist; key_ok = λ d v x. x }

-- it ends, on every map, with every cutoff
pub search64_ends : (cut : ℕ → Bool) (target : Option ℕ) (arcs : ℕ → List (ℕ × ℕ)) (o : ℕ) (ps : List ℕ) → In o ps → ((u v : ℕ) (c : ℕ) → ArcOf arcs u v c → In v ps)
    → (e : End ℕ) × Lit.Ends (search64 cut target o) arcs (Lit.start (search64 cut target o)) e × Ends (search64 cut target o) (ArcOf arcs) (begin (search64 cut target o)) 0 e
search64_ends cut target arcs o ps i f = plain_ends (search64 cut target o) (laws64 cut target o) (λ d v. refl) plus_grows arcs ps i f

-- no index is taken and kept twice, and keys come out in rising order
pub once_rising64 : (cut : ℕ → Bool) (target : Option ℕ) (o : ℕ) (Arc : ℕ → ℕ → ℕ → Type 0) {l : List (ℕ × ℕ)} {s : ℕ → Cell ℕ} {u : ℕ} {d : ℕ} {p : Option ℕ}
    → Took (search64 cut target o) Arc l s → Takes (search64 cut target o) s u d p → NoDup (u ∷ indices l) × Rising lt64 ((u, d) ∷ l)
once_rising64 cut target o Arc = once_rising (search64 cut target o) (laws64 cut target o) (λ d v. refl) plus_grows Arc

-- the source keeps 0.0 and has no predecessor, and any other index has both a distance and a predecessor or neither
pub from_source64 : (cut : ℕ → Bool) (target : Option ℕ) (o : ℕ) (Arc : ℕ → ℕ → ℕ → Type 0) (e : End ℕ)
    → Ends (search64 cut target o) Arc (begin (search64 cut target o)) 0 e → e.number ≡ 0 → FromSource (search64 cut target o) e
from_source64 cut target o Arc = from_source (search64 cut target o) (laws64 cut target o) zero_least Arc
