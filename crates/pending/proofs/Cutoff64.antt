-- Cutoffs at f64. What is past a cutoff stays past it as it grows, and is past every narrower one: so a wider cutoff keeps every distance and predecessor of a narrower
-- one (Widen). Cutoffs that cut the same distances are one: no cutoff, a NaN and +infinity. Every distance is past a cutoff below 0.0: then the source alone has one.
use mathlib.Core.Path.{◌≡◌, sym, ◌∙◌}
use mathlib.Core.Bool.{true, false}
use mathlib.Core.List.{List}
use mathlib.Core.Option.{none, some}
use Prim.Native.Nat.{ℕ}
use lib.Dec.{T}
use lib.Ieee.{Float, nan, inf, binary64, lt, fits, of_bits}
use Rattle.float.specs.Dist.{Dist64, zero64, lt64}
use Rattle.float.specs.Cutoff.{Cutoff, past}
use Rattle.std.specs.Prelude.{None, Some}
use Rattle.float.proofs.Cost.{plus_grows}
use Rattle.float.proofs.BitOrder.{zero_least}
use Rattle.float.proofs.Real.{Real}
use Rattle.float.proofs.Past.{Held, past_up, past_mono, past_none, past_nan, past_infinity, past_below}
use Rattle.pending.specs.Setting.{End, ArcOf}
use Rattle.pending.specs.OnePlace.{begin, Ends}
use Rattle.pending.specs.Floats.{search64}
use Rattle.pending.proofs.One.{begin_ok}
use Rattle.pending.proofs.Widen.{widen}
use Rattle.pending.proofs.Cutoff.{ends_cut, source_alone}
use Rattle.pending.proofs.Floats.{laws64}

-- the search from o over the arcs ends in e
abbrev pub Ends64 : (ℕ → ℕ → ℕ → Type 0) → Cutoff → ℕ → End ℕ → Type 0
Ends64 Arc k o e = Ends (search64 (past k) none o) Arc (begin (search64 (past k) none o)) 0 e

-- for two cutoffs that are no NaN, the first not above the second: where the wider search is done so is the narrower, and what it has the wider has
pub widen64 : (arcs : ℕ → List (ℕ × ℕ)) (o : ℕ) (c d : Float) → Real binary64 c → Real binary64 d → lt d c ≡ false → (e : End ℕ) → Ends64 (ArcOf arcs) (Some d) o e → e.number ≡ 0
    → (f : End ℕ) × Ends64 (ArcOf arcs) (Some c) o f × (f.number ≡ 0) × ((v x : ℕ) → f.dist v ≡ some x → (e.dist v ≡ some x) × (f.pred v ≡ e.pred v))
widen64 arcs o c d C D q e r z =
    let up : (x y : ℕ) → Dist64 x → Dist64 y → lt64 y x ≡ false → past (Some c) x ≡ true → past (Some c) y ≡ true = λ x y a b. past_up (Some c) x y (held c C.held) a b in
    let g = widen (search64 (past (Some d)) none o) (laws64 (past (Some d)) none o) plus_grows (past (Some c)) (past (Some d)) up (λ x a. past_mono c d x C D a q) arcs zero_least e r z in
    (g.0, g.1, g.2.number, g.2.same)
  where
    held : (c : Float) → T (fits binary64 c) → Held (Some c)
    held c h = unfold Held in h

-- two cutoffs that cut the same distances give the same end
pub same_cutoff64 : (k l : Cutoff) → ((x : ℕ) → Dist64 x → past k x ≡ past l x) → (o : ℕ) (Arc : ℕ → ℕ → ℕ → Type 0) (e : End ℕ) → Ends64 Arc k o e → Ends64 Arc l o e
unfolding begin
same_cutoff64 k l f o Arc e r = ends_cut (search64 (past k) none o) (laws64 (past k) none o) (past k) (past l) f Arc (begin_ok (search64 (past k) none o) (laws64 (past k) none o)) r

-- a NaN is no cutoff
pub nan_cutoff64 : (o : ℕ) (Arc : ℕ → ℕ → ℕ → Type 0) (e : End ℕ) → Ends64 Arc (Some nan) o e → Ends64 Arc None o e
nan_cutoff64 = same_cutoff64 (Some nan) None (λ x p. past_nan x ∙ sym (past_none x))

-- nor is +infinity
pub infinite_cutoff64 : (o : ℕ) (Arc : ℕ → ℕ → ℕ → Type 0) (e : End ℕ) → Ends64 Arc (Some (inf false)) o e → Ends64 Arc None o e
infinite_cutoff64 = same_cutoff64 (Some (inf false)) None (λ x p. past_infinity x ∙ sym (past_none x))

-- a cutoff below 0.0 keeps the source alone
pub source_alone64 : (c : Float) → T (fits binary64 c) → lt c (of_bits binary64 zero64) ≡ true → (o : ℕ) (Arc : ℕ → ℕ → ℕ → Type 0) (e : End ℕ) → Ends64 Arc (Some c) o e → (v : ℕ) → (v ≡ o → ⊥)
    → e.dist v ≡ none
source_alone64 c h b o Arc = source_alone (search64 (past (Some c)) none o) (laws64 (past (Some c)) none o) (λ x p. past_below c x h p b) Arc
