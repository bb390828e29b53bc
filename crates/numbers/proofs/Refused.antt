-- Refusals: none has the number 0, and what `?` hands on is the error that it met.
-- Assumes nothing.
use Rattle.std.specs.Prelude.{◌≡◌, Result, Ok, Err, cond, eqb, refl}
use Rattle.std.proofs.Common.{ap, arith, sym, ◌∙◌, ℕ}
use Rattle.std.specs.Result.{IsErrAnd}
use Rattle.numbers.specs.declared.Refusal.{Refusal}
use Rattle.numbers.specs.declared.Refusal.TheVariants.{Limit, Index, Source, Target, Heuristic, BadCost, Negative, Room}
use Rattle.numbers.specs.Refusal.{no_of, number_of, count_after}

-- a refusal has a number
pub refused_ne0 : (r : Refusal) → no_of r ≡ 0 → ⊥
refused_ne0 Limit e = omega (arith, e)
refused_ne0 Index e = omega (arith, e)
refused_ne0 Source e = omega (arith, e)
refused_ne0 Target e = omega (arith, e)
refused_ne0 Heuristic e = omega (arith, e)
refused_ne0 BadCost e = omega (arith, e)
refused_ne0 Negative e = omega (arith, e)
refused_ne0 Room e = omega (arith, e)

-- the error that `?` hands on
pub handed_on : {A E : Type 0} (r : Result A E) (e : E) → IsErrAnd r (λ x. x ≡ e) → r ≡ Err e
handed_on (Ok _) e h = absurd h
handed_on (Err x) e h = ap (λ z. Err z) h

-- and so its number
pub number_handed_on : {A : Type 0} (r : Result A Refusal) (e : Refusal) → IsErrAnd r (λ x. x ≡ e) → number_of r ≡ no_of e
number_handed_on (Ok _) e h = absurd h
number_handed_on (Err x) e h = ap no_of h

-- the refusal of a number
refusal_at : ℕ → Refusal
refusal_at n = cond (eqb n 1) Limit (cond (eqb n 2) Index (cond (eqb n 3) Source (cond (eqb n 4) Target (cond (eqb n 5) Heuristic (cond (eqb n 6) BadCost (cond (eqb n 7) Negative Room))))))

back : (r : Refusal) → refusal_at (no_of r) ≡ r
unfolding refusal_at
back Limit = refl
back Index = refl
back Source = refl
back Target = refl
back Heuristic = refl
back BadCost = refl
back Negative = refl
back Room = refl

-- a refusal is told by its number
pub refusal_one : (r s : Refusal) → no_of r ≡ no_of s → r ≡ s
refusal_one r s e = sym (back r) ∙ (ap refusal_at e ∙ back s)

-- what is done or refused by its number, and a count by what there is then
pub number_one : (x y : Result Unit Refusal) → number_of x ≡ number_of y → x ≡ y
number_one (Ok _) (Ok _) e = refl
number_one (Ok _) (Err s) e = absurd (refused_ne0 s (sym e))
number_one (Err r) (Ok _) e = absurd (refused_ne0 r e)
number_one (Err r) (Err s) e = ap (λ z. Err z) (refusal_one r s e)

pub counted_one : (n : ℕ) (x y : Result ℕ Refusal) → number_of x ≡ number_of y → count_after n x ≡ count_after n y → x ≡ y
counted_one n (Ok k) (Ok l) e f = ap (λ z. Ok z) f
counted_one n (Ok _) (Err s) e f = absurd (refused_ne0 s (sym e))
counted_one n (Err r) (Ok _) e f = absurd (refused_ne0 r e)
counted_one n (Err r) (Err s) e f = ap (λ z. Err z) (refusal_one r s e)
