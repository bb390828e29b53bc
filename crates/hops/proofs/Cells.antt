-- The rows of the matrix: one row, all rows.
-- Assumes nothing.
use mathlib.Core.Path.{◌≡◌, sym, ap, ◌∙◌, subst}
use mathlib.Core.List.{List}
use mathlib.Core.Logic.{inl, inr}
use Prim.Native.Nat.{ℕ, ◌+◌, ◌*◌, ◌<◌}
use native.Mathlib.Omega.{arith}
use native.Mathlib.Decide.{ℕ_discrete}
use lib.ListN.{length, get_or, drop}
use Rattle.clean.specs.Fill.{filled}
use Rattle.clean.proofs.Filled.{filled_length, filled_at, filled_rest}
use Rattle.matrix.proofs.Matrix.{row_before}
use Rattle.hops.specs.Steps.{Entry}
use Rattle.hops.specs.Search.{Fresh, Searched, RowShown, CanRow, RowMade, CanFill, Filled}

-- ---- one row
module _ {m p s at : ℕ} {ns l q mat : List ℕ} (can : CanRow m p s at ns l q mat) {l₁ : List ℕ} (wiped : l₁ ≡ filled m 0 l) where
  long_wiped : length l₁ ≡ length l
  long_wiped = ap length wiped ∙ filled_length m 0 l can.room_l

  pub fresh : Fresh m s l₁ q
  fresh = record { source = can.source; room_l = omega (arith, long_wiped, can.room_l); room_q = can.room_q; zeros = λ v h. ap (λ (x : List ℕ). get_or x v 0) wiped ∙ filled_at m 0 0 l v h }

  module _ {E : ℕ → ℕ → Type 0} {l₂ q₂ : List ℕ} (done : Searched m s E l₁ q l₂ q₂) where
    pub row_made : {mat₂ : List ℕ} → RowShown p at ns l₂ mat mat₂ → RowMade m p s at E ns l q mat l₂ q₂ mat₂
    row_made r = record {
      rest = record { long_l = done.rest.long_l ∙ long_wiped; long_q = done.rest.long_q; labels = done.rest.labels ∙ (ap (drop m) wiped ∙ filled_rest m 0 l); queue = done.rest.queue };
      long = r.long;
      entry = λ j h. subst (λ (x : ℕ). Entry E s (get_or ns j 0) x) (sym (r.shown j h)) (done.each _ (can.each j h));
      other = r.other;
    }

-- ---- all rows
module _ {m p : ℕ} {E : ℕ → ℕ → Type 0} {ns l q mat : List ℕ} where
  module _ (can : CanFill m p ns l q mat) {i : ℕ} {l₁ q₁ mat₁ : List ℕ} (f : Filled m p i E ns l q mat l₁ q₁ mat₁) (h : i < p) where
    pub filled_next : {l₂ q₂ mat₂ : List ℕ} → RowMade m p (get_or ns i 0) (i * p) E ns l₁ q₁ mat₁ l₂ q₂ mat₂ → Filled m p (i + 1) E ns l q mat l₂ q₂ mat₂
    filled_next {l₂} {q₂} {mat₂} r = record {
      rest = record { long_l = r.rest.long_l ∙ f.rest.long_l; long_q = r.rest.long_q ∙ f.rest.long_q; labels = r.rest.labels ∙ f.rest.labels; queue = r.rest.queue ∙ f.rest.queue };
      long = r.long ∙ f.long;
      entry = λ a b x y. go a b x y (ℕ_discrete a i);
      other = λ x k. r.other x (inr (omega arith)) ∙ f.other x (omega arith);
    }
      where
        go : (a b : ℕ) → a < i + 1 → b < p → Dec (a ≡ i) → Entry E (get_or ns a 0) (get_or ns b 0) (get_or mat₂ (a * p + b) 0)
        go a b x y (yes e) = subst (λ (z : ℕ). Entry E (get_or ns z 0) (get_or ns b 0) (get_or mat₂ (z * p + b) 0)) (sym e) (r.entry b y)
        go a b x y (no n) =
            let k : a < i = omega (arith, n) in subst (λ (z : ℕ). Entry E (get_or ns a 0) (get_or ns b 0) z) (sym (r.other (a * p + b) (inl (row_before p a i b k y)))) (f.entry a b k y)
