-- The contract of `find_link` settles the place, and where a record goes tells what was given.
-- Assumes nothing.
use mathlib.Core.Path.{◌≡◌}
use mathlib.Core.Bool.{Bool}
use mathlib.Core.List.{List}
use Prim.Native.Nat.{ℕ, ◌<◌}
use native.Mathlib.Omega.{arith}
use native.Mathlib.Decide.{dec_lt}
use Rattle.whole.proofs.Cases.{clash}
use Rattle.std.proofs.Common.{ap, sym, refl}
use Rattle.std.specs.Prelude.{Option, None, Some, Result, Ok, Err, false}
use Rattle.numbers.specs.declared.Refusal.{Refusal}
use Rattle.numbers.proofs.Refused.{refused_ne0, refusal_one}
use Rattle.table.specs.declared.Place as code
use Rattle.table.specs.Links.{FirstPlace, Found, Place}
use Rattle.table.specs.Placed.{place_in}

-- a first place is not past another
not_past : {d : Bool} {u v n r s : ℕ} {xs ys : List ℕ} → FirstPlace d u v n xs ys r → FirstPlace d u v n xs ys s → r < s → ⊥
not_past {r = r} p q h = clash (p.found (omega (arith, h, q.within))) (q.before r h)

pub first_place_one : {d : Bool} {u v n r s : ℕ} {xs ys : List ℕ} → FirstPlace d u v n xs ys r → FirstPlace d u v n xs ys s → r ≡ s
first_place_one {r = r} {s = s} p q = by (dec_lt r s) (dec_lt s r)
  where
    by : Dec (r < s) → Dec (s < r) → r ≡ s
    by (yes h) k = absurd (not_past p q h)
    by (no h) (yes k) = absurd (not_past q p k)
    by (no h) (no k) = omega (arith, h, k)

pub found_one : (d : Bool) (u v n : ℕ) (r s : Option ℕ) (xs ys : List ℕ) → Found d u v n xs ys r → Found d u v n xs ys s → r ≡ s
found_one d u v n None None xs ys p q = refl
found_one d u v n None (Some k) xs ys p q = let e = first_place_one p q.1 in absurd (omega (arith, e, q.0))
found_one d u v n (Some k) None xs ys p q = let e = first_place_one p.1 q in absurd (omega (arith, e, p.0))
found_one d u v n (Some k) (Some l) xs ys p q = ap (λ z. Some z) (first_place_one p.1 q.1)

pub place_one : (n : ℕ) (x y : Result code.Place Refusal) → place_in n x ≡ place_in n y → x ≡ y
place_one n (Ok p) (Ok q) e = ap (λ (z : Place). Ok (record { count = z.count; slot = z.slot; fresh = z.fresh })) e
place_one n (Ok p) (Err r) e = absurd (refused_ne0 r (sym (ap (λ (z : Place). z.number) e)))
place_one n (Err r) (Ok q) e = absurd (refused_ne0 r (ap (λ (z : Place). z.number) e))
place_one n (Err r) (Err s) e = ap (λ z. Err z) (refusal_one r s (ap (λ (z : Place). z.number) e))
