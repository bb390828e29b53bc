-- The promise settles the answer and each buffer, goes by the open arcs alone, and by what the cutoff cuts.
-- The pending bag has one end, which shows in one way in the lent slices; the rest holds of every table of numbers.
-- Maps with the same open arcs, and cutoffs that cut the same distances, have the same end: so NaN and +infinity answer as no cutoff, and -0.0 as 0.0.
-- Assumes nothing.
use mathlib.Core.Path.{◌≡◌, refl, sym, ap, ◌∙◌, subst}
use mathlib.Core.Bool.{false}
use mathlib.Core.List.{List}
use mathlib.Core.Logic.{◌↔◌}
use mathlib.Core.Option.{none}
use Prim.Native.Nat.{ℕ}
use native.Mathlib.Omega.{arith}
use lib.Ieee.{nan, inf, binary64, of_bits}
use Rattle.numbers.specs.Numbers.{At, Given}
use Rattle.numbers.specs.Over.{Over}
use Rattle.numbers.proofs.Numbers.{◌then◌, is_one, follows_one, exactly, given, follows_over}
use Rattle.clean.specs.None.{none_f64, none_u32}
use Rattle.clean.proofs.Filled.{settled_one}
use Rattle.float.specs.Dist.{Dist64, zero64}
use Rattle.float.specs.Cutoff.{Cutoff, past}
use Rattle.std.specs.Prelude.{None}
use Rattle.std.specs.Prelude as Cut
use Rattle.float.proofs.Past.{past_none, past_nan, past_infinity, past_minus}
use Rattle.table.specs.declared.FloatCost.{FloatCost}
use Rattle.net.specs.Net.{Net, OpenArcOf, SameNet}
use Rattle.net.proofs.Same.{same_inside, same_size, same_open}
use Rattle.rows.specs.Rows.{open_rows}
use Rattle.pending.specs.Setting.{End}
use Rattle.pending.specs.Floats.{search64}
use Rattle.pending.proofs.Literal.{literal_one}
use Rattle.pending.proofs.One.{ends_map}
use Rattle.pending.proofs.Cutoff64.{same_cutoff64}
use Rattle.dijkstra_path.specs.Promise.{Buffers, enough, left, blank, EndsIn, Answers, table, Promise}
use Rattle.dijkstra_path.proofs.Literal.{literal_exactly}

-- ---- two answers that the promise allows are equal
-- the pending bag ends in one way
pub one_end : {g : Net FloatCost} {s : ℕ} {k : Cutoff} {x y : End ℕ} → EndsIn g s k x → EndsIn g s k y → x ≡ y
one_end {g} {s} {k} p q = literal_one (search64 (past k) none s) (open_rows g) p.run q.run

-- and shows in one way
pub answers_one : {m : ℕ} {x y : End ℕ} {b e e' : Buffers} → x ≡ y → Answers m x b e → Answers m y b e'
    → (e.memory.dist ≡ e'.memory.dist) × (e.memory.preds ≡ e'.memory.preds)
answers_one {m} {x} {y} {b} {e} {e'} q p p' =
    let r : Answers m y b e = subst (λ (z : End ℕ). Answers m z b e) q p in
    (settled_one none_f64 (λ i h u v a c. a ∙ sym c) r.dist p'.dist, settled_one none_u32 (λ i h u v a c. a ∙ sym c) r.preds p'.preds)

-- one number is not two
pub split : {g : Net FloatCost} {s : ℕ} {k : Cutoff} {x y : End ℕ} → EndsIn g s k x → x.number ≡ 6 → EndsIn g s k y → y.number ≡ 0 → ⊥
split {x = x} {y = y} p a q b = let c : x.number ≡ y.number = ap (λ (z : End ℕ). z.number) (one_end p q) in omega (arith, a, b, c)

module _ {g : Net FloatCost} {s : ℕ} {k : Cutoff} {b : Buffers} where
  -- the number and every buffer: after 0 the answers are those of one end, else the row names the buffers
  pub promise_one : {e e' : Buffers} {number number' : ℕ} → Promise g s k b e number → Promise g s k b e' number' → (number ≡ number') × (e ≡ e')
  promise_one {e} {e'} {number} {number'} p q =
      follows_one (table g s k b) e e' number number' (
      is_one then is_one then is_one then is_one
      then (λ e e' x y. let o = answers_one (one_end x.1 y.1) x.3 y.3 in x.4 ∙ ((λ i. left g b (o.0 i) (o.1 i)) ∙ sym y.4))
      then tt
      ) p.follows q.follows

  module _ {e : Buffers} {number : ℕ} (p : Promise g s k b e number) where
    -- ---- each number exactly when its row is reached, and what is then left
    pub promise_exactly : (n : ℕ) → (number ≡ n) ↔ At n (table g s k b)
    promise_exactly = exactly (table g s k b) e number p.follows

    pub promise_given : (n : ℕ) → number ≡ n → Given n (table g s k b) e
    promise_given = given (table g s k b) e number p.follows

-- ---- the promise goes by the open arcs: the user's demand 3
module _ {g g' : Net FloatCost} (same : SameNet g g') where
  same_enough : (b : Buffers) → enough g b ≡ enough g' b
  same_enough b = rw (same.whole, same.bound, same_size same)

  same_left : (b : Buffers) (d : List ℕ) (p : List ℕ) → left g b d p ≡ left g' b d p
  same_left b d p = rw (same.bound, same_size same)

  same_blank : (b : Buffers) → blank g b ≡ blank g' b
  same_blank b = same_left b _ _ ∙ rw same.bound

  ends_over : {s : ℕ} {k : Cutoff} {x : End ℕ} → EndsIn g s k x → EndsIn g' s k x
  ends_over {s} {k} r =
      literal_exactly.1
      (ends_map (search64 (past k) none s) (OpenArcOf g) (OpenArcOf g') (λ u v c. (same_open same u v c).0) (λ u v c. (same_open same u v c).1) (literal_exactly.0 r))

  ends_back : {s : ℕ} {k : Cutoff} {x : End ℕ} → EndsIn g' s k x → EndsIn g s k x
  ends_back {s} {k} r =
      literal_exactly.1
      (ends_map (search64 (past k) none s) (OpenArcOf g') (OpenArcOf g) (λ u v c. (same_open same u v c).1) (λ u v c. (same_open same u v c).0) (literal_exactly.0 r))

  same_table : (s : ℕ) (k : Cutoff) (b : Buffers) → Over (table g s k b) (table g' s k b)
  same_table s k b =
      (refl, same_enough b, λ e q. q)
      then (refl, same_inside same, λ e q. q)
      then (refl, same.has s, λ e q. q)
      then (refl, (λ x. (x.0, ends_over x.1, x.2), λ x. (x.0, ends_back x.1, x.2)), λ e q. q ∙ same_blank b)
      then (refl, (λ u. u, λ u. u), λ e x. (x.0, ends_over x.1, x.2, subst (λ (m : ℕ). Answers m x.0 b e) same.bound x.3, x.4 ∙ same_left b _ _))
      then tt

  pub promise_arcs : {s : ℕ} {k : Cutoff} {b e : Buffers} {number : ℕ} → Promise g s k b e number → Promise g' s k b e number
  promise_arcs {s} {k} {b} {e} {number} p = record { follows = follows_over (table g s k b) (table g' s k b) e number (same_table s k b) p.follows }

-- ---- cutoffs that cut the same distances
cut_over : (k k' : Cutoff) → ((x : ℕ) → Dist64 x → past k x ≡ past k' x) → {g : Net FloatCost} {s : ℕ} {x : End ℕ} → EndsIn g s k x → EndsIn g s k' x
cut_over k k' alike {g} {s} {x} r = literal_exactly.1 (same_cutoff64 k k' alike s (OpenArcOf g) x (literal_exactly.0 r))

pub promise_cut : (k k' : Cutoff) → ((x : ℕ) → Dist64 x → past k x ≡ past k' x) → {g : Net FloatCost} {s : ℕ} {b e : Buffers} {number : ℕ} → Promise g s k b e number → Promise g s k' b e number
promise_cut k k' alike {g} {s} {b} {e} {number} p = record { follows = follows_over (table g s k b) (table g s k' b) e number same_rows p.follows }
  where
    over : {x : End ℕ} → EndsIn g s k x → EndsIn g s k' x
    over = cut_over k k' alike

    back : {x : End ℕ} → EndsIn g s k' x → EndsIn g s k x
    back = cut_over k' k (λ x d. sym (alike x d))

    same_rows : Over (table g s k b) (table g s k' b)
    same_rows =
        (refl, refl, λ y q. q)
        then (refl, refl, λ y q. q)
        then (refl, refl, λ y q. q)
        then (refl, (λ x. (x.0, over x.1, x.2), λ x. (x.0, back x.1, x.2)), λ y q. q)
        then (refl, (λ u. u, λ u. u), λ y x. (x.0, over x.1, x.2, x.3, x.4))
        then tt

-- a NaN cuts nothing, nor does +infinity: both answer as no cutoff
pub cutoff_nan : {g : Net FloatCost} {s : ℕ} {b e : Buffers} {number : ℕ} → Promise g s (Cut.Some nan) b e number ↔ Promise g s None b e number
cutoff_nan = (promise_cut (Cut.Some nan) None (λ x p. past_nan x ∙ sym (past_none x)), promise_cut None (Cut.Some nan) (λ x p. past_none x ∙ sym (past_nan x)))

pub cutoff_infinity : {g : Net FloatCost} {s : ℕ} {b e : Buffers} {number : ℕ} → Promise g s (Cut.Some (inf false)) b e number ↔ Promise g s None b e number
cutoff_infinity = (promise_cut (Cut.Some (inf false)) None (λ x p. past_infinity x ∙ sym (past_none x)), promise_cut None (Cut.Some (inf false)) (λ x p. past_none x ∙ sym (past_infinity x)))

-- -0.0 acts as 0.0
pub cutoff_minus : {g : Net FloatCost} {s : ℕ} {b e : Buffers} {number : ℕ} → Promise g s (Cut.Some (of_bits binary64 0x8000_0000_0000_0000)) b e number
    ↔ Promise g s (Cut.Some (of_bits binary64 zero64)) b e number
cutoff_minus = (
  promise_cut (Cut.Some (of_bits binary64 0x8000_0000_0000_0000)) (Cut.Some (of_bits binary64 zero64)) (λ x p. past_minus x p),
  promise_cut (Cut.Some (of_bits binary64 zero64)) (Cut.Some (of_bits binary64 0x8000_0000_0000_0000)) (λ x p. sym (past_minus x p)),
)
