-- The exact case: where every cost is a whole number below 2 ^ 31, converted, the f64 search without a cutoff goes as `dijkstra` does, on at most 1024 indices.
-- There are no more takes than indices (Once). A distance after j takes is at most j * 2 ^ 31, so every sum fits 53 bits and none is rounded: the two searches
-- correspond (Like).
use mathlib.Core.Path.{◌≡◌, refl, sym, ap, ◌∙◌}
use mathlib.Core.Bool.{Bool, true, false}
use mathlib.Core.List.{List}
use mathlib.Core.Option.{none}
use Prim.Native.Nat.{ℕ, suc, ◌+◌, ◌*◌, ◌^◌, ◌≤◌, zero-le}
use native.Mathlib.Omega.{arith}
use lib.Dec.{eqb}
use lib.ListN.{length}
use lib.IntN.{ℤ, pos, ◌+ℤ◌}
use lib.Signed.{lt_z}
use lib.Ieee.{binary64}
use Rattle.float.specs.Dist.{zero64, lt64, plus64}
use Rattle.float.specs.Cost.{bad_cost}
use Rattle.float.specs.Whole.{bits_of}
use Rattle.float.specs.Cutoff.{past}
use Rattle.std.specs.Prelude.{None}
use Rattle.float.proofs.Dist.{ltb_no}
use Rattle.float.proofs.Whole.{whole_lt64, whole_plus, whole_good, zero_is}
use Rattle.float.proofs.Past.{past_none}
use Rattle.bag.specs.Order.{pick}
use Rattle.walks.specs.Pigeon.{In}
use Rattle.pending.specs.Setting.{End, ArcOf}
use Rattle.pending.specs.OnePlace.{out, has, begin, Ends}
use Rattle.pending.specs.Ints.{dijkstra}
use Rattle.pending.specs.Floats.{search64}
use Rattle.pending.proofs.One.{begin_ok}
use Rattle.pending.proofs.Once.{begin_once, begin_within, takes_few}
use Rattle.pending.proofs.Like.{Alike, a_out, a_has, AlikeEnd, ends_alike}
use Rattle.pending.proofs.Ints.{whole_laws, whole_grows}
use Rattle.pending.proofs.Floats.{laws64}
use Rattle.pending.proofs.Cutoff64.{Ends64}

-- a whole cost, and its pattern when it is converted
pub record WholeCost (w : ℤ) (b : ℕ) : Type 0 where
  pub size : ℕ
  pub is : w ≡ pos size
  pub small : size ≤ 2 ^ 31
  pub bits : b ≡ bits_of size

-- a whole distance after at most j takes, and the pattern of the f64 that is the same number
pub record WholeDist (j : ℕ) (z : ℤ) (x : ℕ) : Type 0 where
  pub size : ℕ
  pub is : z ≡ pos size
  pub small : size ≤ j * 2 ^ 31
  pub value : x ≡ bits_of size

-- at most j takes are at most j + 1
wider : (j : ℕ) (z : ℤ) (x : ℕ) → WholeDist j z x → WholeDist (suc j) z x
wider j z x r = record { size = r.size; is = r.is; small = grow r.size r.small; value = r.value }
  where
    grow : (n : ℕ) → n ≤ j * 2 ^ 31 → n ≤ suc j * 2 ^ 31
    grow n h = omega arith

-- such sizes fit 53 bits
fits53 : (j n : ℕ) → j ≤ 1024 → n ≤ j * 2 ^ 31 → n ≤ 2 ^ 53
fits53 j n a b = omega arith

-- they compare alike
same_lt : (j : ℕ) (a : ℤ) (x : ℕ) (b : ℤ) (y : ℕ) → j ≤ 1024 → WholeDist j a x → WholeDist j b y → lt_z a b ≡ lt64 x y
same_lt j a x b y o r q =
    ap (λ (z : ℤ). lt_z z b) r.is ∙ ap (λ (z : ℤ). lt_z (pos r.size) z) q.is
    ∙ sym (whole_lt64 r.size q.size (fits53 j r.size o r.small) (fits53 j q.size o q.small))
    ∙ ap (λ (z : ℕ). lt64 z (bits_of q.size)) (sym r.value) ∙ ap (lt64 x) (sym q.value)

-- a sum is exact
same_plus : (j : ℕ) (d : ℤ) (x : ℕ) (w : ℤ) (b : ℕ) → suc j ≤ 1024 → WholeDist j d x → WholeCost w b → WholeDist (suc j) (d +ℤ w) (plus64 x b)
same_plus j d x w b o r q =
    let m = r.size in
    let k = q.size in
    let all : m + k ≤ suc j * 2 ^ 31 = add_up m k r.small q.small in
    record {
      size = m + k;
      is = ap (λ (z : ℤ). z +ℤ w) r.is ∙ ap (λ (z : ℤ). pos m +ℤ z) q.is;
      small = all;
      value = ap (λ (z : ℕ). plus64 z b) r.value ∙ ap (plus64 (bits_of m)) q.bits ∙ whole_plus m k (fits53 (suc j) (m + k) o all);
    }
  where
    add_up : (m k : ℕ) → m ≤ j * 2 ^ 31 → k ≤ 2 ^ 31 → m + k ≤ suc j * 2 ^ 31
    add_up m k a b = omega arith

-- neither cost is bad
same_bad : (w : ℤ) (b : ℕ) → WholeCost w b → lt_z w (pos 0) ≡ bad_cost binary64 b
same_bad w b q = ap (λ (z : ℤ). lt_z z (pos 0)) q.is ∙ sym (ltb_no q.size 0 zero-le) ∙ sym (ap (bad_cost binary64) q.bits ∙ whole_good q.size)

-- the same arcs, with whole costs converted: the two searches take the same indices, and end with the same distances as numbers and the same predecessors
pub exact : (Arc : ℕ → ℕ → ℤ → Type 0) (arcs : ℕ → List (ℕ × ℕ))
    → ((u v : ℕ) (c : ℤ) → Arc u v c → (b : ℕ) × ArcOf arcs u v b × WholeCost c b) → ((u v b : ℕ) → ArcOf arcs u v b → (c : ℤ) × Arc u v c × WholeCost c b)
    → (o : ℕ) (ps : List ℕ) → In o ps → ((u v : ℕ) (c : ℤ) → Arc u v c → In v ps) → length ps ≤ 1024
    → (e : End ℤ) → Ends (dijkstra o) Arc (begin (dijkstra o)) 0 e → (f : End ℕ) × Ends64 (ArcOf arcs) None o f × AlikeEnd WholeDist e f
exact Arc arcs to from o ps i heads few e r =
    ends_alike (dijkstra o) (search64 (past None) none o) (laws64 (past None) none o) WholeDist WholeCost 1024 wider same_lt (λ j a x v n k. k) same_plus (λ j a x n k. sym (past_none x)) same_bad refl
    Arc arcs to from
    (begin_ok (search64 (past None) none o) (laws64 (past None) none o)) start r bound
  where
    bound : e.takes ≤ 1024
    bound =
        omega (
          arith,
          takes_few (dijkstra o) (whole_laws (λ d v. d) none o) (λ d v. refl) (λ d c x. whole_grows d c) Arc ps i heads
              (begin_within (dijkstra o) Arc ps i heads) (begin_once (dijkstra o) (whole_laws (λ d v. d) none o) (λ d v. refl) (λ d c x. whole_grows d c) Arc) r,
        )

    start : (v : ℕ) → Alike WholeDist 0 (begin (dijkstra o) v) (begin (search64 (past None) none o) v)
    start v = unfold begin in go (eqb v o)
      where
        go : (b : Bool) → Alike WholeDist 0 (pick b (has (pos 0) none true) out) (pick b (has zero64 none true) out)
        go true = a_has (record { size = 0; is = refl; small = zero-le; value = zero_is })
        go false = a_out
