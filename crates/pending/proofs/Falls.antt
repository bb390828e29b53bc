-- A search over whole numbers ends, by whatever rule for the key and with or without a target.
-- Each turn gives an index its first distance, or lowers a distance, or takes a pending index out: so fewer indices are without a distance, or as many and the
-- distances, doubled, and the number of pending indices, together, are less. An index with a distance keeps one, and distances are not below zero.
use mathlib.Core.Path.{◌≡◌, refl, sym, ap, ◌∙◌, subst}
use mathlib.Core.Bool.{Bool, true, false}
use mathlib.Core.Logic.{◌⊎◌, inl, inr}
use mathlib.Core.List.{List, [], ◌∷◌}
use mathlib.Core.Option.{Option, some}
use Prim.Native.Nat.{ℕ, suc, ◌+◌, ◌*◌, ◌<◌, ◌≤◌}
use native.Mathlib.Omega.{arith}
use lib.IntN.{ℤ, pos, negsuc}
use lib.Signed.{◌≤ℤ◌, ◌<ℤ◌}
use Rattle.whole.specs.Zed.{◌⊕◌, P, N, zed, sum}
use Rattle.walks.specs.Pigeon.{In, here, there}
use Rattle.pending.specs.Setting.{upd, End, ArcOf}
use Rattle.pending.specs.Literal as Lit
use Rattle.pending.specs.Literal.{better}
use Rattle.pending.specs.OnePlace.{Cell, out, has, dist_of, begin, NewCell, stays, stores, Next, Ends}
use Rattle.pending.specs.Ints.{whole}
use Rattle.pending.proofs.Ints.{whole_laws}
use Rattle.pending.proofs.Cells.{upd_cases}
use Rattle.pending.proofs.Total.{search_ends}
use Rattle.pending.proofs.Once.{Within, begin_within, next_within}
use Rattle.pending.proofs.Whole.{Inv, begin_inv, next_inv, less, d_up, c_up}

-- 1 without a distance
abbrev pub without : Cell ℤ → ℕ
without out = 1
without (has d p b) = 0

-- twice the distance, and 1 more while pending
abbrev pub weight : Cell ℤ → ℕ
weight out = 0
weight (has d p true) = suc (2 * P d)
weight (has d p false) = 2 * P d

-- over the indices of a list
abbrev pub over : (Cell ℤ → ℕ) → (ℕ → Cell ℤ) → List ℕ → ℕ
over f s [] = 0
over f s (v ∷ l) = f (s v) + over f s l

-- a number not below zero has no negative part
pub nonneg : (z : ℤ) → pos 0 ≤ℤ z → N z ≡ 0
nonneg (pos n) h = refl
nonneg (negsuc n) h = absurd (omega (arith, zed))

-- the first falls, or it stays and the second does not rise
abbrev pub Lower : ℕ → ℕ → ℕ → ℕ → Type 0
Lower a b x y = (a < b) ⊎ ((a ≡ b) × (x ≤ y))

-- the same, where the second falls if the first stays
abbrev pub Less : ℕ → ℕ → ℕ → ℕ → Type 0
Less a b x y = (a < b) ⊎ ((a ≡ b) × (x < y))

-- falling is not rising
soft : {a b x y : ℕ} → Less a b x y → Lower a b x y
soft (inl i) = inl i
soft (inr i) = inr (i.0, let k = i.1 in omega arith)

-- two such, added
both : {a b x y a' b' x' y' : ℕ} → Lower a b x y → Lower a' b' x' y' → Lower (a + a') (b + b') (x + x') (y + y')
both (inl i) (inl j) = inl (omega arith)
both (inl i) (inr j) = let k = j.0 in inl (omega arith)
both (inr i) (inl j) = let k = i.0 in inl (omega arith)
both (inr i) (inr j) = let k = i.0 in let l = i.1 in let m = j.0 in let n = j.1 in inr (omega arith, omega arith)

-- the first of two falls
both_less : {a b x y a' b' x' y' : ℕ} → Less a b x y → Lower a' b' x' y' → Less (a + a') (b + b') (x + x') (y + y')
both_less (inl i) (inl j) = inl (omega arith)
both_less (inl i) (inr j) = let k = j.0 in inl (omega arith)
both_less (inr i) (inl j) = let k = i.0 in inl (omega arith)
both_less (inr i) (inr j) = let k = i.0 in let l = i.1 in let m = j.0 in let n = j.1 in inr (omega arith, omega arith)

-- the second of two falls
less_both : {a b x y a' b' x' y' : ℕ} → Lower a b x y → Less a' b' x' y' → Less (a + a') (b + b') (x + x') (y + y')
less_both (inl i) (inl j) = inl (omega arith)
less_both (inl i) (inr j) = let k = j.0 in inl (omega arith)
less_both (inr i) (inl j) = let k = i.0 in inl (omega arith)
less_both (inr i) (inr j) = let k = i.0 in let l = i.1 in let m = j.0 in let n = j.1 in inr (omega arith, omega arith)

module _ (key : ℤ → ℕ → ℤ) (target : Option ℕ) (o : ℕ) (Arc : ℕ → ℕ → ℤ → Type 0) {s t : ℕ → Cell ℤ} (h : Inv key target o Arc s) (w : Next (whole key target o) Arc s t) where
  -- a store
  stored : (v : ℕ) (c : ℤ) → Arc w.u v c → better (whole key target o) (w.d ⊕ c) (dist_of (upd s w.u (has w.d w.p false) v)) ≡ true → t v ≡ has (w.d ⊕ c) (some w.u) true
      → (z : Cell ℤ) → s v ≡ z → Less (without (t v)) (without z) (weight (t v)) (weight z)
  stored v c a b e out i = inl (subst (λ (x : Cell ℤ). without x < 1) (sym e) (omega arith))
  stored v c a b e (has x q f) i = subst (λ (y : Cell ℤ). Less (without y) 0 (weight y) (weight (has x q f))) (sym e) (inr (refl, by f))
    where
      falls : P (w.d ⊕ c) < P x
      falls =
          let g : w.d ⊕ c <ℤ x = less key target o Arc h w v (w.d ⊕ c) x q b (record { flag = f; is = i }) in
          let d0 : pos 0 ≤ℤ w.d = d_up key target o Arc h w in
          let c0 : pos 0 ≤ℤ c = c_up key target o Arc h w v c a in
          let n0 : pos 0 ≤ℤ w.d ⊕ c = omega (arith, zed, sum w.d c) in
          omega (arith, zed, nonneg (w.d ⊕ c) n0)

      by : (f : Bool) → suc (2 * P (w.d ⊕ c)) < weight (has x q f)
      by true = omega (arith, falls)
      by false = omega (arith, falls)

  -- one index
  pub at_one : (v : ℕ) → Lower (without (t v)) (without (s v)) (weight (t v)) (weight (s v))
  at_one v = go (w.turned v)
    where
      old : ((v ≡ w.u) × (has w.d w.p false ≡ t v)) ⊎ ((v ≡ w.u → ⊥) × (s v ≡ t v)) → Lower (without (t v)) (without (s v)) (weight (t v)) (weight (s v))
      old (inl i) =
          subst (λ (y : Cell ℤ). Lower (without y) (without (s v)) (weight y) (weight (s v))) i.1
          (subst (λ (y : Cell ℤ). Lower 0 (without y) (2 * P w.d) (weight y)) (sym (ap s i.0 ∙ w.taken.held)) (inr (refl, omega arith)))
      old (inr i) = subst (λ (y : Cell ℤ). Lower (without y) (without (s v)) (weight y) (weight (s v))) i.1 (inr (refl, omega arith))

      go : NewCell (whole key target o) (Arc w.u v) w.u w.d (upd s w.u (has w.d w.p false) v) (t v) → Lower (without (t v)) (without (s v)) (weight (t v)) (weight (s v))
      go (stays f e) = old (upd_cases s w.u (has w.d w.p false) v (t v) (sym e))
      go (stores c a k b m e) = soft (stored v c a b e (s v) refl)

  -- the index taken
  pub at_own : Less (without (t w.u)) (without (s w.u)) (weight (t w.u)) (weight (s w.u))
  at_own = go (w.turned w.u)
    where
      old : ((w.u ≡ w.u) × (has w.d w.p false ≡ t w.u)) ⊎ ((w.u ≡ w.u → ⊥) × (s w.u ≡ t w.u))
          → Less (without (t w.u)) (without (s w.u)) (weight (t w.u)) (weight (s w.u))
      old (inl i) =
          subst (λ (y : Cell ℤ). Less (without y) (without (s w.u)) (weight y) (weight (s w.u))) i.1
          (subst (λ (y : Cell ℤ). Less 0 (without y) (2 * P w.d) (weight y)) (sym w.taken.held) (inr (refl, omega arith)))
      old (inr i) = absurd (i.0 refl)

      go : NewCell (whole key target o) (Arc w.u w.u) w.u w.d (upd s w.u (has w.d w.p false) w.u) (t w.u)
          → Less (without (t w.u)) (without (s w.u)) (weight (t w.u)) (weight (s w.u))
      go (stays f e) = old (upd_cases s w.u (has w.d w.p false) w.u (t w.u) (sym e))
      go (stores c a k b m e) = stored w.u c a b e (s w.u) refl

  -- over a list
  all_lower : (l : List ℕ) → Lower (over without t l) (over without s l) (over weight t l) (over weight s l)
  all_lower [] = inr (refl, omega arith)
  all_lower (v ∷ l) = both (at_one v) (all_lower l)

  -- a turn makes fewer indices without a distance, or as many and less weight
  pub turn_falls : (l : List ℕ) → In w.u l → Less (over without t l) (over without s l) (over weight t l) (over weight s l)
  turn_falls (v ∷ l) (here e) = both_less (subst (λ (x : ℕ). Less (without (t x)) (without (s x)) (weight (t x)) (weight (s x))) e at_own) (all_lower l)
  turn_falls (v ∷ l) (there i) = less_both (at_one v) (turn_falls l i)
  turn_falls [] x' = elim x' [ ]

-- it ends
pub whole_ends : (key : ℤ → ℕ → ℤ) (target : Option ℕ) (o : ℕ) (arcs : ℕ → List (ℕ × ℤ)) (ps : List ℕ) → In o ps → ((u v : ℕ) (c : ℤ) → ArcOf arcs u v c → In v ps)
    → (e : End ℤ) × Lit.Ends (whole key target o) arcs (Lit.start (whole key target o)) e × Ends (whole key target o) (ArcOf arcs) (begin (whole key target o)) 0 e
whole_ends key target o arcs ps source_in heads_in =
    search_ends (whole key target o) (whole_laws key target o) arcs (λ s n. Inv key target o (ArcOf arcs) s × Within ps s) (λ s n. over without s ps) (λ s n. over weight s ps) falls
    (begin_inv key target o (ArcOf arcs), begin_within (whole key target o) (ArcOf arcs) ps source_in heads_in)
  where
    order : {a b x y : ℕ} → Less a b x y → (a < b) ⊎ ((a ≤ b) × (x < y))
    order (inl i) = inl i
    order (inr i) = let k = i.0 in inr (omega arith, i.1)

    falls : (s t : ℕ → Cell ℤ) (n : ℕ) → Inv key target o (ArcOf arcs) s × Within ps s → Next (whole key target o) (ArcOf arcs) s t
        → (Inv key target o (ArcOf arcs) t × Within ps t) × ((over without t ps < over without s ps) ⊎ ((over without t ps ≤ over without s ps) × (over weight t ps < over weight s ps)))
    falls s t n i w = (
      (next_inv key target o (ArcOf arcs) i.0 w, next_within (whole key target o) (ArcOf arcs) ps source_in heads_in i.1 w),
      order (turn_falls key target o (ArcOf arcs) i.0 w ps (i.1 w.u w.d w.p true w.taken.held)),
    )
