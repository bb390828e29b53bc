-- The loop over the row of the index that was taken: its invariant, one arc more, and how it ends.
-- Assumes nothing.
use mathlib.Core.Path.{◌≡◌, sym, ◌∙◌, subst, transport}
use Rattle.std.specs.Prelude.{Result}
use Rattle.std.specs.Result.{is_err, result_unwrap_or}
use mathlib.Core.Bool.{Bool, true, false, true≢false}
use Prim.Native.Nat.{ℕ, ◌+◌, ◌≤◌, ◌<◌}
use native.Mathlib.Omega.{arith}
use native.Mathlib.Decide.{ℕ_discrete}
use lib.IntN.{ℤ, pos}
use lib.ListN.{get_or}
use Rattle.whole.specs.Zed.{◌⊕◌}
use Rattle.whole.proofs.Cases.{clash}
use Rattle.walks.specs.Walk.{NegativeFrom}
use Rattle.walks.specs.Hist.{Low}
use Rattle.rows.specs.Rows.{Lists}
use Rattle.rows.specs.RowArc.{RowArc}
use Rattle.rows.proofs.Kept.{kept_none, kept_more}
use Rattle.bellman_ford.specs.Search.{Memory, memory_of, KeptMemory, Fit, Label, Calm, Open, Safe, ArcRelaxed, kept, long, stored, to_do, RowDone}
use Rattle.bellman_ford.specs.declared.NegativeLoop.{NegativeLoop}
use Rattle.bellman_ford.proofs.Arc.{kept_open, long_negative, stored_open, stored_lighter, stored_kept}

-- nothing changed, and one change after another
pub memory_none : {m : ℕ} {M : Memory} → KeptMemory m M M
memory_none = record { dist = kept_none; queue = kept_none; queued = kept_none; lengths = kept_none }

pub memory_more : {m : ℕ} {M M' M'' : Memory} → KeptMemory m M M' → KeptMemory m M' M'' → KeptMemory m M M''
memory_more a b = record { dist = kept_more a.dist b.dist; queue = kept_more a.queue b.queue; queued = kept_more a.queued b.queued; lengths = kept_more a.lengths b.lengths }

-- the loop's invariant
pub record Row (m p s : ℕ) (nb : Lists ℤ) (u : ℕ) (d : ℤ) (k i h n₀ n : ℕ) (M₀ M : Memory) : Type 0 where
  pub state : Open m p s nb u d k i h n M
  pub lighter : to_do M n ≤ to_do M₀ n₀
  pub rest : KeptMemory m M₀ M

-- (the loop holds the label as the machine's number e)
pub row_first : {m p s : ℕ} {nb : Lists ℤ} {u k i h n : ℕ} {d e : ℤ} {M : Memory} → e ≡ d → Open m p s nb u d k i h n M → Row m p s nb u e k i h n n M M
row_first {m} {p} {s} {nb} {u} {k} {i} {h} {n} {d} {e} {M} q o = subst (λ (x : ℤ). Row m p s nb u x k i h n n M M) (sym q) (record { state = o; lighter = omega arith; rest = memory_none })

-- the head and the cost as the machine hands them over, and what came back, which is x
pub safe_at : {m k v v' h n : ℕ} {d c c' : ℤ} {M : Memory} → v' ≡ v → c' ≡ c → Safe m d k v c h n M → Safe m d k v' c' h n M
safe_at q e w = rw (q, e) w

pub relaxed_at : {m p k v v' h n : ℕ} {d c c' : ℤ} {M M' : Memory} {r x : Result ℕ NegativeLoop} → v' ≡ v → c' ≡ c → r ≡ x
    → ArcRelaxed m p d k v' c' h n M M' (is_err r) (result_unwrap_or r 0) → ArcRelaxed m p d k v c h n M M' (is_err x) (result_unwrap_or x 0)
relaxed_at {m} {p} {k} {h = h} {n} {d} {M = M} {M' = M'} q e f w =
    transport (λ i. ArcRelaxed m p d k (q i) (e i) h n M M' (is_err (f i)) (result_unwrap_or (f i) 0)) w

-- a row looked through
open_end : {m p s : ℕ} {nb : Lists ℤ} {u k i h n : ℕ} {d : ℤ} {M : Memory} → Open m p s nb u d k i h n M → get_or nb.offsets (u + 1) 0 ≤ i → Calm m p s nb h n M
open_end {m} {nb} {u} {i} {d} {M} o end = record { held = o.held; relaxed = λ x v e c q a r. go x v e c q a r (ℕ_discrete x u) }
  where
    go : (x v : ℕ) (e c : ℤ) → get_or M.queued x 0 ≡ 0 → Label m M.dist x e → RowArc m nb x v c → Dec (x ≡ u) → Low (Label m M.dist) v (e ⊕ c)
    go x v e c q a r (yes z) =
        let g : Label m M.dist u d = o.mine (subst (λ (y : ℕ). get_or M.queued y 0 ≡ 0) z q) in
        let b : get_or M.dist u (pos 0) ≡ e = subst (λ (y : ℕ). get_or M.dist y (pos 0) ≡ e) z a.1 in
        let f : d ≡ e = sym g.1 ∙ b in
        let lo : get_or nb.offsets u 0 ≤ r.at = subst (λ (y : ℕ). get_or nb.offsets y 0 ≤ r.at) z r.from in
        let hi : r.at < get_or nb.offsets (u + 1) 0 = subst (λ (y : ℕ). r.at < get_or nb.offsets (y + 1) 0) z r.to in
        rw (← f, ← r.head, ← (r.cost (pos 0))) (o.done r.at lo (omega arith))
    go x v e c q a r (no f) = o.others x v e c f q a r

module _ {m p s : ℕ} {nb : Lists ℤ} (fit : Fit m p s nb) {u k i h n₀ n : ℕ} {d : ℤ} {M₀ M : Memory} (r : Row m p s nb u d k i h n₀ n M₀ M) where
  module _ (here : i < get_or nb.offsets (u + 1) 0) {n' : ℕ} {M' : Memory} {t : Bool} where
    -- one arc more
    pub row_next : ArcRelaxed m p d k (get_or nb.heads i 0) (get_or nb.weights i (pos 0)) h n M M' t n' → t ≡ false → Row m p s nb u d k (i + 1) h n₀ n' M₀ M'
    row_next (kept b f e a) z = rw (e, a) (record { state = kept_open fit r.state here b; lighter = r.lighter; rest = r.rest })
    row_next (long b e f a) z = absurd (clash f z)
    row_next (stored b e f x y w) z =
        subst (λ (X : Memory). Row m p s nb u d k (i + 1) h n₀ n' M₀ X) (λ j. memory_of (sym x j) M'.queue M'.queued (sym y j))
        (record {
          state = stored_open fit r.state here b e w;
          lighter = omega (arith, r.lighter, stored_lighter fit r.state here b e w);
          rest = memory_more r.rest (stored_kept fit r.state here b e w);
        })

    -- a path too long
    row_long : ArcRelaxed m p d k (get_or nb.heads i 0) (get_or nb.weights i (pos 0)) h n M M' t n' → t ≡ true → NegativeFrom (RowArc m nb) s × KeptMemory m M₀ M'
    row_long (kept b f e a) z = absurd (clash z f)
    row_long (long b e f a) z = (long_negative fit r.state here b e, rw a r.rest)
    row_long (stored b e f x y w) z = absurd (clash z f)

    pub row_stops : {b : Bool} {n'' : ℕ} → ArcRelaxed m p d k (get_or nb.heads i 0) (get_or nb.weights i (pos 0)) h n M M' t n' → t ≡ true → b ≡ true → RowDone m p s nb h n₀ M₀ M' b n''
    row_stops w z y = let x = row_long w z in record { yes = λ e. x.0; no = λ e. absurd (clash y e); lighter = λ e. absurd (clash y e); rest = x.1 }

  pub row_ends : get_or nb.offsets (u + 1) 0 ≤ i → RowDone m p s nb h n₀ M₀ M false n
  row_ends end = record { yes = λ e. absurd (true≢false (sym e)); no = λ e. open_end r.state end; lighter = λ e. r.lighter; rest = r.rest }
