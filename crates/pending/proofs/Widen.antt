-- A wider cutoff keeps what a narrower one gave: every distance and predecessor of the narrower search is the wider one's. Over any kind of key.
-- Beside each other, at each index both have the same, or the narrow one has nothing and the wide one's distance is past the narrow cutoff. A turn of the wide search
-- at a distance past the narrow cutoff stores only such distances, as totals do not fall; any other turn is a turn of both, and a total that only the wide one
-- stores is past the narrow cutoff.
use mathlib.Core.Path.{◌≡◌, refl, sym, ap, ◌∙◌, subst}
use mathlib.Core.Bool.{Bool, true, false, true≢false}
use mathlib.Core.Logic.{◌⊎◌, inl, inr}
use mathlib.Core.List.{List}
use mathlib.Core.Option.{Option, none, some}
use Prim.Native.Nat.{ℕ, suc}
use native.Mathlib.Omega.{arith}
use lib.Dec.{eqb}
use borrow.Author.Tests.{eqb-true}
use Rattle.whole.proofs.Cases.{clash}
use Rattle.bag.specs.Order.{pick}
use Rattle.pending.specs.Setting.{upd, Setting, End, ArcOf}
use Rattle.pending.specs.Literal.{better}
use Rattle.pending.specs.OnePlace.{Cell, out, has, dist_of, pred_of, done_at, begin, NewCell, stays, stores, Turned, Next, Ends, empty, found, wrong, more}
use Rattle.pending.specs.Laws.{Laws, OkCell}
use Rattle.pending.proofs.Cells.{upd_all, not_out}
use Rattle.pending.proofs.Row.{row_cells, row_turned}

-- the search with another test for what is past the cutoff, and no target
abbrev pub cut_by : {K C : Type 0} → Setting K C → (K → Bool) → Setting K C
cut_by S f = record { lt = S.lt; zero = S.zero; plus = S.plus; key = S.key; bad = S.bad; cut = f; target = none; source = S.source }

-- the laws say nothing of the cutoff
pub cut_laws : {K C : Type 0} {S : Setting K C} {ok : K → Type 0} (f : K → Bool) → Laws S ok → Laws (cut_by S f) ok
cut_laws f L = record { order = L.order; zero_ok = L.zero_ok; plus_ok = L.plus_ok; key_ok = L.key_ok }

module _ {K C : Type 0} (S : Setting K C) {ok : K → Type 0} (L : Laws S ok) (grows : (d : K) (c : C) → ok d → S.bad c ≡ false → S.lt (S.plus d c) d ≡ false)
    (narrow wide : K → Bool)
    (up : (x y : K) → ok x → ok y → S.lt y x ≡ false → narrow x ≡ true → narrow y ≡ true)
    (wider : (x : K) → ok x → wide x ≡ true → narrow x ≡ true) where
  -- nothing past the narrow cutoff is below x
  abbrev pub Firm : K → Type 0
  Firm x = (n : K) → ok n → narrow n ≡ true → S.lt n x ≡ false

  -- what the narrow search has at an index, and the wide one: the same, or nothing where the wide one's distance is past the narrow cutoff
  pub data Kept : Cell K → Cell K → Type 0 where
    k_out : Kept out out
    k_same : {x : K} {q : Option ℕ} {m : Bool} → ok x → Firm x → Kept (has x q m) (has x q m)
    k_past : {x : K} {q : Option ℕ} {m : Bool} → ok x → narrow x ≡ true → Kept out (has x q m)

  -- not past, and past: below
  less : (n x : K) → ok n → ok x → narrow n ≡ false → narrow x ≡ true → S.lt n x ≡ true
  less n x a b p q = go (S.lt n x) refl
    where
      go : (t : Bool) → S.lt n x ≡ t → S.lt n x ≡ true
      go true e = e
      go false e = absurd (clash (up x n b a e q) p)

  -- what is not past the narrow cutoff is firm
  firm : (x : K) → ok x → narrow x ≡ false → Firm x
  firm x b q n a p = L.order.asym x n b a (less x n b a q p)

  -- not past the narrow cutoff: not past the wide one
  inside : (n : K) → ok n → narrow n ≡ false → wide n ≡ false
  inside n a p = go (wide n) refl
    where
      go : (t : Bool) → wide n ≡ t → wide n ≡ false
      go false e = e
      go true e = absurd (clash (wider n a e) p)

  -- ---- one index, both searches at u with the distance d
  module _ (A : C → Type 0) (u : ℕ) (d : K) (d_ok : ok d) (good : (c : C) → A c → S.bad c ≡ false) where
    -- totals are good keys
    sum_ok : (c : C) → A c → ok (S.plus d c)
    sum_ok c a = L.plus_ok d c d_ok (good c a)

    -- both store: the same total
    agree : (c c' : C) → A c → A c' → narrow (S.plus d c) ≡ false → ((b : C) → A b → narrow (S.plus d b) ≡ false → S.lt (S.plus d b) (S.plus d c) ≡ false)
        → wide (S.plus d c') ≡ false → ((b : C) → A b → wide (S.plus d b) ≡ false → S.lt (S.plus d b) (S.plus d c') ≡ false) → S.plus d c ≡ S.plus d c'
    agree c c' a a' k m k' m' = go (narrow (S.plus d c')) refl
      where
        low : S.lt (S.plus d c) (S.plus d c') ≡ false
        low = m' c a (inside (S.plus d c) (sum_ok c a) k)

        go : (t : Bool) → narrow (S.plus d c') ≡ t → S.plus d c ≡ S.plus d c'
        go true e = absurd (clash (less (S.plus d c) (S.plus d c') (sum_ok c a) (sum_ok c' a') k e) low)
        go false e = L.order.same (S.plus d c) (S.plus d c') (sum_ok c a) (sum_ok c' a') low (m c' a' e)

    -- both store
    stored : {new new' : Cell K} (c c' : C) → A c → narrow (S.plus d c) ≡ false → S.plus d c ≡ S.plus d c' → new ≡ has (S.plus d c) (some u) true → new' ≡ has (S.plus d c') (some u) true
        → Kept new new'
    stored {new} {new'} c c' a k q e e' =
        subst (λ (z : Cell K). Kept z new') (sym e)
        (subst (λ (z : Cell K). Kept (has (S.plus d c) (some u) true) z) (ap (λ (x : K). has x (some u) true) q ∙ sym e') (k_same (sum_ok c a) (firm (S.plus d c) (sum_ok c a) k)))

    -- only the wide one stores
    past_new : {new new' : Cell K} (c : C) → A c → narrow (S.plus d c) ≡ true → new ≡ out → new' ≡ has (S.plus d c) (some u) true → Kept new new'
    past_new {new} {new'} c a k e e' = subst (λ (z : Cell K). Kept z new') (sym e) (subst (λ (z : Cell K). Kept out z) (sym e') (k_past (sum_ok c a) k))

    -- the narrow search has nothing there and keeps nothing: the wide one's total is past
    only_past : (c : C) → A c → ((c : C) → A c → narrow (S.plus d c) ≡ false → true ≡ false) → narrow (S.plus d c) ≡ true
    only_past c a f = go (narrow (S.plus d c)) refl
      where
        go : (t : Bool) → narrow (S.plus d c) ≡ t → narrow (S.plus d c) ≡ true
        go true e = e
        go false e = absurd (true≢false (f c a e))

    -- what both searches do there
    both : {c c' new new' : Cell K} → Kept c c' → NewCell (cut_by S narrow) A u d c new → NewCell (cut_by S wide) A u d c' new' → Kept new new'
    both {new} {new'} k_out (stays f e) (stays f' e') = subst (λ (z : Cell K). Kept z new') (sym e) (subst (λ (z : Cell K). Kept out z) (sym e') k_out)
    both k_out (stays f e) (stores c' a' k' b' m' e') = past_new c' a' (only_past c' a' f) e e'
    both k_out (stores c a k b m e) (stays f' e') = absurd (true≢false (f' c a (inside (S.plus d c) (sum_ok c a) k)))
    both k_out (stores c a k b m e) (stores c' a' k' b' m' e') = stored c c' a k (agree c c' a a' k m k' m') e e'
    both {new} {new'} (k_same {x} {q} {m = z} o w) (stays f e) (stays f' e') = subst (λ (y : Cell K). Kept y new') (sym e) (subst (λ (y : Cell K). Kept (has x q z) y) (sym e') (k_same o w))
    both (k_same {x} o w) (stays f e) (stores c' a' k' b' m' e') = absurd (go (narrow (S.plus d c')) refl)
      where
        go : (t : Bool) → narrow (S.plus d c') ≡ t → ⊥
        go true i = clash b' (w (S.plus d c') (sum_ok c' a') i)
        go false i = clash b' (f c' a' i)
    both (k_same {x} o w) (stores c a k b m e) (stays f' e') = absurd (clash b (f' c a (inside (S.plus d c) (sum_ok c a) k)))
    both (k_same {x} o w) (stores c a k b m e) (stores c' a' k' b' m' e') = stored c c' a k (agree c c' a a' k m k' m') e e'
    both {new} {new'} (k_past {x} {q} {m = z} o p) (stays f e) (stays f' e') = subst (λ (y : Cell K). Kept y new') (sym e) (subst (λ (y : Cell K). Kept out y) (sym e') (k_past o p))
    both (k_past {x} o p) (stays f e) (stores c' a' k' b' m' e') = past_new c' a' (only_past c' a' f) e e'
    both (k_past {x} o p) (stores c a k b m e) (stays f' e') = absurd (clash (less (S.plus d c) x (sum_ok c a) o k p) (f' c a (inside (S.plus d c) (sum_ok c a) k)))
    both (k_past {x} o p) (stores c a k b m e) (stores c' a' k' b' m' e') = stored c c' a k (agree c c' a a' k m k' m') e e'

    -- only the wide search is at u, whose distance is past the narrow cutoff
    alone : {c c' new' : Cell K} → narrow d ≡ true → Kept c c' → NewCell (cut_by S wide) A u d c' new' → Kept c new'
    alone {c} p k (stays f e) = subst (λ (z : Cell K). Kept c z) (sym e) k
    alone {c} {new'} p k (stores c' a' k' b' m' e') = subst (λ (z : Cell K). Kept c z) (sym e') (go k b')
      where
        far : narrow (S.plus d c') ≡ true
        far = up d (S.plus d c') d_ok (sum_ok c' a') (grows d c' d_ok (good c' a')) p

        go : {c c'' : Cell K} → Kept c c'' → better (cut_by S wide) (S.plus d c') (dist_of c'') ≡ true → Kept c (has (S.plus d c') (some u) true)
        go k_out b = k_past (sum_ok c' a') far
        go (k_same {x} o w) b = absurd (clash b (w (S.plus d c') (sum_ok c' a') far))
        go (k_past o w) b = k_past (sum_ok c' a') far

  -- ---- what is pending
  pub kept_same : {c c' : Cell K} {x : K} {p : Option ℕ} {m : Bool} → Kept c c' → c ≡ has x p m → c' ≡ has x p m
  kept_same k_out e = e
  kept_same (k_same a n) e = e
  kept_same (k_past a n) e = absurd (not_out e)

  -- the narrow one's keys are good
  kept_ok : {c c' : Cell K} → Kept c c' → OkCell ok c
  kept_ok k_out = tt
  kept_ok (k_same a n) = a
  kept_ok (k_past a n) = tt

  -- equal cells have equal keys
  same_key : {x y : K} {p q : Option ℕ} {m n : Bool} → has x p m ≡ has y q n → x ≡ y
  same_key e = cc

  -- of an index that the wide search takes, the narrow one has the same, or nothing
  case_of : {c c' : Cell K} {x : K} {p : Option ℕ} → Kept c c' → c' ≡ has x p true → ok x × (((c ≡ has x p true) × Firm x) ⊎ ((narrow x ≡ true) × (c ≡ out)))
  case_of k_out e = absurd (not_out e)
  case_of (k_same a f) e = (subst ok (same_key e) a, inl (e, subst Firm (same_key e) f))
  case_of (k_past a n) e = (subst ok (same_key e) a, inr (sym (ap narrow (same_key e)) ∙ n, refl))

  -- both take u
  pop_both : {s t : ℕ → Cell K} (u : ℕ) (d : K) (p : Option ℕ) → ((v : ℕ) → Kept (s v) (t v)) → ok d → Firm d → (v : ℕ) → Kept (upd s u (has d p false) v) (upd t u (has d p false) v)
  pop_both {s} {t} u d p h a f v = go (eqb v u)
    where
      go : (b : Bool) → Kept (pick b (has d p false) (s v)) (pick b (has d p false) (t v))
      go true = k_same a f
      go false = h v

  -- only the wide one takes u
  pop_wide : {s t : ℕ → Cell K} (u : ℕ) (d : K) (p : Option ℕ) → ((v : ℕ) → Kept (s v) (t v)) → ok d → narrow d ≡ true → s u ≡ out → (v : ℕ) → Kept (s v) (upd t u (has d p false) v)
  pop_wide {s} {t} u d p h a f e v = go (eqb v u) (eqb-true v u)
    where
      go : (b : Bool) → (b ≡ true → v ≡ u) → Kept (s v) (pick b (has d p false) (t v))
      go true g = subst (λ (z : Cell K). Kept z (has d p false)) (sym (ap s (g refl) ∙ e)) (k_past a f)
      go false g = h v

  -- ---- the searches
  module _ (arcs : ℕ → List (ℕ × C)) where
    -- the narrow one's answers are the wide one's
    pub record Narrowed (f e : End K) : Type 0 where
      pub number : f.number ≡ 0
      pub same : (v : ℕ) (x : K) → f.dist v ≡ some x → (e.dist v ≡ some x) × (f.pred v ≡ e.pred v)

    -- an end of the narrow search that agrees with e
    abbrev pub NarrowEnd : (ℕ → Cell K) → ℕ → End K → Type 0
    NarrowEnd s k e = (f : End K) × Ends (cut_by S narrow) (ArcOf arcs) s k f × Narrowed f e

    -- what the narrow one has, the wide one has
    at_rest : {c c' : Cell K} (x : K) → Kept c c' → dist_of c ≡ some x → (dist_of c' ≡ some x) × (pred_of c ≡ pred_of c')
    at_rest x k_out e = (e, refl)
    at_rest x (k_same a f) e = (e, refl)
    at_rest x (k_past a f) e = absurd (let z : ◌≡◌ {A = ℕ} 0 1 = cc in omega arith)

    -- where the wide search is done, so is the narrow one, and it has what the wide one has
    pub kept_by : (s : ℕ → Cell K) {t : ℕ → Cell K} {n : ℕ} {e : End K} (k : ℕ) → ((v : ℕ) → Kept (s v) (t v)) → Ends (cut_by S wide) (ArcOf arcs) t n e → e.number ≡ 0 → NarrowEnd s k e
    kept_by s k h (empty f) z = (done_at s k, empty (λ v d p i. f v d p (kept_same (h v) i)), record { number = refl; same = λ v x. at_rest x (h v) })
    kept_by s k h (found u d p t g) z = absurd (true≢false (sym g))
    kept_by s k h (wrong u d p t g v c a b) z = absurd (omega arith)
    kept_by s {t} {n} {e} k h (more {t = r} w rest) z = go (case_of (h w.u) w.taken.held) (λ x j i. kept_by x j i rest z)
      where
        go : ok w.d × (((s w.u ≡ has w.d w.p true) × Firm w.d) ⊎ ((narrow w.d ≡ true) × (s w.u ≡ out)))
            → ((x : ℕ → Cell K) (j : ℕ) → ((v : ℕ) → Kept (x v) (r v)) → NarrowEnd x j e) → NarrowEnd s k e
        go (a, inr i) rec = rec s k (λ v. alone (ArcOf arcs w.u v) w.u w.d a (w.good v) i.0 (pop_wide w.u w.d w.p h a i.0 i.1 v) (w.turned v))
        go (a, inl i) rec =
            let y = rec x (suc k) (λ v. both (ArcOf arcs w.u v) w.u w.d a (w.good v) (pop_both w.u w.d w.p h a i.1 v) (turned v) (w.turned v)) in (y.0, more nx y.1, y.2)
          where
            x : ℕ → Cell K
            x = row_cells (cut_by S narrow) w.u w.d (arcs w.u) (upd s w.u (has w.d w.p false))

            turned : Turned (cut_by S narrow) (ArcOf arcs w.u) w.u w.d (upd s w.u (has w.d w.p false)) x
            turned =
                row_turned (cut_by S narrow) (cut_laws narrow L) w.u w.d a (ArcOf arcs w.u) (arcs w.u) (upd s w.u (has w.d w.p false)) (λ v c m. m) (λ v c m. m) w.good
                (upd_all (OkCell ok) s w.u (has w.d w.p false) (λ v. kept_ok (h v)) a)

            nx : Next (cut_by S narrow) (ArcOf arcs) s x
            nx = record { u = w.u; d = w.d; p = w.p; taken = record { held = i.0; least = λ v y q j. w.taken.least v y q (kept_same (h v) j) }; passed = refl; good = w.good; turned = turned }

    -- from the start, where nothing is below the source's distance
    pub widen : ((n : K) → ok n → S.lt n S.zero ≡ false) → (e : End K) → Ends (cut_by S wide) (ArcOf arcs) (begin (cut_by S wide)) 0 e → e.number ≡ 0 → NarrowEnd (begin (cut_by S narrow)) 0 e
    unfolding begin
    widen low e r z = kept_by (begin (cut_by S narrow)) 0 (λ v. go (eqb v S.source)) r z
      where
        go : (b : Bool) → Kept (pick b (has S.zero none true) out) (pick b (has S.zero none true) out)
        go true = k_same L.zero_ok (λ n a p. low n a)
        go false = k_out
