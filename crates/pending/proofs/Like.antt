-- Two searches whose keys and costs correspond go alike: where the correspondence keeps the order, the sums, the cutoff and the bad costs, they take the same indices,
-- end with corresponding distances, the same predecessors and the same number. The correspondence may depend on the number of takes so far, as exact sums do.
use mathlib.Core.Path.{◌≡◌, refl, sym, ap, ◌∙◌, subst}
use mathlib.Core.Bool.{Bool, true, false}
use mathlib.Core.List.{List}
use mathlib.Core.Option.{Option, none, some}
use Prim.Native.Nat.{ℕ, suc, ◌≤◌}
use native.Mathlib.Omega.{arith}
use lib.Dec.{eqb, ltb}
use Rattle.whole.proofs.Cases.{clash}
use Rattle.bag.specs.Order.{pick, before}
use Rattle.pending.specs.Setting.{upd, Setting, is_target, End, refused, ArcOf}
use Rattle.pending.specs.Literal.{better}
use Rattle.pending.specs.OnePlace.{Cell, out, has, dist_of, pred_of, done_at, Takes, NewCell, stays, stores, Turned, Next, Ends, empty, found, wrong, more}
use Rattle.pending.specs.Laws.{Laws, OkCell}
use Rattle.pending.proofs.Cells.{upd_all, not_out}
use Rattle.pending.proofs.Row.{row_cells, row_turned}
use Rattle.pending.proofs.One.{cell_ok, next_ok, takes_up}

-- cells that correspond, for distances of at most j takes
pub data Alike {K K' : Type 0} (R : ℕ → K → K' → Type 0) (j : ℕ) : Cell K → Cell K' → Type 0 where
  a_out : Alike R j out out
  a_has : {x : K} {y : K'} {p : Option ℕ} {m : Bool} → R j x y → Alike R j (has x p m) (has y p m)

-- answers that correspond
pub record AlikeEnd {K K' : Type 0} (R : ℕ → K → K' → Type 0) (e : End K) (f : End K') : Type 0 where
  pub number : e.number ≡ f.number
  pub takes : e.takes ≡ f.takes
  pub pred : (v : ℕ) → e.pred v ≡ f.pred v
  pub reached : (v : ℕ) (x : K) → e.dist v ≡ some x → (y : K') × (j : ℕ) × (f.dist v ≡ some y) × R j x y
  pub gone : (v : ℕ) → e.dist v ≡ none → f.dist v ≡ none

module _ {K C K' C' : Type 0} (S : Setting K C) (S' : Setting K' C') {ok' : K' → Type 0} (L' : Laws S' ok')
    (R : ℕ → K → K' → Type 0) (W : C → C' → Type 0) (top : ℕ)
    (on : (j : ℕ) (x : K) (y : K') → R j x y → R (suc j) x y)
    (same_lt : (j : ℕ) (a : K) (x : K') (b : K) (y : K') → j ≤ top → R j a x → R j b y → S.lt a b ≡ S'.lt x y)
    (same_key : (j : ℕ) (a : K) (x : K') (v : ℕ) → j ≤ top → R j a x → R j (S.key a v) (S'.key x v))
    (same_plus : (j : ℕ) (a : K) (x : K') (c : C) (b : C') → suc j ≤ top → R j a x → W c b → R (suc j) (S.plus a c) (S'.plus x b))
    (same_cut : (j : ℕ) (a : K) (x : K') → j ≤ top → R j a x → S.cut a ≡ S'.cut x)
    (same_bad : (c : C) (b : C') → W c b → S.bad c ≡ S'.bad b)
    (same_target : S.target ≡ S'.target)
    (Arc : ℕ → ℕ → C → Type 0) (arcs' : ℕ → List (ℕ × C'))
    (to : (u v : ℕ) (c : C) → Arc u v c → (b : C') × ArcOf arcs' u v b × W c b)
    (from : (u v : ℕ) (b : C') → ArcOf arcs' u v b → (c : C) × Arc u v c × W c b) where
  -- ---- cells
  on_cell : {j : ℕ} {c : Cell K} {c' : Cell K'} → Alike R j c c' → Alike R (suc j) c c'
  on_cell a_out = a_out
  on_cell {j} (a_has {x} {y} r) = a_has (on j x y r)

  -- both totals better what is there, or neither
  same_better : {j : ℕ} {n : K} {n' : K'} {c : Cell K} {c' : Cell K'} → j ≤ top → R j n n' → Alike R j c c' → better S n (dist_of c) ≡ better S' n' (dist_of c')
  same_better o r a_out = refl
  same_better {j} {n} {n'} o r (a_has {x} {y} q) = same_lt j n n' x y o r q

  -- what the second has, the first has
  has_back : {j : ℕ} {c : Cell K} {c' : Cell K'} {y : K'} {p : Option ℕ} {m : Bool} → Alike R j c c' → c' ≡ has y p m → (x : K) × (c ≡ has x p m) × R j x y
  has_back a_out e = absurd (not_out e)
  has_back {j} {y = z} {p = q} {m = l} (a_has {x} {y} {p} {m} r) e = let a : y ≡ z = cc in let b : p ≡ q = cc in let g : m ≡ l = cc in (x, (λ i. has x (b i) (g i)), subst (R j x) a r)

  -- what the first has, the second has
  has_on : {j : ℕ} {c : Cell K} {c' : Cell K'} {x : K} {p : Option ℕ} {m : Bool} → Alike R j c c' → c ≡ has x p m → (y : K') × (c' ≡ has y p m) × R j x y
  has_on a_out e = absurd (not_out e)
  has_on {j} {x = z} {p = q} {m = l} (a_has {x} {y} {p} {m} r) e = let a : x ≡ z = cc in let b : p ≡ q = cc in let g : m ≡ l = cc in (y, (λ i. has y (b i) (g i)), subst (λ (k : K). R j k y) a r)

  -- pairs compare alike
  same_before : (j : ℕ) (a : K) (x : K') (v : ℕ) (b : K) (y : K') (w : ℕ) → j ≤ top → R j a x → R j b y → before S.lt (S.key a v) v (S.key b w) w ≡ before S'.lt (S'.key x v) v (S'.key y w) w
  unfolding before
  same_before j a x v b y w o r q =
      let k = same_key j a x v o r in
      let l = same_key j b y w o q in
      ap (λ (t : Bool). pick t true (pick (S.lt (S.key b w) (S.key a v)) false (ltb v w))) (same_lt j _ _ _ _ o k l)
      ∙ ap (λ (t : Bool). pick (S'.lt (S'.key x v) (S'.key y w)) true (pick t false (ltb v w))) (same_lt j _ _ _ _ o l k)

  -- the same index is taken
  same_takes : {j : ℕ} {s : ℕ → Cell K} {s' : ℕ → Cell K'} {u : ℕ} {d : K} {p : Option ℕ} → j ≤ top → ((v : ℕ) → Alike R j (s v) (s' v)) → Takes S s u d p → (d' : K') × Takes S' s' u d' p × R j d d'
  same_takes {j} {s} {s'} {u} {d} {p} o h t =
      let k = has_on (h u) t.held in
      (k.0, record { held = k.1; least = λ v y q e. let l = has_back (h v) e in sym (same_before j l.0 y v d k.0 u o l.2 k.2) ∙ t.least v l.0 q l.1 }, k.2)

  -- ---- one index of a turn
  module _ (j : ℕ) (o : suc j ≤ top) (u v : ℕ) (d : K) (d' : K') (r : R j d d') (d_ok : ok' d') (good' : (b : C') → ArcOf arcs' u v b → S'.bad b ≡ false) where
    -- the totals correspond
    sums : (c : C) (b : C') → W c b → R (suc j) (S.plus d c) (S'.plus d' b)
    sums c b w = same_plus j d d' c b o r w

    -- what a turn leaves corresponds
    new_alike : {old new : Cell K} {old' new' : Cell K'} → Alike R (suc j) old old' → NewCell S (Arc u v) u d old new → NewCell S' (ArcOf arcs' u v) u d' old' new' → Alike R (suc j) new new'
    new_alike {old} {new} {old'} {new'} h (stays f e) (stays f' e') = subst (λ (z : Cell K). Alike R (suc j) z new') (sym e) (subst (λ (z : Cell K'). Alike R (suc j) old z) (sym e') h)
    new_alike h (stays f e) (stores b a k g m e') =
        let x = from u v b a in
        let w = sums x.0 b x.2 in
        absurd (clash g (sym (same_better o w h) ∙ f x.0 x.1 (same_cut (suc j) _ _ o w ∙ k)))
    new_alike h (stores c a k g m e) (stays f' e') =
        let x = to u v c a in
        let w = sums c x.0 x.2 in
        absurd (clash g (same_better o w h ∙ f' x.0 x.1 (sym (same_cut (suc j) _ _ o w) ∙ k)))
    new_alike {new} {new'} h (stores c a k g m e) (stores b a' k' g' m' e') =
        let x = to u v c a in
        let w = sums c x.0 x.2 in
        let y = from u v b a' in
        let z = sums y.0 b y.2 in
        let low = m' x.0 x.1 (sym (same_cut (suc j) _ _ o w) ∙ k) in
        let high = sym (same_lt (suc j) _ _ _ _ o z w) ∙ m y.0 y.1 (same_cut (suc j) _ _ o z ∙ k') in
        let q : S'.plus d' x.0 ≡ S'.plus d' b =
        L'.order.same (S'.plus d' x.0) (S'.plus d' b) (L'.plus_ok d' x.0 d_ok (good' x.0 x.1)) (L'.plus_ok d' b d_ok (good' b a')) low high in
        subst (λ (i : Cell K). Alike R (suc j) i new') (sym e)
        (subst (λ (i : Cell K'). Alike R (suc j) (has (S.plus d c) (some u) true) i) (ap (λ (i : K'). has i (some u) true) q ∙ sym e') (a_has w))

  -- ---- a turn
  pop_alike : {j : ℕ} {s : ℕ → Cell K} {s' : ℕ → Cell K'} (u : ℕ) (d : K) (d' : K') (p : Option ℕ) → R j d d' → ((v : ℕ) → Alike R j (s v) (s' v)) → (v : ℕ)
      → Alike R j (upd s u (has d p false) v) (upd s' u (has d' p false) v)
  pop_alike {j} {s} {s'} u d d' p r h v = go (eqb v u)
    where
      go : (b : Bool) → Alike R j (pick b (has d p false) (s v)) (pick b (has d' p false) (s' v))
      go true = a_has r
      go false = h v

  -- where the first search goes on, so does the second
  next_alike : {j : ℕ} {s t : ℕ → Cell K} {s' : ℕ → Cell K'} → suc j ≤ top → ((v : ℕ) → OkCell ok' (s' v)) → ((v : ℕ) → Alike R j (s v) (s' v)) → Next S Arc s t
      → (t' : ℕ → Cell K') × Next S' (ArcOf arcs') s' t' × ((v : ℕ) → Alike R (suc j) (t v) (t' v))
  next_alike {j} {s} {t} {s'} o oks h w = (t', nx, λ v. new_alike j o w.u v w.d d' tk.2 d_ok (good' v) (on_cell (pop_alike w.u w.d d' w.p tk.2 h v)) (w.turned v) (turned' v))
    where
      tk : (d' : K') × Takes S' s' w.u d' w.p × R j w.d d'
      tk = same_takes (omega (arith, o)) h w.taken

      d' : K'
      d' = tk.0

      d_ok : ok' tk.0
      d_ok = cell_ok ok' tk.1.held (oks w.u)

      good' : (v : ℕ) (b : C') → ArcOf arcs' w.u v b → S'.bad b ≡ false
      good' v b a = let x = from w.u v b a in sym (same_bad x.0 b x.2) ∙ w.good v x.0 x.1

      t' : ℕ → Cell K'
      t' = row_cells S' w.u tk.0 (arcs' w.u) (upd s' w.u (has tk.0 w.p false))

      turned' : Turned S' (ArcOf arcs' w.u) w.u tk.0 (upd s' w.u (has tk.0 w.p false)) t'
      turned' =
          row_turned S' L' w.u tk.0 d_ok (ArcOf arcs' w.u) (arcs' w.u) (upd s' w.u (has tk.0 w.p false)) (λ v c m. m) (λ v c m. m) good'
          (upd_all (OkCell ok') s' w.u (has tk.0 w.p false) oks d_ok)

      nx : Next S' (ArcOf arcs') s' t'
      nx = record { u = w.u; d = tk.0; p = w.p; taken = tk.1; passed = ap (λ (z : Option ℕ). is_target z w.u) (sym same_target) ∙ w.passed; good = good'; turned = turned' }

  -- ---- the ends
  done_alike : {j : ℕ} {s : ℕ → Cell K} {s' : ℕ → Cell K'} (n : ℕ) → ((v : ℕ) → Alike R j (s v) (s' v)) → AlikeEnd R (done_at s n) (done_at s' n)
  done_alike {j} {s} {s'} n h = record { number = refl; takes = refl; pred = λ v. p_go (h v); reached = λ v x. d_go x (h v); gone = λ v. n_go (h v) }
    where
      p_go : {c : Cell K} {c' : Cell K'} → Alike R j c c' → pred_of c ≡ pred_of c'
      p_go a_out = refl
      p_go (a_has r) = refl

      d_go : {c : Cell K} {c' : Cell K'} (x : K) → Alike R j c c' → dist_of c ≡ some x → (y : K') × (i : ℕ) × (dist_of c' ≡ some y) × R i x y
      d_go x a_out e = absurd (let z : ◌≡◌ {A = ℕ} 0 1 = cc in omega arith)
      d_go x (a_has {x = z} {y} r) e = let k : z ≡ x = cc in (y, j, refl, subst (λ (i : K). R j i y) k r)

      n_go : {c : Cell K} {c' : Cell K'} → Alike R j c c' → dist_of c ≡ none → dist_of c' ≡ none
      n_go a_out e = refl
      n_go (a_has r) e = absurd (let z : ◌≡◌ {A = ℕ} 0 1 = cc in omega arith)

  -- the first search ends, in no more takes than the bound: the second ends alike
  pub ends_alike : {s : ℕ → Cell K} {s' : ℕ → Cell K'} {n : ℕ} {e : End K} → ((v : ℕ) → OkCell ok' (s' v)) → ((v : ℕ) → Alike R n (s v) (s' v)) → Ends S Arc s n e → e.takes ≤ top
      → (f : End K') × Ends S' (ArcOf arcs') s' n f × AlikeEnd R e f
  ends_alike {s'} {n} oks h (empty f) o = (done_at s' n, empty (λ v y p i. let k = has_back (h v) i in f v k.0 p k.1), done_alike n h)
  ends_alike {s'} {n} oks h (found u d p t g) o =
      let k = same_takes (omega arith) h t in
      (done_at s' (suc n), found u k.0 p k.1 (ap (λ (z : Option ℕ). is_target z u) (sym same_target) ∙ g), done_alike (suc n) h)
  ends_alike {s'} {n} oks h (wrong u d p t g v c a b) o =
      let k = same_takes (omega arith) h t in
      let x = to u v c a in (
        refused (suc n),
        wrong u k.0 p k.1 (ap (λ (z : Option ℕ). is_target z u) (sym same_target) ∙ g) v x.0 x.1 (sym (same_bad c x.0 x.2) ∙ b),
        record { number = refl; takes = refl; pred = λ v. refl; reached = λ v x e. absurd (let z : ◌≡◌ {A = ℕ} 0 1 = cc in omega arith); gone = λ v e. refl },
      )
  ends_alike {n} oks h (more w r) o =
      let k = next_alike (omega (arith, takes_up S Arc r)) oks h w in
      let y = ends_alike (next_ok S' L' (ArcOf arcs') oks k.1) k.2 r o in
      (y.0, more k.1 y.1, y.2)
