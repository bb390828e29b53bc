-- What holds at every moment of a search over whole numbers, by any rule for the key, with or without a target: every distance is the total of a walk and not below
-- zero, the predecessors lead back to the source by arcs that meet the distances, and the arcs of an index that is not pending were looked at: each is not below zero
-- and leads to no more than the total. A store only lowers a distance, so what was looked at stays so. What the search ends in follows from the moment it ends.
use mathlib.Core.Path.{◌≡◌, refl, sym, ap, ◌∙◌, subst}
use mathlib.Core.Bool.{Bool, true, false, true≢false}
use mathlib.Core.Logic.{◌⊎◌, inl, inr}
use mathlib.Core.Option.{Option, none, some}
use Prim.Native.Nat.{ℕ, suc}
use native.Mathlib.Omega.{arith}
use lib.IntN.{ℤ, pos}
use lib.Signed.{◌≤ℤ◌, ◌<ℤ◌}
use Rattle.whole.specs.Zed.{◌⊕◌, zed, sum, lt_yes, lt_no}
use Rattle.walks.specs.Walk.{Walk, stay}
use Rattle.walks.specs.Chain.{Chain, source, via}
use Rattle.walks.proofs.Walk.{join, arc}
use Rattle.pending.specs.Setting.{upd, is_target, End, refused}
use Rattle.pending.specs.Literal.{better}
use Rattle.pending.specs.OnePlace.{Cell, out, has, dist_of, pred_of, done_at, begin, Takes, NewCell, stays, stores, Next, Ends, empty, found, wrong, more}
use Rattle.pending.specs.Ints.{whole}
use Rattle.pending.proofs.Cells.{upd_cases, upd_here, not_out, not_pending}

-- c has the distance d, whatever else
pub record Has (c : Cell ℤ) (d : ℤ) (p : Option ℕ) : Type 0 where
  pub flag : Bool
  pub is : c ≡ has d p flag

-- its distance
pub has_dist : {c : Cell ℤ} {d : ℤ} {p : Option ℕ} → Has c d p → dist_of c ≡ some d
has_dist h = ap dist_of h.is

-- its predecessor
pub has_pred : {c : Cell ℤ} {d : ℤ} {p : Option ℕ} → Has c d p → pred_of c ≡ p
has_pred h = ap pred_of h.is

-- what a cell with a distance is
pub dist_has : (c : Cell ℤ) (d : ℤ) → dist_of c ≡ some d → (p : Option ℕ) × Has c d p
dist_has out d e = absurd (let z : ◌≡◌ {A = ℕ} 0 1 = cc in omega arith)
dist_has (has x p b) d e = let k : x ≡ d = cc in (p, record { flag = b; is = ap (λ (z : ℤ). has z p b) k })

module _ (key : ℤ → ℕ → ℤ) (target : Option ℕ) (o : ℕ) (Arc : ℕ → ℕ → ℤ → Type 0) where
  -- the chain of predecessors in a state
  abbrev pub ChainIn : (ℕ → Cell ℤ) → ℕ → Type 0
  ChainIn s v = Chain Arc o (λ x. dist_of (s x)) (λ x. pred_of (s x)) v

  -- the arc of cost c from an index at d was looked at: it is not below zero, and its end has no more than the total
  pub record Relaxed (s : ℕ → Cell ℤ) (d : ℤ) (v : ℕ) (c : ℤ) : Type 0 where
    pub up : pos 0 ≤ℤ c
    pub e : ℤ
    pub q : Option ℕ
    pub has_it : Has (s v) e q
    pub low : e ≤ℤ d ⊕ c

  -- what holds at every moment
  pub record Inv (s : ℕ → Cell ℤ) : Type 0 where
    pub first : Has (s o) (pos 0) none
    pub up : (v : ℕ) (d : ℤ) (p : Option ℕ) → Has (s v) d p → pos 0 ≤ℤ d
    pub walk : (v : ℕ) (d : ℤ) (p : Option ℕ) → Has (s v) d p → Walk Arc o v d
    pub chain : (v : ℕ) (d : ℤ) (p : Option ℕ) → Has (s v) d p → ChainIn s v
    pub looked : (u : ℕ) (d : ℤ) (p : Option ℕ) → s u ≡ has d p false → (v : ℕ) (c : ℤ) → Arc u v c → Relaxed s d v c
    pub passed : (u : ℕ) (d : ℤ) (p : Option ℕ) → s u ≡ has d p false → is_target target u ≡ false

  -- at the start
  pub begin_inv : Inv (begin (whole key target o))
  unfolding begin
  begin_inv = record {
    first = record { flag = true; is = upd_here (λ w. out) o (has (pos 0) none true) };
    up = λ v d p h. let k = at_source v d p h in let z : d ≡ pos 0 = k.1 in omega (arith, zed);
    walk = λ v d p h. let k = at_source v d p h in subst (λ (x : ℕ). Walk Arc o x d) (sym k.0) (stay {t = d} k.1);
    chain = λ v d p h. source (at_source v d p h).0;
    looked = λ u d p e. absurd (none_taken u d p e);
    passed = λ u d p e. absurd (none_taken u d p e);
  }
    where
      at_source : (v : ℕ) (d : ℤ) (p : Option ℕ) → Has (upd (λ w. out) o (has (pos 0) none true) v) d p → (v ≡ o) × (d ≡ pos 0)
      at_source v d p h = go (upd_cases (λ w. out) o (has (pos 0) none true) v (has d p h.flag) h.is)
        where
          go : ((v ≡ o) × (has (pos 0) none true ≡ has d p h.flag)) ⊎ ((v ≡ o → ⊥) × (out ≡ has d p h.flag)) → (v ≡ o) × (d ≡ pos 0)
          go (inl i) = (i.0, let k = i.1 in cc)
          go (inr i) = absurd (not_out i.1)

      none_taken : (v : ℕ) (x : ℤ) (p : Option ℕ) → upd (λ w. out) o (has (pos 0) none true) v ≡ has x p false → ⊥
      none_taken v x p e = elim (upd_cases (λ w. out) o (has (pos 0) none true) v (has x p false) e) [ inl h ↦ not_pending h.1 | inr h ↦ not_out h.1 ]

  -- ---- one turn
  module _ {s t : ℕ → Cell ℤ} (h : Inv s) (w : Next (whole key target o) Arc s t) where
    -- what the turn does to v
    abbrev New : ℕ → Type 0
    New v = NewCell (whole key target o) (Arc w.u v) w.u w.d (upd s w.u (has w.d w.p false) v) (t v)

    -- what the index taken has
    pub own : Has (s w.u) w.d w.p
    own = record { flag = true; is = w.taken.held }

    -- its distance is not below zero
    pub d_up : pos 0 ≤ℤ w.d
    d_up = h.up w.u w.d w.p own

    -- nor are the costs of its arcs
    pub c_up : (v : ℕ) (c : ℤ) → Arc w.u v c → pos 0 ≤ℤ c
    c_up v c a = omega (arith, zed, lt_no c (pos 0) (w.good v c a))

    -- taking u changes no distance and no predecessor
    pub back : (v : ℕ) (x : ℤ) (q : Option ℕ) → Has (upd s w.u (has w.d w.p false) v) x q → Has (s v) x q
    back v x q i = go (upd_cases s w.u (has w.d w.p false) v (has x q i.flag) i.is)
      where
        go : ((v ≡ w.u) × (has w.d w.p false ≡ has x q i.flag)) ⊎ ((v ≡ w.u → ⊥) × (s v ≡ has x q i.flag)) → Has (s v) x q
        go (inl k) = record { flag = true; is = ap s k.0 ∙ w.taken.held ∙ (let g = k.1 in let a : w.d ≡ x = cc in let b : w.p ≡ q = cc in λ j. has (a j) (b j) true) }
        go (inr k) = record { flag = i.flag; is = k.1 }

    -- and forward
    pub fore : (v : ℕ) (x : ℤ) (q : Option ℕ) → Has (s v) x q → Has (upd s w.u (has w.d w.p false) v) x q
    fore v x q i = go (upd_cases s w.u (has w.d w.p false) v (upd s w.u (has w.d w.p false) v) refl)
      where
        go : ((v ≡ w.u) × (has w.d w.p false ≡ upd s w.u (has w.d w.p false) v)) ⊎ ((v ≡ w.u → ⊥) × (s v ≡ upd s w.u (has w.d w.p false) v))
            → Has (upd s w.u (has w.d w.p false) v) x q
        go (inl k) =
            let e : has x q i.flag ≡ has w.d w.p true = sym i.is ∙ ap s k.0 ∙ w.taken.held in
            let a : w.d ≡ x = cc in
            let b : w.p ≡ q = cc in
            record { flag = false; is = sym k.1 ∙ (λ j. has (a j) (b j) false) }
        go (inr k) = record { flag = i.flag; is = sym k.1 ∙ i.is }

    -- a store is an improvement
    pub less : (v : ℕ) (n x : ℤ) (q : Option ℕ) → better (whole key target o) n (dist_of (upd s w.u (has w.d w.p false) v)) ≡ true → Has (s v) x q → n <ℤ x
    less v n x q b i = omega (arith, zed, lt_yes n x (ap (better (whole key target o) n) (sym (has_dist (fore v x q i))) ∙ b))

    -- distances fall
    pub down : (v : ℕ) (x : ℤ) (q : Option ℕ) → Has (s v) x q → (y : ℤ) × (r : Option ℕ) × Has (t v) y r × y ≤ℤ x
    down v x q i = go (w.turned v)
      where
        go : New v → (y : ℤ) × (r : Option ℕ) × Has (t v) y r × y ≤ℤ x
        go (stays f e) = let k = fore v x q i in (x, q, record { flag = k.flag; is = e ∙ k.is }, omega (arith, zed))
        go (stores c a k b m e) = let l : w.d ⊕ c <ℤ x = less v (w.d ⊕ c) x q b i in (w.d ⊕ c, some w.u, record { flag = true; is = e }, omega (arith, zed))

    -- a distance not above d stays, and its predecessor
    pub fixed : (v : ℕ) (x : ℤ) (q : Option ℕ) → Has (s v) x q → x ≤ℤ w.d → Has (t v) x q
    fixed v x q i o = go (w.turned v)
      where
        go : New v → Has (t v) x q
        go (stays f e) = let k = fore v x q i in record { flag = k.flag; is = e ∙ k.is }
        go (stores c a k b m e) = absurd (let l : w.d ⊕ c <ℤ x = less v (w.d ⊕ c) x q b i in let z : pos 0 ≤ℤ c = c_up v c a in omega (arith, zed, sum w.d c))

    -- u's own arcs are looked at
    relaxed_now : (v : ℕ) (c : ℤ) → Arc w.u v c → Relaxed t w.d v c
    relaxed_now v c a = go (w.turned v)
      where
        worse : (z : Cell ℤ) → better (whole key target o) (w.d ⊕ c) (dist_of z) ≡ false → t v ≡ z → Relaxed t w.d v c
        worse out b e = absurd (true≢false b)
        worse (has x q f) b e = record { up = c_up v c a; e = x; q = q; has_it = record { flag = f; is = e }; low = omega (arith, zed, lt_no (w.d ⊕ c) x b) }

        go : New v → Relaxed t w.d v c
        go (stays f e) = worse (upd s w.u (has w.d w.p false) v) (f c a refl) e
        go (stores c' a' k b m e) =
            record { up = c_up v c a; e = w.d ⊕ c'; q = some w.u; has_it = record { flag = true; is = e }; low = omega (arith, zed, lt_no (w.d ⊕ c) (w.d ⊕ c') (m c a refl)) }

    -- and arcs looked at earlier stay so
    relaxed_still : (d : ℤ) (v : ℕ) (c : ℤ) → Relaxed s d v c → Relaxed t d v c
    relaxed_still d v c r =
        let k = down v r.e r.q r.has_it in
        let a : k.0 ≤ℤ r.e = k.3 in
        let b : r.e ≤ℤ d ⊕ c = r.low in
        record { up = r.up; e = k.0; q = k.1; has_it = k.2; low = omega (arith, zed) }

    -- ---- chains
    -- the chain of an index whose distance is not above d stays
    keep : {x : ℕ} (e : ℤ) → dist_of (s x) ≡ some e → e ≤ℤ w.d → ChainIn s x → ChainIn t x
    keep e i l (source k) = source k
    keep {x} e i l (via y n r k ch) =
        let m : some k.e ≡ some e = sym k.to ∙ i in
        let z : k.e ≡ e = cc in
        let b : k.d ⊕ k.c ≤ℤ k.e = k.low in
        let u : pos 0 ≤ℤ k.c = k.up in
        let dl : k.d ≤ℤ w.d = omega (arith, zed, sum k.d k.c) in
        let hx = dist_has (s x) e i in
        let hy = dist_has (s y) k.d k.from in
        let fx = fixed x e hx.0 hx.1 l in
        let fy = fixed y k.d hy.0 hy.1 dl in
        via y n (has_pred fx ∙ sym (has_pred hx.1) ∙ r)
        (record { d = k.d; e = e; c = k.c; from = has_dist fy; to = has_dist fx; arc_is = k.arc_is; up = k.up; low = omega (arith, zed) })
        (keep k.d k.from dl ch)

    -- the index taken keeps what it has
    own_still : Has (t w.u) w.d w.p
    own_still = fixed w.u w.d w.p own (omega (arith, zed))

    -- so does the source
    first_still : Has (t o) (pos 0) none
    first_still = fixed o (pos 0) none h.first d_up

    -- of an index that was stored
    new_chain : (v : ℕ) (c : ℤ) → Arc w.u v c → t v ≡ has (w.d ⊕ c) (some w.u) true → ChainIn t v
    new_chain v c a e =
        via w.u (λ q. apart (sym (has_pred first_still) ∙ ap (λ (x : ℕ). pred_of (t x)) (sym q) ∙ ap pred_of e)) (ap pred_of e)
        (record { d = w.d; e = w.d ⊕ c; c = c; from = has_dist own_still; to = ap dist_of e; arc_is = a; up = c_up v c a; low = omega (arith, zed) })
        (keep w.d (has_dist own) (omega (arith, zed)) (h.chain w.u w.d w.p own))
      where
        apart : {x : ℕ} → ◌≡◌ {A = Option ℕ} none (some x) → ⊥
        apart g = let z : ◌≡◌ {A = ℕ} 0 1 = cc in omega arith

    -- every chain goes on
    chain_still : {x : ℕ} → ChainIn s x → ChainIn t x
    chain_still (source k) = source k
    chain_still {x} (via y n r k ch) = go (w.turned x) (chain_still ch)
      where
        go : New x → ChainIn t y → ChainIn t x
        go (stores c a i b m e) rec = new_chain x c a e
        go (stays f e) rec =
            let hx = dist_has (s x) k.e k.to in
            let fx = fore x k.e hx.0 hx.1 in
            let hy = dist_has (s y) k.d k.from in
            let g = down y k.d hy.0 hy.1 in
            let a : g.0 ≤ℤ k.d = g.3 in
            let b : k.d ⊕ k.c ≤ℤ k.e = k.low in
            via y n (ap pred_of e ∙ has_pred fx ∙ sym (has_pred hx.1) ∙ r)
            (record {
              d = g.0;
              e = k.e;
              c = k.c;
              from = has_dist g.2;
              to = ap dist_of e ∙ has_dist fx;
              arc_is = k.arc_is;
              up = k.up;
              low = omega (arith, zed, sum k.d k.c, sum g.0 k.c);
            })
            rec

    -- ---- all of it
    pub next_inv : Inv t
    next_inv = record {
      first = first_still;
      up = λ v x q i. up_go v x q i (w.turned v);
      walk = λ v x q i. walk_go v x q i (w.turned v);
      chain = λ v x q i. chain_go v x q i (w.turned v);
      looked = λ v x q i. looked_go v x q i (w.turned v);
      passed = λ v x q i. passed_go v x q i (w.turned v);
    }
      where
        old : (v : ℕ) (x : ℤ) (q : Option ℕ) → Has (t v) x q → t v ≡ upd s w.u (has w.d w.p false) v → Has (s v) x q
        old v x q i e = back v x q (record { flag = i.flag; is = sym e ∙ i.is })

        sum_is : (v : ℕ) (x : ℤ) (q : Option ℕ) (c : ℤ) → Has (t v) x q → t v ≡ has (w.d ⊕ c) (some w.u) true → x ≡ w.d ⊕ c
        sum_is v x q c i e = let k : some x ≡ some (w.d ⊕ c) = sym (has_dist i) ∙ ap dist_of e in cc

        up_go : (v : ℕ) (x : ℤ) (q : Option ℕ) → Has (t v) x q → New v → pos 0 ≤ℤ x
        up_go v x q i (stays f e) = h.up v x q (old v x q i e)
        up_go v x q i (stores c a k b m e) = let z : x ≡ w.d ⊕ c = sum_is v x q c i e in let y : pos 0 ≤ℤ c = c_up v c a in let g : pos 0 ≤ℤ w.d = d_up in omega (arith, zed, sum w.d c)

        walk_go : (v : ℕ) (x : ℤ) (q : Option ℕ) → Has (t v) x q → New v → Walk Arc o v x
        walk_go v x q i (stays f e) = h.walk v x q (old v x q i e)
        walk_go v x q i (stores c a k b m e) = join (h.walk w.u w.d w.p own) (arc a) (sum_is v x q c i e)

        chain_go : (v : ℕ) (x : ℤ) (q : Option ℕ) → Has (t v) x q → New v → ChainIn t v
        chain_go v x q i (stays f e) = chain_still (h.chain v x q (old v x q i e))
        chain_go v x q i (stores c a k b m e) = new_chain v c a e

        -- an index that is not pending is u, or was not pending
        was : (v : ℕ) (x : ℤ) (q : Option ℕ) → t v ≡ has x q false → New v → ((v ≡ w.u) × (has w.d w.p false ≡ has x q false)) ⊎ ((v ≡ w.u → ⊥) × (s v ≡ has x q false))
        was v x q i (stays f e) = upd_cases s w.u (has w.d w.p false) v (has x q false) (sym e ∙ i)
        was v x q i (stores c a k b m e) = absurd (not_pending (sym e ∙ i))

        looked_go : (v : ℕ) (x : ℤ) (q : Option ℕ) → t v ≡ has x q false → New v → (y : ℕ) (c : ℤ) → Arc v y c → Relaxed t x y c
        looked_go v x q i n y c a = go (was v x q i n)
          where
            go : ((v ≡ w.u) × (has w.d w.p false ≡ has x q false)) ⊎ ((v ≡ w.u → ⊥) × (s v ≡ has x q false)) → Relaxed t x y c
            go (inl k) = let g = k.1 in let z : w.d ≡ x = cc in subst (λ (j : ℤ). Relaxed t j y c) z (relaxed_now y c (subst (λ (j : ℕ). Arc j y c) k.0 a))
            go (inr k) = relaxed_still x y c (h.looked v x q k.1 y c a)

        passed_go : (v : ℕ) (x : ℤ) (q : Option ℕ) → t v ≡ has x q false → New v → is_target target v ≡ false
        passed_go v x q i n = go (was v x q i n)
          where
            go : ((v ≡ w.u) × (has w.d w.p false ≡ has x q false)) ⊎ ((v ≡ w.u → ⊥) × (s v ≡ has x q false)) → is_target target v ≡ false
            go (inl k) = ap (is_target target) k.0 ∙ w.passed
            go (inr k) = h.passed v x q k.1

  -- ---- how a search ends
  pub data Final : End ℤ → Type 0 where
    rested : (s : ℕ → Cell ℤ) (n : ℕ) → Inv s → ((v : ℕ) (d : ℤ) (p : Option ℕ) → s v ≡ has d p true → ⊥) → Final (done_at s n)
    arrived : (s : ℕ → Cell ℤ) (n u : ℕ) (d : ℤ) (p : Option ℕ) → Inv s → Takes (whole key target o) s u d p → is_target target u ≡ true → Final (done_at s n)
    stopped : (n u : ℕ) (d : ℤ) (v : ℕ) (c : ℤ) → Walk Arc o u d → Arc u v c → c <ℤ pos 0 → Final (refused n)

  -- how it ends, from what holds
  pub final : {s : ℕ → Cell ℤ} {n : ℕ} {e : End ℤ} → Inv s → Ends (whole key target o) Arc s n e → Final e
  final {s} {n} h (empty f) = rested s n h f
  final {s} {n} h (found u d p t g) = arrived s (suc n) u d p h t g
  final {s} {n} h (wrong u d p t g v c a b) = stopped (suc n) u d v c (h.walk u d p (record { flag = true; is = t.held })) a (omega (arith, zed, lt_yes c (pos 0) b))
  final h (more w r) = final (next_inv h w) r
