-- How large a distance of a search over whole numbers can be at any moment: fewer arcs than there are indices, each at most the greatest cost.
-- Each distance came over indices that now have no more than it; a store is strictly below what its index had, so that index is not among those it came over:
-- they are all different. By any rule for the key, so also where an index is taken again.
use mathlib.Core.Path.{◌≡◌, sym, ap, ◌∙◌, subst}
use mathlib.Core.Bool.{true, false}
use mathlib.Core.Logic.{◌⊎◌, inl, inr}
use mathlib.Core.List.{List, [], ◌∷◌}
use mathlib.Core.Option.{Option, none, some}
use Prim.Native.Nat.{ℕ, ◌*◌, ◌<◌, ◌≤◌}
use native.Mathlib.Omega.{arith}
use lib.ListN.{length}
use lib.IntN.{ℤ, pos}
use lib.Signed.{◌≤ℤ◌, ◌<ℤ◌}
use Rattle.whole.specs.Zed.{◌⊕◌, P, zed, sum}
use Rattle.walks.specs.Pigeon.{In, here, there, NoDup}
use Rattle.walks.proofs.Pigeon.{short}
use Rattle.pending.specs.Setting.{upd}
use Rattle.pending.specs.OnePlace.{Cell, out, has, dist_of, begin, NewCell, stays, stores, Next}
use Rattle.pending.specs.Ints.{whole}
use Rattle.pending.proofs.Cells.{upd_cases, not_out}
use Rattle.pending.proofs.Once.{Within}
use Rattle.pending.proofs.Whole.{Has, has_dist, Inv, less, d_up, c_up, own, back, down}
use Rattle.pending.proofs.Falls.{nonneg}

-- v's distance d came over the indices of `passed`, all different, which have no more than d now
pub record Trail (B : ℕ) (s : ℕ → Cell ℤ) (v : ℕ) (d : ℤ) : Type 0 where
  pub passed : List ℕ
  pub distinct : NoDup (v ∷ passed)
  pub low : (x : ℕ) → In x (v ∷ passed) → (e : ℤ) × (q : Option ℕ) × Has (s x) e q × e ≤ℤ d
  pub small : P d ≤ length passed * B

-- every distance came so
abbrev pub Bounded : ℕ → (ℕ → Cell ℤ) → Type 0
Bounded B s = (v : ℕ) (d : ℤ) (p : Option ℕ) → Has (s v) d p → Trail B s v d

module _ (key : ℤ → ℕ → ℤ) (target : Option ℕ) (o : ℕ) (Arc : ℕ → ℕ → ℤ → Type 0) (B : ℕ) (cheap : (u v : ℕ) (c : ℤ) → Arc u v c → P c ≤ B) where
  -- at the start
  pub begin_bounded : Bounded B (begin (whole key target o))
  unfolding begin
  begin_bounded v d p h = go (upd_cases (λ w. out) o (has (pos 0) none true) v (has d p h.flag) h.is)
    where
      go : ((v ≡ o) × (has (pos 0) none true ≡ has d p h.flag)) ⊎ ((v ≡ o → ⊥) × (out ≡ has d p h.flag)) → Trail B (upd (λ w. out) o (has (pos 0) none true)) v d
      go (inr i) = absurd (not_out i.1)
      go (inl i) = record { passed = []; distinct = (elim [ ], tt); low = self_low; small = let k = i.1 in let z : d ≡ pos 0 = cc in omega (arith, zed, nonneg d (omega (arith, zed))) }
        where
          self_low : (x : ℕ) → In x (v ∷ []) → (e : ℤ) × (q : Option ℕ) × Has (upd (λ w. out) o (has (pos 0) none true) x) e q × e ≤ℤ d
          self_low x (here e) = (d, p, subst (λ (y : ℕ). Has (upd (λ w. out) o (has (pos 0) none true) y) d p) (sym e) h, omega (arith, zed))
          self_low x (there x5) = elim x5 [ ]

  -- a turn keeps it
  pub next_bounded : {s t : ℕ → Cell ℤ} → Inv key target o Arc s → Next (whole key target o) Arc s t → Bounded B s → Bounded B t
  next_bounded {s} {t} h w f v x q i = go (w.turned v)
    where
      lower : (y : ℕ) (m : ℤ) → (e : ℤ) × (r : Option ℕ) × Has (s y) e r × e ≤ℤ m → (e : ℤ) × (r : Option ℕ) × Has (t y) e r × e ≤ℤ m
      lower y m k =
          let j = down key target o Arc h w y k.0 k.1 k.2 in
          let a : j.0 ≤ℤ k.0 = j.3 in
          let b : k.0 ≤ℤ m = k.3 in
          (j.0, j.1, j.2, omega (arith, zed))

      old : Has (s v) x q → Trail B t v x
      old k = let r = f v x q k in record { passed = r.passed; distinct = r.distinct; low = λ y j. lower y x (r.low y j); small = r.small }

      new : (c : ℤ) → Arc w.u v c → ((e : ℤ) (r : Option ℕ) → Has (s v) e r → w.d ⊕ c <ℤ e) → x ≡ w.d ⊕ c → Trail B t v x
      new c a b z = record { passed = w.u ∷ r.passed; distinct = (fresh, r.distinct); low = now; small = omega (arith, zed, sum w.d c, nonneg x up, r.small, cheap w.u v c a) }
        where
          r : Trail B s w.u w.d
          r = f w.u w.d w.p (own key target o Arc h w)

          d0 : pos 0 ≤ℤ w.d
          d0 = d_up key target o Arc h w

          c0 : pos 0 ≤ℤ c
          c0 = c_up key target o Arc h w v c a

          up : pos 0 ≤ℤ x
          up = let g : pos 0 ≤ℤ w.d = d0 in let l : pos 0 ≤ℤ c = c0 in omega (arith, zed, sum w.d c)

          fresh : In v (w.u ∷ r.passed) → ⊥
          fresh j =
              let k = r.low v j in
              let g : w.d ⊕ c <ℤ k.0 = b k.0 k.1 k.2 in
              let m : k.0 ≤ℤ w.d = k.3 in
              let l : pos 0 ≤ℤ c = c0 in
              omega (arith, zed, sum w.d c)

          now : (y : ℕ) → In y (v ∷ w.u ∷ r.passed) → (e : ℤ) × (p : Option ℕ) × Has (t y) e p × e ≤ℤ x
          now y (here e) = (x, q, subst (λ (j : ℕ). Has (t j) x q) (sym e) i, omega (arith, zed))
          now y (there j) =
              let k = lower y w.d (r.low y j) in
              let m : k.0 ≤ℤ w.d = k.3 in
              let l : pos 0 ≤ℤ c = c0 in
              (k.0, k.1, k.2, omega (arith, zed, sum w.d c))

      go : NewCell (whole key target o) (Arc w.u v) w.u w.d (upd s w.u (has w.d w.p false) v) (t v) → Trail B t v x
      go (stays g e) = old (back key target o Arc h w v x q (record { flag = i.flag; is = sym e ∙ i.is }))
      go (stores c a k b m e) = new c a (λ y r j. less key target o Arc h w v (w.d ⊕ c) y r b j) (let k : some x ≡ some (w.d ⊕ c) = sym (has_dist i) ∙ ap dist_of e in cc)

  -- so: fewer arcs than indices, times the greatest cost
  pub distance_within : {s : ℕ → Cell ℤ} (ps : List ℕ) → Within ps s → Bounded B s → (v : ℕ) (d : ℤ) (p : Option ℕ) → Has (s v) d p → (n : ℕ) × n < length ps × P d ≤ n * B
  distance_within {s} ps f g v d p h =
      let r = g v d p h in
      (length r.passed, omega (arith, short (v ∷ r.passed) ps r.distinct (λ x i. let k = r.low x i in f x k.0 k.1 k.2.flag k.2.is)), r.small)
