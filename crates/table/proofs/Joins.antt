-- What the test of a link's ends says: `joins` as a fact, and that links which join the same ends are joined by the same ones.
-- Assumes nothing.
use mathlib.Core.Path.{◌≡◌, refl, sym, ap, ◌∙◌}
use mathlib.Core.Bool.{Bool, true, false, not, ◌&&◌, ◌||◌, and_comm, or_comm}
use mathlib.Core.Logic.{◌⊎◌, inl, inr, ⊎_elim}
use Prim.Native.Nat.{ℕ}
use native.Mathlib.Omega.{arith}
use lib.Dec.{eqb}
use borrow.Author.Tests.{eqb-true, eq-eqb}
use Rattle.table.specs.Links.{Link, same_pair, joins_ends, joins}

and_both : (x y : Bool) → (x && y) ≡ true → (x ≡ true) × (y ≡ true)
and_both true y e = (refl, e)
and_both false y e = absurd (let z : ◌≡◌ {A = ℕ} 0 1 = cc in omega arith)

or_either : (x y : Bool) → (x || y) ≡ true → (x ≡ true) ⊎ (y ≡ true)
or_either true y e = inl refl
or_either false y e = inr e

or_t : (x : Bool) → (x || true) ≡ true
or_t true = refl
or_t false = refl

module _ {C : Type 0} where
  -- what `joins` says: the ends in this order, or the other way round if undirected
  abbrev pub Joined : Bool → ℕ → ℕ → Link C → Type 0
  Joined d u v l = ((l.a ≡ u) × (l.b ≡ v)) ⊎ ((d ≡ false) × (l.a ≡ v) × (l.b ≡ u))

  pub joined : (d : Bool) (u v : ℕ) (l : Link C) → joins d u v l ≡ true → Joined d u v l
  unfolding same_pair joins_ends
  joined d u v l e =
      ⊎_elim
      (λ p. let q = and_both _ _ p in inl (eqb-true _ _ q.0, eqb-true _ _ q.1))
      (λ p. let q = and_both _ _ p in let s = and_both _ _ q.1 in inr (not_t d q.0, eqb-true _ _ s.0, eqb-true _ _ s.1))
      (or_either _ _ e)
    where
      not_t : (x : Bool) → not x ≡ true → x ≡ false
      not_t true h = sym h
      not_t false h = refl

  pub joins_of : (d : Bool) (u v : ℕ) (l : Link C) → Joined d u v l → joins d u v l ≡ true
  unfolding same_pair joins_ends
  joins_of d u v l (inl p) = rw (eq-eqb _ _ p.0, eq-eqb _ _ p.1)
  joins_of d u v l (inr p) = rw (p.0, eq-eqb _ _ p.1, eq-eqb _ _ p.2) (or_t (eqb l.a u && eqb l.b v))

  -- two ends that one link joins are joined by the same links
  pub joins_same : (d : Bool) (u v : ℕ) (r l : Link C) → joins d r.a r.b l ≡ true → joins d u v l ≡ joins d u v r
  unfolding same_pair joins_ends
  joins_same d u v r l e =
      ⊎_elim
      (λ p. rw (p.0, p.1))
      (λ p. rw (p.0, p.1, p.2)
      (or_comm (eqb r.b u && eqb r.a v) (eqb r.b v && eqb r.a u)
      ∙ (ap (λ (x : Bool). x || (eqb r.b u && eqb r.a v)) (and_comm (eqb r.b v) (eqb r.a u))
      ∙ ap (λ (x : Bool). (eqb r.a u && eqb r.b v) || x) (and_comm (eqb r.b u) (eqb r.a v)))))
      (joined d r.a r.b l e)

  -- the ends turned into those of a link that joins them
  pub joins_ends_lem : (d : Bool) (u v : ℕ) (l x : Link C) → joins d u v l ≡ true → joins d l.a l.b x ≡ joins d u v x
  unfolding same_pair joins_ends
  joins_ends_lem d u v l x e =
      ⊎_elim
      (λ p. rw (p.0, p.1))
      (λ p. rw (p.0, p.1, p.2) (or_comm (eqb x.a v && eqb x.b u) (eqb x.a u && eqb x.b v)))
      (joined d u v l e)

  pub joins_self : (d : Bool) (l : Link C) → joins d l.a l.b l ≡ true
  joins_self d l = joins_of d l.a l.b l (inl (refl, refl))

  pub joins_turn : (d : Bool) (r l : Link C) → joins d r.a r.b l ≡ true → joins d l.a l.b r ≡ true
  joins_turn d r l e = joins_ends_lem d r.a r.b l r e ∙ joins_self d r
