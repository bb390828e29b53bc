-- Demand 3 on lists of links. The cost of a link is that of the first place that joins its ends. A put sets the cost of its own link and
-- of no other, so after a feed each link has the cost of its last record, as in the list of last records, and stands once. Lists in
-- which no link stands twice and each has the same cost have the same arcs; and they are equally long, for taking one link out of both
-- leaves lists of the same kind.
-- Assumes nothing.
use mathlib.Core.Path.{◌≡◌, refl, sym, ap, ◌∙◌, subst}
use mathlib.Core.Bool.{Bool, true, false, cond, ◌||◌}
use mathlib.Core.List.{List, [], ◌∷◌}
use mathlib.Core.Logic.{◌⊎◌, inl, inr, ◌↔◌}
use mathlib.Core.Option.{Option, none, some}
use Prim.Native.Nat.{ℕ, suc, ◌≤◌}
use lib.ListN.{length}
use native.Mathlib.Omega.{arith}
use Rattle.whole.proofs.Cases.{or_no}
use Rattle.table.specs.Links.{Link, link_of, joins, Arc}
use Rattle.table.specs.Feeds.{names, lasts, Single}
use Rattle.table.proofs.Tables.{put_list, cost_of, last_cost, feed_into, Within}
use Rattle.table.proofs.Joins.{joins_same, joins_ends_lem, joins_self, joins_turn}

no_none : {A C : Type 0} {x : C} → none ≡ some x → A
no_none e = absurd (let z : ◌≡◌ {A = ℕ} 0 1 = cc in omega arith)

pub not_both : {A : Type 0} {x : Bool} → x ≡ true → x ≡ false → A
not_both p q = absurd (let z : ◌≡◌ {A = ℕ} 0 1 = cc in omega arith)

module _ {C : Type 0} where
  -- a link has no cost exactly where the list does not name it
  pub cost_none : (d : Bool) (u v : ℕ) (ls : List (Link C)) → names d u v ls ≡ false → cost_of d u v ls ≡ none
  cost_none d u v [] h = refl
  cost_none d u v (l ∷ ls) h = let p = or_no (joins d u v l) _ h in rw p.0 (cost_none d u v ls p.1)

  pub none_names : (d : Bool) (u v : ℕ) (ls : List (Link C)) → cost_of d u v ls ≡ none → names d u v ls ≡ false
  none_names d u v [] h = refl
  none_names d u v (l ∷ ls) h = go (none_names d u v ls) (joins d u v l) h
    where
      go : (cost_of d u v ls ≡ none → names d u v ls ≡ false) → (t : Bool) → cond t (some l.cost) (cost_of d u v ls) ≡ none → (t || names d u v ls) ≡ false
      go f true q = no_none (sym q)
      go f false q = f q

  -- a put sets the cost of its own link and of no other
  pub cost_put : (d : Bool) (u v : ℕ) (r : Link C) (ls : List (Link C)) → cost_of d u v (put_list d r ls) ≡ cond (joins d u v r) (some r.cost) (cost_of d u v ls)
  cost_put d u v r [] = refl
  cost_put d u v r (l ∷ ls) = go (cost_put d u v r ls) (joins d r.a r.b l) refl
    where
      flip : (x y : Bool) → joins d u v l ≡ x → joins d u v r ≡ y → joins d r.a r.b l ≡ false
          → cond x (some l.cost) (cond y (some r.cost) (cost_of d u v ls)) ≡ cond y (some r.cost) (cond x (some l.cost) (cost_of d u v ls))
      flip false y p q n = refl
      flip true false p q n = refl
      flip true true p q n = not_both (joins_ends_lem d u v r l q ∙ p) n

      same : (x y : Bool) → x ≡ y → cond x (some r.cost) (cost_of d u v ls) ≡ cond y (some r.cost) (cond x (some l.cost) (cost_of d u v ls))
      same true true e = refl
      same false false e = refl
      same true false e = not_both refl e
      same false true e = not_both refl (sym e)

      go : cost_of d u v (put_list d r ls) ≡ cond (joins d u v r) (some r.cost) (cost_of d u v ls) → (t : Bool) → joins d r.a r.b l ≡ t
          → cost_of d u v (cond t (link_of l.a l.b r.cost ∷ ls) (l ∷ put_list d r ls)) ≡ cond (joins d u v r) (some r.cost) (cond (joins d u v l) (some l.cost) (cost_of d u v ls))
      go h true e = same (joins d u v l) (joins d u v r) (joins_same d u v r l e)
      go h false e = rw h (flip (joins d u v l) (joins d u v r) refl refl e)

  -- no link stands twice after a put, nor after a feed, nor among the last records
  pub single_put : (d : Bool) (r : Link C) (ls : List (Link C)) → Single d ls → Single d (put_list d r ls)
  single_put d r [] s = (refl, tt)
  single_put d r (l ∷ ls) s = go (single_put d r ls s.1) (joins d r.a r.b l) refl
    where
      off : (t : Bool) → joins d l.a l.b r ≡ t → joins d r.a r.b l ≡ false → t ≡ false
      off false p n = refl
      off true p n = not_both (joins_turn d l r p) n

      go : Single d (put_list d r ls) → (t : Bool) → joins d r.a r.b l ≡ t → Single d (cond t (link_of l.a l.b r.cost ∷ ls) (l ∷ put_list d r ls))
      go h true e = s
      go h false e = (none_names d l.a l.b (put_list d r ls) (cost_put d l.a l.b r ls ∙ rw (off (joins d l.a l.b r) refl e) (cost_none d l.a l.b ls s.0)), h)

  pub single_feed : (d : Bool) (rs ls : List (Link C)) → Single d ls → Single d (feed_into d ls rs)
  single_feed d [] ls s = s
  single_feed d (r ∷ rs) ls s = single_feed d rs (put_list d r ls) (single_put d r ls s)

  -- what a feed does to it: the last record decides, else it stays
  pub cost_feed : (d : Bool) (u v : ℕ) (rs ls : List (Link C)) → cost_of d u v (feed_into d ls rs) ≡ cond (names d u v rs) (last_cost d u v rs) (cost_of d u v ls)
  cost_feed d u v [] ls = refl
  cost_feed d u v (r ∷ rs) ls = cost_feed d u v rs (put_list d r ls) ∙ (ap (λ (o : Option C). cond (names d u v rs) (last_cost d u v rs) o) (cost_put d u v r ls) ∙ go (names d u v rs) (joins d u v r))
    where
      go : (n s : Bool) → cond n (last_cost d u v rs) (cond s (some r.cost) (cost_of d u v ls)) ≡ cond (s || n) (cond n (last_cost d u v rs) (cond s (some r.cost) none)) (cost_of d u v ls)
      go true true = refl
      go true false = refl
      go false true = refl
      go false false = refl

  -- ends that a link joins have its cost
  cost_ends : (d : Bool) (u v : ℕ) (l : Link C) (ls : List (Link C)) → joins d u v l ≡ true → cost_of d l.a l.b ls ≡ cost_of d u v ls
  cost_ends d u v l [] e = refl
  cost_ends d u v l (x ∷ ls) e = rw (joins_ends_lem d u v l x e, cost_ends d u v l ls e)

  -- where no link stands twice, arcs and costs are the same thing
  pub cost_of_arc : (d : Bool) (ls : List (Link C)) (u v : ℕ) (c : C) → Single d ls → Arc d ls u v c → cost_of d u v ls ≡ some c
  cost_of_arc d [] u v c s w = absurd w
  cost_of_arc d (l ∷ ls) u v c s (inl p) = rw p.0 (ap some p.1)
  cost_of_arc d (l ∷ ls) u v c s (inr w) = go (cost_of_arc d ls u v c s.1 w) (joins d u v l) refl
    where
      go : cost_of d u v ls ≡ some c → (t : Bool) → joins d u v l ≡ t → cond t (some l.cost) (cost_of d u v ls) ≡ some c
      go h false e = h
      go h true e = no_none (sym (cost_none d l.a l.b ls s.0) ∙ (cost_ends d u v l ls e ∙ h))

  pub arc_of_cost : (d : Bool) (ls : List (Link C)) (u v : ℕ) (c : C) → cost_of d u v ls ≡ some c → Arc d ls u v c
  arc_of_cost d [] u v c h = no_none h
  arc_of_cost d (l ∷ ls) u v c h = go (arc_of_cost d ls u v c) (joins d u v l) refl h
    where
      go : (cost_of d u v ls ≡ some c → Arc d ls u v c) → (t : Bool) → joins d u v l ≡ t → cond t (some l.cost) (cost_of d u v ls) ≡ some c → ((joins d u v l ≡ true) × (l.cost ≡ c)) ⊎ Arc d ls u v c
      go f true e q = inl (e, (cc))
      go f false e q = inr (f q)

  -- the links without the first that joins u and v
  abbrev without : Bool → ℕ → ℕ → List (Link C) → List (Link C)
  without d u v [] = []
  without d u v (l ∷ ls) = cond (joins d u v l) ls (l ∷ without d u v ls)

  -- one link less
  length_without : (d : Bool) (u v : ℕ) (ls : List (Link C)) → (cost_of d u v ls ≡ none → ⊥) → length ls ≡ suc (length (without d u v ls))
  length_without d u v [] h = absurd (h refl)
  length_without d u v (l ∷ ls) h = go (λ k. length_without d u v ls k) (joins d u v l) h
    where
      go : ((cost_of d u v ls ≡ none → ⊥) → length ls ≡ suc (length (without d u v ls))) → (t : Bool) → (cond t (some l.cost) (cost_of d u v ls) ≡ none → ⊥)
          → suc (length ls) ≡ suc (length (cond t ls (l ∷ without d u v ls)))
      go f true h = refl
      go f false h = ap suc (f h)

  -- the cost of another link stays
  cost_without : (d : Bool) (q : Link C) (x y : ℕ) (ls : List (Link C)) → joins d x y q ≡ false → cost_of d x y (without d q.a q.b ls) ≡ cost_of d x y ls
  cost_without d q x y [] h = refl
  cost_without d q x y (l ∷ ls) h = go (cost_without d q x y ls h) (joins d q.a q.b l) refl
    where
      go : cost_of d x y (without d q.a q.b ls) ≡ cost_of d x y ls → (t : Bool) → joins d q.a q.b l ≡ t
          → cost_of d x y (cond t ls (l ∷ without d q.a q.b ls)) ≡ cond (joins d x y l) (some l.cost) (cost_of d x y ls)
      go i true e = rw (joins_same d x y q l e ∙ h)
      go i false e = rw i

  -- a list of different links that all stand in another list is not longer: take each out of the other list in turn
  pub no_longer : (d : Bool) (ls ks : List (Link C)) → Single d ls → ((u v : ℕ) → cost_of d u v ks ≡ none → cost_of d u v ls ≡ none) → length ls ≤ length ks
  no_longer d [] ks s h = omega arith
  no_longer d (l ∷ ls) ks s h =
      let n = length_without d l.a l.b ks (λ z. no_none {x = l.cost} (sym (h l.a l.b z) ∙ rw (joins_self d l))) in
      let i = no_longer d ls (without d l.a l.b ks) s.1 (λ u v z. other u v (joins d u v l) refl z) in
      omega arith
    where
      other : (u v : ℕ) (t : Bool) → joins d u v l ≡ t → cost_of d u v (without d l.a l.b ks) ≡ none → cost_of d u v ls ≡ none
      other u v true e z = sym (cost_ends d u v l ls e) ∙ cost_none d l.a l.b ls s.0
      other u v false e z = rw e at (h u v (sym (cost_without d l u v ks e) ∙ z))

  -- lists of different links with the same costs are of one length
  pub same_length : (d : Bool) (ls ks : List (Link C)) → Single d ls → Single d ks → ((u v : ℕ) → cost_of d u v ls ≡ cost_of d u v ks) → length ls ≡ length ks
  same_length d ls ks s t h =
      let p = no_longer d ls ks s (λ u v z. h u v ∙ z) in
      let q = no_longer d ks ls t (λ u v z. sym (h u v) ∙ z) in
      omega arith

  -- the last records
  names_ends : (d : Bool) (u v : ℕ) (l : Link C) (rs : List (Link C)) → joins d u v l ≡ true → names d l.a l.b rs ≡ names d u v rs
  names_ends d u v l [] e = refl
  names_ends d u v l (x ∷ rs) e = rw (joins_ends_lem d u v l x e, names_ends d u v l rs e)

  -- a link that no record names has no last cost
  last_none : (d : Bool) (u v : ℕ) (rs : List (Link C)) → names d u v rs ≡ false → last_cost d u v rs ≡ none
  last_none d u v [] h = refl
  last_none d u v (r ∷ rs) h = let p = or_no (joins d u v r) _ h in rw (p.0, p.1)

  -- the cost of a link in the list of last records
  pub cost_lasts : (d : Bool) (u v : ℕ) (rs : List (Link C)) → cost_of d u v (lasts d rs) ≡ last_cost d u v rs
  cost_lasts d u v [] = refl
  cost_lasts d u v (r ∷ rs) = go (cost_lasts d u v rs) (joins d u v r) refl (names d r.a r.b rs) refl (names d u v rs) refl
    where
      go : cost_of d u v (lasts d rs) ≡ last_cost d u v rs → (s : Bool) → joins d u v r ≡ s → (t : Bool) → names d r.a r.b rs ≡ t → (n : Bool) → names d u v rs ≡ n →
          cost_of d u v (cond t (lasts d rs) (r ∷ lasts d rs)) ≡ cond n (last_cost d u v rs) (cond s (some r.cost) none)
      go h true q true e true f = h
      go h true q false e false f = rw q
      go h true q true e false f = not_both (sym (names_ends d u v r rs q) ∙ e) f
      go h true q false e true f = not_both f (sym (names_ends d u v r rs q) ∙ e)
      go h false q true e true f = h
      go h false q false e true f = rw q h
      go h false q true e false f = h ∙ last_none d u v rs f
      go h false q false e false f = rw q (h ∙ last_none d u v rs f)

  pub single_lasts : (d : Bool) (rs : List (Link C)) → Single d (lasts d rs)
  single_lasts d [] = tt
  single_lasts d (r ∷ rs) = go (single_lasts d rs) (names d r.a r.b rs) refl
    where
      go : Single d (lasts d rs) → (t : Bool) → names d r.a r.b rs ≡ t → Single d (cond t (lasts d rs) (r ∷ lasts d rs))
      go h true e = h
      go h false e = (none_names d r.a r.b (lasts d rs) (cost_lasts d r.a r.b rs ∙ last_none d r.a r.b rs e), h)

  -- lists of different links with the same costs have the same arcs
  pub same_arcs : (d : Bool) (ls ks : List (Link C)) → Single d ls → Single d ks → ((u v : ℕ) → cost_of d u v ls ≡ cost_of d u v ks) → (u v : ℕ) (c : C) → Arc d ls u v c ↔ Arc d ks u v c
  same_arcs d ls ks s t h u v c = (
    λ w. arc_of_cost d ks u v c (sym (h u v) ∙ cost_of_arc d ls u v c s w),
    λ w. arc_of_cost d ls u v c (h u v ∙ cost_of_arc d ks u v c t w),
  )

  -- and the other way round: where the arcs are the same, so are the costs
  pub same_costs : (d : Bool) (ls ks : List (Link C)) → Single d ls → Single d ks → ((u v : ℕ) (c : C) → Arc d ls u v c ↔ Arc d ks u v c) → (u v : ℕ) → cost_of d u v ls ≡ cost_of d u v ks
  same_costs d ls ks s t h u v = go (cost_of d u v ls) refl (cost_of d u v ks) refl
    where
      go : (x : Option C) → cost_of d u v ls ≡ x → (y : Option C) → cost_of d u v ks ≡ y → x ≡ y
      go none p none q = refl
      go (some c) p y q = sym (cost_of_arc d ks u v c t ((h u v c).0 (arc_of_cost d ls u v c p))) ∙ q
      go none p (some c) q = sym p ∙ cost_of_arc d ls u v c s ((h u v c).1 (arc_of_cost d ks u v c q))

  -- a list fed from nothing has the costs of the last records
  pub fed_lasts : (d : Bool) (rs : List (Link C)) (u v : ℕ) → cost_of d u v (feed_into d [] rs) ≡ cost_of d u v (lasts d rs)
  fed_lasts d rs u v = cost_feed d u v rs [] ∙ (go (names d u v rs) refl ∙ sym (cost_lasts d u v rs))
    where
      go : (n : Bool) → names d u v rs ≡ n → cond n (last_cost d u v rs) none ≡ last_cost d u v rs
      go true e = refl
      go false e = sym (last_none d u v rs e)

  -- arcs do not depend on the order of links, nor on their stored ends if undirected
  arc_ends : (d : Bool) (u v : ℕ) (l : Link C) (ks : List (Link C)) (c : C) → joins d u v l ≡ true → Arc d ks l.a l.b c → Arc d ks u v c
  arc_ends d u v l [] c e w = w
  arc_ends d u v l (k ∷ ks) c e (inl p) = inl (sym (joins_ends_lem d u v l k e) ∙ p.0, p.1)
  arc_ends d u v l (k ∷ ks) c e (inr w) = inr (arc_ends d u v l ks c e w)

  -- what stands in another list has its arcs there
  pub arcs_within : (d : Bool) (ls ks : List (Link C)) → Within d ls ks → (u v : ℕ) (c : C) → Arc d ls u v c → Arc d ks u v c
  arcs_within d [] ks h u v c w = absurd w
  arcs_within d (l ∷ ls) ks h u v c (inl p) = arc_ends d u v l ks c p.0 (subst (Arc d ks l.a l.b) p.1 h.0)
  arcs_within d (l ∷ ls) ks h u v c (inr w) = arcs_within d ls ks h.1 u v c w
