-- Where each index is taken at most once, the search ends, and the number of kept takes is the number of indices that have a distance.
-- The indices taken, listed, have no repeats (Settle) and are among those of the map: so there are no more takes than indices (Pigeon), and at the end,
-- when nothing is pending, the list holds exactly the indices with a distance. Over any kind of key.
use mathlib.Core.Path.{◌≡◌, refl, sym, ap, ◌∙◌, subst}
use mathlib.Core.Bool.{Bool, true, false}
use mathlib.Core.Logic.{◌⊎◌, inl, inr}
use mathlib.Core.List.{List, [], ◌∷◌}
use mathlib.Core.Option.{Option, none, some}
use Prim.Native.Nat.{ℕ, suc, ◌-◌, ◌<◌, ◌≤◌}
use native.Mathlib.Omega.{arith}
use lib.ListN.{length}
use Rattle.walks.specs.Pigeon.{In, here, there, NoDup}
use Rattle.walks.proofs.Pigeon.{short}
use Rattle.pending.specs.Setting.{upd, Setting, is_target, End, ArcOf}
use Rattle.pending.specs.Literal as Lit
use Rattle.pending.specs.OnePlace.{Cell, out, has, dist_of, begin, Takes, NewCell, stays, stores, Next, Ends, empty, found, wrong, more}
use Rattle.pending.specs.Laws.{Laws}
use Rattle.pending.proofs.Cells.{upd_cases, not_out, not_pending}
use Rattle.pending.proofs.Total.{search_ends}
use Rattle.pending.proofs.Settle.{Settled, begin_settled, next_settled, keys_rise}

-- every index with a distance is one of ps
abbrev pub Within : {K : Type 0} → List ℕ → (ℕ → Cell K) → Type 0
Within {K} ps s = (v : ℕ) (d : K) (p : Option ℕ) (b : Bool) → s v ≡ has d p b → In v ps

-- the indices of the pairs taken
abbrev pub indices : {K : Type 0} → List (ℕ × K) → List ℕ
indices [] = []
indices (a ∷ l) = a.0 ∷ indices l

-- of pairs listed the last first, each key is not below the one before it
abbrev pub Rising : {K : Type 0} → (K → K → Bool) → List (ℕ × K) → Type 0
Rising lt [] = Unit {0}
Rising lt (a ∷ []) = Unit {0}
Rising lt (a ∷ b ∷ l) = (lt a.1 b.1 ≡ false) × Rising lt (b ∷ l)

-- the pairs taken and kept from the start to a state, the last first
pub data Took {K C : Type 0} (S : Setting K C) (Arc : ℕ → ℕ → C → Type 0) : List (ℕ × K) → (ℕ → Cell K) → Type 0 where
  none_yet : Took S Arc [] (begin S)
  then : {l : List (ℕ × K)} {s t : ℕ → Cell K} → Took S Arc l s → (w : Next S Arc s t) → Took S Arc ((w.u, w.d) ∷ l) t

module _ {K C : Type 0} (S : Setting K C) (Arc : ℕ → ℕ → C → Type 0) (ps : List ℕ) (source_in : In S.source ps) (heads_in : (u v : ℕ) (c : C) → Arc u v c → In v ps) where
  -- at the start
  pub begin_within : Within ps (begin S)
  unfolding begin
  begin_within v d p b e = go (upd_cases (λ w. out) S.source (has S.zero none true) v (has d p b) e)
    where
      go : ((v ≡ S.source) × (has S.zero none true ≡ has d p b)) ⊎ ((v ≡ S.source → ⊥) × (out ≡ has d p b)) → In v ps
      go (inl i) = subst (λ (x : ℕ). In x ps) (sym i.0) source_in
      go (inr i) = absurd (not_out i.1)

  -- a turn keeps it
  pub next_within : {s t : ℕ → Cell K} → Within ps s → Next S Arc s t → Within ps t
  next_within {s} {t} f w v d p b e = go (w.turned v)
    where
      old : ((v ≡ w.u) × (has w.d w.p false ≡ has d p b)) ⊎ ((v ≡ w.u → ⊥) × (s v ≡ has d p b)) → In v ps
      old (inl i) = subst (λ (x : ℕ). In x ps) (sym i.0) (f w.u w.d w.p true w.taken.held)
      old (inr i) = f v d p b i.1

      go : NewCell S (Arc w.u v) w.u w.d (upd s w.u (has w.d w.p false) v) (t v) → In v ps
      go (stays g i) = old (upd_cases s w.u (has w.d w.p false) v (has d p b) (sym i ∙ e))
      go (stores c a k g m i) = heads_in w.u v c a

module _ {K C : Type 0} (S : Setting K C) {ok : K → Type 0} (L : Laws S ok) (plain : (d : K) (v : ℕ) → S.key d v ≡ d)
    (grows : (d : K) (c : C) → ok d → S.bad c ≡ false → S.lt (S.plus d c) d ≡ false) (Arc : ℕ → ℕ → C → Type 0) where
  -- the indices taken are listed, n of them
  pub record Once (s : ℕ → Cell K) (n : ℕ) : Type 0 where
    pub taken : List ℕ
    pub settled : Settled S L plain grows Arc s taken
    pub many : length taken ≡ n

  -- at the start none
  pub begin_once : Once (begin S) 0
  begin_once = record { taken = []; settled = begin_settled S L plain grows Arc; many = refl }

  -- a turn takes one more
  pub next_once : {s t : ℕ → Cell K} {n : ℕ} → Once s n → Next S Arc s t → Once t (suc n)
  next_once h w = record { taken = w.u ∷ h.taken; settled = next_settled S L plain grows Arc h.settled w; many = ap suc h.many }

  -- no more takes than indices: what a loop over the bag counts down
  pub once_few : {s : ℕ → Cell K} {n : ℕ} (ps : List ℕ) → Within ps s → Once s n → n ≤ length ps
  once_few ps f h = omega (arith, h.many, short h.taken ps h.settled.distinct (λ x i. let k = h.settled.only x i in f x k.0 k.1 false k.2))

  -- an index that is taken next is one more
  one_more : {s : ℕ → Cell K} {n : ℕ} {u : ℕ} {d : K} {p : Option ℕ} (ps : List ℕ) → Within ps s → Once s n → Takes S s u d p → suc n ≤ length ps
  one_more {s} {u} {d} {p} ps f h t = omega (arith, h.many, short (u ∷ h.taken) ps ((λ i. let k = h.settled.only u i in not_pending (sym t.held ∙ k.2)), h.settled.distinct) inside)
    where
      inside : (x : ℕ) → In x (u ∷ h.taken) → In x ps
      inside x (here e) = subst (λ (z : ℕ). In z ps) (sym e) (f u d p true t.held)
      inside x (there i) = let k = h.settled.only x i in f x k.0 k.1 false k.2

  -- no more kept takes than indices
  pub takes_few : {s : ℕ → Cell K} {n : ℕ} {e : End K} (ps : List ℕ) → In S.source ps → ((u v : ℕ) (c : C) → Arc u v c → In v ps) → Within ps s → Once s n → Ends S Arc s n e → e.takes ≤ length ps
  takes_few ps i f g h (empty z) = once_few ps g h
  takes_few ps i f g h (found u d p t z) = one_more ps g h t
  takes_few ps i f g h (wrong u d p t z v c a b) = one_more ps g h t
  takes_few ps i f g h (more w r) = takes_few ps i f (next_within S Arc ps i f g w) (next_once h w) r

  -- ---- the order of takes
  -- what was taken is settled
  took_settled : {l : List (ℕ × K)} {s : ℕ → Cell K} → Took S Arc l s → Settled S L plain grows Arc s (indices l)
  took_settled none_yet = begin_settled S L plain grows Arc
  took_settled (then g w) = next_settled S L plain grows Arc (took_settled g) w

  -- no index is taken and kept twice, and keys come out in rising order
  pub once_rising : {l : List (ℕ × K)} {s : ℕ → Cell K} {u : ℕ} {d : K} {p : Option ℕ} → Took S Arc l s → Takes S s u d p → NoDup (u ∷ indices l) × Rising S.lt ((u, d) ∷ l)
  once_rising {l} {s} {u} {d} {p} g t = ((λ i. let k = h.only u i in not_pending (sym t.held ∙ k.2), h.distinct), rise g t)
    where
      h : Settled S L plain grows Arc s (indices l)
      h = took_settled g

      rise : {l : List (ℕ × K)} {s : ℕ → Cell K} {u : ℕ} {d : K} {p : Option ℕ} → Took S Arc l s → Takes S s u d p → Rising S.lt ((u, d) ∷ l)
      rise none_yet t = tt
      rise {u} {d} {p} (then g w) t = (keys_rise S L plain grows Arc (took_settled g) w u d p t, rise g w.taken)

  -- an index counts if it has a distance
  pub record Counted (e : End K) : Type 0 where
    pub those : List ℕ
    pub distinct : NoDup those
    pub have : (v : ℕ) → In v those → (d : K) × (e.dist v ≡ some d)
    pub all : (v : ℕ) (d : K) → e.dist v ≡ some d → In v those
    pub many : e.takes ≡ length those

  -- where the target, if there is one, has no distance at the end, and no bad cost was met: kept takes = indices with a distance
  pub counted : {s : ℕ → Cell K} {n : ℕ} {e : End K} → ((u : ℕ) → is_target S.target u ≡ true → e.dist u ≡ none) → Once s n → Ends S Arc s n e → e.number ≡ 0 → Counted e
  counted {s} {n} z h (empty f) q = record {
    those = h.taken;
    distinct = h.settled.distinct;
    have = λ v i. let k = h.settled.only v i in (k.0, ap dist_of k.2);
    all = λ v d i. at v (s v) refl d i;
    many = sym h.many;
  }
    where
      at : (v : ℕ) (c : Cell K) → s v ≡ c → (d : K) → dist_of c ≡ some d → In v h.taken
      at v out i d k = absurd (let g : ◌≡◌ {A = ℕ} 0 1 = cc in omega arith)
      at v (has x p true) i d k = absurd (f v x p i)
      at v (has x p false) i d k = h.settled.listed v x p i
  counted z h (found u d p t g) q = absurd (let i : some d ≡ none = sym (ap dist_of t.held) ∙ z u g in let k : ◌≡◌ {A = ℕ} 0 1 = cc in omega arith)
  counted z h (wrong u d p t g v c a b) q = absurd (omega arith)
  counted z h (more w r) q = counted z (next_once h w) r q

module _ {K C : Type 0} (S : Setting K C) {ok : K → Type 0} (L : Laws S ok) (plain : (d : K) (v : ℕ) → S.key d v ≡ d)
    (grows : (d : K) (c : C) → ok d → S.bad c ≡ false → S.lt (S.plus d c) d ≡ false) (arcs : ℕ → List (ℕ × C))
    (ps : List ℕ) (source_in : In S.source ps) (heads_in : (u v : ℕ) (c : C) → ArcOf arcs u v c → In v ps) where
  -- such a search ends
  pub plain_ends : (e : End K) × Lit.Ends S arcs (Lit.start S) e × Ends S (ArcOf arcs) (begin S) 0 e
  plain_ends =
      search_ends S L arcs (λ s n. Once S L plain grows (ArcOf arcs) s n × Within ps s) (λ s n. length ps - n) (λ s n. 0) falls
      (begin_once S L plain grows (ArcOf arcs), begin_within S (ArcOf arcs) ps source_in heads_in)
    where
      falls : (s t : ℕ → Cell K) (n : ℕ) → Once S L plain grows (ArcOf arcs) s n × Within ps s → Next S (ArcOf arcs) s t
          → (Once S L plain grows (ArcOf arcs) t (suc n) × Within ps t) × ((length ps - suc n < length ps - n) ⊎ ((length ps - suc n ≤ length ps - n) × (0 < 0)))
      falls s t n i w =
          let a = next_once S L plain grows (ArcOf arcs) i.0 w in
          let b = next_within S (ArcOf arcs) ps source_in heads_in i.1 w in
          ((a, b), inl (let k : suc n ≤ length ps = once_few S L plain grows (ArcOf arcs) ps b a in omega arith))
