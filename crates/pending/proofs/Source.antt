-- What the source has, and what every other index has: where no good key is below the source's distance, the source keeps it and has no predecessor,
-- and any other index has both a distance and a predecessor or neither. For a store gives both, and none can be below the source's distance. Over any kind of key.
use mathlib.Core.Path.{◌≡◌, refl, sym, ap, ◌∙◌, subst}
use mathlib.Core.Bool.{Bool, true, false}
use mathlib.Core.Logic.{◌⊎◌, inl, inr}
use mathlib.Core.Option.{Option, none, some}
use Prim.Native.Nat.{ℕ}
use native.Mathlib.Omega.{arith}
use Rattle.whole.proofs.Cases.{clash}
use Rattle.pending.specs.Setting.{upd, Setting, End}
use Rattle.pending.specs.Literal.{better}
use Rattle.pending.specs.OnePlace.{Cell, out, has, dist_of, pred_of, begin, NewCell, stays, stores, Next, Ends, empty, found, wrong, more}
use Rattle.pending.specs.Laws.{Laws, OkCell}
use Rattle.pending.proofs.Cells.{upd_cases, upd_here, upd_there}
use Rattle.pending.proofs.One.{cell_ok, begin_ok, next_ok}

-- a distance and a predecessor, or neither
pub data Both {K : Type 0} : Option K → Option ℕ → Type 0 where
  neither : Both none none
  both : {d : K} {u : ℕ} → Both (some d) (some u)

-- of a cell
abbrev pub Fed : {K : Type 0} → Cell K → Type 0
Fed c = Both (dist_of c) (pred_of c)

-- so of the cell of an index that is taken
fed_pop : {K : Type 0} {d : K} {p : Option ℕ} (c : Cell K) → c ≡ has d p true → Fed c → Fed (has d p false)
fed_pop {d} {p} c e f = subst (λ (z : Cell _). Both (dist_of z) (pred_of z)) e f

-- what a search ends in, at the source and elsewhere
pub record FromSource {K C : Type 0} (S : Setting K C) (e : End K) : Type 0 where
  pub dist : e.dist S.source ≡ some S.zero
  pub pred : e.pred S.source ≡ none
  pub others : (v : ℕ) → (v ≡ S.source → ⊥) → Both (e.dist v) (e.pred v)

module _ {K C : Type 0} (S : Setting K C) {ok : K → Type 0} (L : Laws S ok) (low : (n : K) → ok n → S.lt n S.zero ≡ false) (Arc : ℕ → ℕ → C → Type 0) where
  -- at every moment
  pub record Sourced (s : ℕ → Cell K) : Type 0 where
    pub flag : Bool
    pub own : s S.source ≡ has S.zero none flag
    pub fed : (v : ℕ) → (v ≡ S.source → ⊥) → Fed (s v)

  -- at the start
  begin_sourced : Sourced (begin S)
  unfolding begin
  begin_sourced = record {
    flag = true;
    own = upd_here (λ w. out) S.source (has S.zero none true);
    fed = λ v n. subst (λ (z : Cell K). Fed z) (sym (upd_there (λ w. out) S.source (has S.zero none true) v n)) neither;
  }

  module _ {s t : ℕ → Cell K} (oks : (v : ℕ) → OkCell ok (s v)) (h : Sourced s) (w : Next S Arc s t) where
    -- taking u leaves the source what it has
    own_pop : (b : Bool) × (upd s w.u (has w.d w.p false) S.source ≡ has S.zero none b)
    own_pop = go (upd_cases s w.u (has w.d w.p false) S.source _ refl)
      where
        go : ((S.source ≡ w.u) × (has w.d w.p false ≡ upd s w.u (has w.d w.p false) S.source)) ⊎
            ((S.source ≡ w.u → ⊥) × (s S.source ≡ upd s w.u (has w.d w.p false) S.source))
            → (b : Bool) × (upd s w.u (has w.d w.p false) S.source ≡ has S.zero none b)
        go (inl i) =
            let k : has S.zero none h.flag ≡ has w.d w.p true = sym h.own ∙ ap s i.0 ∙ w.taken.held in
            let x : w.d ≡ S.zero = cc in
            let y : w.p ≡ none = cc in
            (false, sym i.1 ∙ (λ j. has (x j) (y j) false))
        go (inr i) = (h.flag, sym i.1 ∙ h.own)

    -- nor does a store change it
    own_next : (b : Bool) × (t S.source ≡ has S.zero none b)
    own_next = go (w.turned S.source)
      where
        go : NewCell S (Arc w.u S.source) w.u w.d (upd s w.u (has w.d w.p false) S.source) (t S.source) → (b : Bool) × (t S.source ≡ has S.zero none b)
        go (stays f e) = (own_pop.0, e ∙ own_pop.1)
        go (stores c a k b m e) =
            absurd (clash (ap (λ (z : Cell K). better S (S.plus w.d c) (dist_of z)) (sym own_pop.1) ∙ b)
            (low (S.plus w.d c) (L.plus_ok w.d c (cell_ok ok w.taken.held (oks w.u)) (w.good S.source c a))))

    -- every other index
    fed_next : (v : ℕ) → (v ≡ S.source → ⊥) → Fed (t v)
    fed_next v n = go (w.turned v)
      where
        old : ((v ≡ w.u) × (has w.d w.p false ≡ t v)) ⊎ ((v ≡ w.u → ⊥) × (s v ≡ t v)) → Fed (t v)
        old (inl i) = subst (λ (z : Cell K). Fed z) i.1 (fed_pop (s v) (ap s i.0 ∙ w.taken.held) (h.fed v n))
        old (inr i) = subst (λ (z : Cell K). Fed z) i.1 (h.fed v n)

        go : NewCell S (Arc w.u v) w.u w.d (upd s w.u (has w.d w.p false) v) (t v) → Fed (t v)
        go (stays f e) = old (upd_cases s w.u (has w.d w.p false) v (t v) (sym e))
        go (stores c a k b m e) = subst (λ (z : Cell K). Fed z) (sym e) both

    -- a turn keeps it
    next_sourced : Sourced t
    next_sourced = record { flag = own_next.0; own = own_next.1; fed = fed_next }

  -- from any moment
  ends_sourced : {s : ℕ → Cell K} {n : ℕ} {e : End K} → ((v : ℕ) → OkCell ok (s v)) → Sourced s → Ends S Arc s n e → e.number ≡ 0 → FromSource S e
  ends_sourced oks h (empty f) z = record { dist = ap dist_of h.own; pred = ap pred_of h.own; others = h.fed }
  ends_sourced oks h (found u d p t g) z = record { dist = ap dist_of h.own; pred = ap pred_of h.own; others = h.fed }
  ends_sourced oks h (wrong u d p t g v c a b) z = absurd (omega arith)
  ends_sourced oks h (more w r) z = ends_sourced (next_ok S L Arc oks w) (next_sourced oks h w) r z

  -- from the start
  pub from_source : (e : End K) → Ends S Arc (begin S) 0 e → e.number ≡ 0 → FromSource S e
  from_source e r = ends_sourced (begin_ok S L) begin_sourced r
