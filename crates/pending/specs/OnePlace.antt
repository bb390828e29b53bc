-- The pending bag with one place per index, as the bag over lent memory keeps it.
-- A turn is said without an order of arcs: the arcs are a relation.
use Rattle.std.specs.Prelude.{◌≡◌, Bool, true, false, ℕ, suc}
use Rattle.std.proofs.Math.Option.{Option, none, some}
use Rattle.bag.specs.Order.{before}
use Rattle.pending.specs.Setting.{upd, Setting, is_target, End, refused}
use Rattle.pending.specs.Literal.{better}

-- an index with no distance; or with a distance, its predecessor, and whether its pair is pending
pub data Cell (K : Type 0) : Type 0 where
  out : Cell K
  has : K → Option ℕ → Bool → Cell K

-- the distance, if any
abbrev pub dist_of : {K : Type 0} → Cell K → Option K
dist_of out = none
dist_of (has d p b) = some d

-- the predecessor, if any
abbrev pub pred_of : {K : Type 0} → Cell K → Option ℕ
pred_of out = none
pred_of (has d p b) = p

-- the answers as they stand, after n kept takes
abbrev pub done_at : {K : Type 0} → (ℕ → Cell K) → ℕ → End K
done_at s n = record { number = 0; dist = λ v. dist_of (s v); pred = λ v. pred_of (s v); takes = n }

module _ {K C : Type 0} (S : Setting K C) where
  -- the source alone, pending
  unfoldable pub begin : ℕ → Cell K
  begin = upd (λ v. out) S.source (has S.zero none true)

  -- the least pending pair is u's, at the distance d
  pub record Takes (s : ℕ → Cell K) (u : ℕ) (d : K) (p : Option ℕ) : Type 0 where
    pub held : s u ≡ has d p true
    pub least : (v : ℕ) (e : K) (q : Option ℕ) → s v ≡ has e q true → before S.lt (S.key e v) v (S.key d u) u ≡ false

  -- what a turn of u at d does to an index, where A holds the costs of the arcs to it: the least of its distance and the totals not cut;
  -- the predecessor is u exactly if that is strictly smaller or there was none
  pub data NewCell (A : C → Type 0) (u : ℕ) (d : K) (old new : Cell K) : Type 0 where
    stays : ((c : C) → A c → S.cut (S.plus d c) ≡ false → better S (S.plus d c) (dist_of old) ≡ false) → new ≡ old → NewCell A u d old new
    stores : (c : C) → A c → S.cut (S.plus d c) ≡ false → better S (S.plus d c) (dist_of old) ≡ true
        → ((b : C) → A b → S.cut (S.plus d b) ≡ false → S.lt (S.plus d b) (S.plus d c) ≡ false)
        → new ≡ has (S.plus d c) (some u) true → NewCell A u d old new

  -- every index at once
  abbrev pub Turned : (ℕ → C → Type 0) → ℕ → K → (ℕ → Cell K) → (ℕ → Cell K) → Type 0
  Turned A u d s t = (v : ℕ) → NewCell (A v) u d (s v) (t v)

  module _ (Arc : ℕ → ℕ → C → Type 0) where
    -- one turn that goes on: u is taken, is not the target, none of its arcs is bad
    pub record Next (s t : ℕ → Cell K) : Type 0 where
      pub u : ℕ
      pub d : K
      pub p : Option ℕ
      pub taken : Takes s u d p
      pub passed : is_target S.target u ≡ false
      pub good : (v : ℕ) (c : C) → Arc u v c → S.bad c ≡ false
      pub turned : Turned (Arc u) u d (upd s u (has d p false)) t

    -- the search from s, after n kept takes, ends in e
    pub data Ends : (ℕ → Cell K) → ℕ → End K → Type 0 where
      empty : {s : ℕ → Cell K} {n : ℕ} → ((v : ℕ) (d : K) (p : Option ℕ) → s v ≡ has d p true → ⊥) → Ends s n (done_at s n)
      found : {s : ℕ → Cell K} {n : ℕ} (u : ℕ) (d : K) (p : Option ℕ) → Takes s u d p → is_target S.target u ≡ true
          → Ends s n (done_at s (suc n))
      wrong : {s : ℕ → Cell K} {n : ℕ} (u : ℕ) (d : K) (p : Option ℕ) → Takes s u d p → is_target S.target u ≡ false
          → (v : ℕ) (c : C) → Arc u v c → S.bad c ≡ true → Ends s n (refused (suc n))
      more : {s t : ℕ → Cell K} {n : ℕ} {e : End K} → Next s t → Ends t (suc n) e → Ends s n e
