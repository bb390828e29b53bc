-- Document 01's pending bag, sentence by sentence: a list of pairs that may hold several for one index.
use Rattle.std.specs.Prelude.{◌≡◌, Bool, true, false, List, [], ◌∷◌}
use Rattle.std.proofs.Math.Option.{Option, none, some}
use Prim.Native.Nat.{ℕ, zero, suc}
use Rattle.bag.specs.Order.{pick, before}
use Rattle.pending.specs.Setting.{upd, Setting, is_target, End, refused}

-- "A bag of (key, index) pairs." The key is made from a distance, which the pair keeps
pub record Pair (K : Type 0) : Type 0 where
  pub at : K
  pub ix : ℕ

-- distances, predecessors, the bag, and how many pairs were taken and not dropped
pub record State (K : Type 0) : Type 0 where
  pub dist : ℕ → Option K
  pub pred : ℕ → Option ℕ
  pub bag : List (Pair K)
  pub takes : ℕ

-- the search goes on, or has ended
pub data After (K : Type 0) : Type 0 where
  goes : State K → After K
  ends : End K → After K

-- the search's answers as they stand
abbrev pub done : {K : Type 0} → State K → End K
done s = record { number = 0; dist = s.dist; pred = s.pred; takes = s.takes }

module _ {K C : Type 0} (S : Setting K C) where
  -- "Start: source with distance 0 and key 0 (A*: 0 plus its heuristic)."
  unfoldable pub start : State K
  start = record {
    dist = upd (λ v. none) S.source (some S.zero);
    pred = λ v. none;
    bag = record { at = S.zero; ix = S.source } ∷ [];
    takes = 0;
  }

  -- "the least pair, smaller index first on equal keys"
  abbrev pub first : Pair K → Pair K → Bool
  first p q = before S.lt (S.key p.at p.ix) p.ix (S.key q.at q.ix) q.ix

  -- of the bag p ∷ l, the least pair, and the others
  unfoldable pub least : Pair K → List (Pair K) → Pair K
  least p [] = p
  least p (q ∷ l) = least (pick (first q p) q p) l

  -- what is left when the least is taken
  unfoldable pub others : Pair K → List (Pair K) → List (Pair K)
  others p [] = []
  others p (q ∷ l) = pick (first q p) p q ∷ others (pick (first q p) q p) l

  -- "if the distance in its key is above the index's present one"
  abbrev pub above : K → Option K → Bool
  above x none = false
  above x (some d) = S.lt d x

  -- "v has no distance or next is strictly smaller"
  abbrev pub better : K → Option K → Bool
  better n none = true
  better n (some d) = S.lt n d

  -- "store it, store the predecessor, add the pair"
  abbrev pub store : ℕ → ℕ → K → State K → State K
  store u v n s = record {
    dist = upd s.dist v (some n);
    pred = upd s.pred v (some u);
    bag = record { at = n; ix = v } ∷ s.bag;
    takes = s.takes;
  }

  -- "next = distance + cost; if v has no distance or next is strictly smaller, .."; a total past the cutoff is passed over
  unfoldable pub look : ℕ → K → ℕ → C → State K → State K
  look u d v c s = pick (S.cut (S.plus d c)) s (pick (better (S.plus d c) (s.dist v)) (store u v (S.plus d c) s) s)

  -- "for each arc to v": a bad cost ends it with 6
  unfoldable pub each_arc : ℕ → K → List (ℕ × C) → State K → After K
  each_arc u d [] s = goes s
  each_arc u d (a ∷ l) s = elim (S.bad a.1) [ true ↦ ends (refused s.takes) | false ↦ each_arc u d l (look u d a.0 a.1 s) ]

  module _ (arcs : ℕ → List (ℕ × C)) where
    -- a pair taken and not dropped: "A* also stops when the pair taken is the target's, before looking at its arcs"
    unfoldable pub keep : Pair K → State K → After K
    keep p s = elim (is_target S.target p.ix) [ true ↦ ends (done s) | false ↦ each_arc p.ix p.at (arcs p.ix) s ]

    -- "Drop it if the distance in its key is above the index's present one. Otherwise, .."
    unfoldable pub visit : Pair K → State K → After K
    visit p s = elim (above p.at (s.dist p.ix)) [
      | true ↦ goes s
      | false ↦ keep p (record { dist = s.dist; pred = s.pred; bag = s.bag; takes = suc s.takes })
    ]

    -- "take the least pair"; "Stop when empty"
    unfoldable pub take_from : List (Pair K) → State K → After K
    take_from [] s = ends (done s)
    take_from (p ∷ l) s = visit (least p l) (record { dist = s.dist; pred = s.pred; bag = others p l; takes = s.takes })

    -- one turn of "Repeat"
    unfoldable pub turn : State K → After K
    turn s = take_from s.bag s

    -- the search from a state ends in e
    pub data Ends : State K → End K → Type 0 where
      last : {s : State K} {e : End K} → turn s ≡ ends e → Ends s e
      more : {s t : State K} {e : End K} → turn s ≡ goes t → Ends t e → Ends s e

    -- the same by computation, with fuel
    unfoldable pub run : ℕ → State K → Option (End K)
    unfolding turn take_from visit keep each_arc look least others before
    run zero s = none
    run (suc n) s = elim (turn s) [ goes t ↦ run n t | ends e ↦ some e ]
