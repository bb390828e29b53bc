-- The lists that a search writes, and what they say of each index.
-- Assumes nothing.
use Rattle.std.specs.Prelude.{◌≡◌, Bool, true, false, List, ℕ, ◌≤◌, ltb, length, get_or, replicate}
use Rattle.std.proofs.Math.Option.{Option, none, some}
use Rattle.clean.specs.None.{none_u32, shown}
use Rattle.bag.specs.Order.{pick}
use Rattle.bag.specs.Content.{content_of}
use Rattle.bag.specs.Bag.{Bag}
use Rattle.pending.specs.Setting.{End}
use Rattle.pending.specs.OnePlace.{Cell, dist_of, pred_of}
use Rattle.pending.specs.Laws.{OkCell}
use Rattle.pending.specs.Content.{cell_of, Holds}
use Rattle.turns.specs.Kind.{Kind, turn_of}

pub record Memory (K : Type 0) : Type 0 where
  pub dist : List K
  pub preds : List ℕ
  pub peaks : List ℕ
  pub words : List ℕ
  pub keys : List K

abbrev pub memory_of : {K : Type 0} → List K → List ℕ → List ℕ → List ℕ → List K → Memory K
memory_of d p h i k = record { dist = d; preds = p; peaks = h; words = i; keys = k }

-- the lists show an answer: each distance and each predecessor, none where there is none
pub record Shows {K : Type 0} (blank : K) (e : End K) (M : Memory K) : Type 0 where
  pub dist : (v : ℕ) → get_or M.dist v blank ≡ shown blank (e.dist v)
  pub preds : (v : ℕ) → get_or M.preds v none_u32 ≡ shown none_u32 (e.pred v)

-- a predecessor as it is read
abbrev pub pred_in : ℕ → Option ℕ
pred_in p = pick (ltb p none_u32) (some p) none

-- is a key there?
abbrev pub is_pending : {K : Type 0} → Option K → Bool
is_pending none = false
is_pending (some k) = true

module _ {K C : Type 0} (Y : Kind K C) where
  -- what the lists say of an index, for the pending bag
  unfoldable pub cells : List K → List ℕ → List (Option K) → ℕ → Cell K
  cells ds ps ct v = cell_of (Y.read (get_or ds v Y.blank)) (pred_in (get_or ps v none_u32)) (is_pending (get_or ct v none))

  abbrev pub cells_of : Memory K → ℕ → Cell K
  cells_of M = cells M.dist M.preds (content_of M.words M.keys)

  -- the lists are m long and say one thing: a bag of n pairs, with the key of each pending index
  pub record Good (m : ℕ) (M : Memory K) (n : ℕ) : Type 0 where
    pub long_d : length M.dist ≡ m
    pub long_p : length M.preds ≡ m
    pub long_b : length M.words ≡ m
    pub bag : Bag Y.order M.peaks M.words M.keys n
    pub holds : Holds (turn_of Y) (λ v. get_or (content_of M.words M.keys) v none) (cells_of M)
    pub oks : (v : ℕ) → OkCell Y.good (cells_of M v)
    pub tidy_d : (v : ℕ) → get_or M.dist v Y.blank ≡ shown Y.blank (dist_of (cells_of M v))
    pub tidy_p : (v : ℕ) → get_or M.preds v none_u32 ≡ shown none_u32 (pred_of (cells_of M v))

  -- the lists before a search: nothing has a distance, nothing is pending
  pub record Fresh (m : ℕ) (M : Memory K) : Type 0 where
    pub few : m ≤ 1024
    pub dist : M.dist ≡ replicate m Y.blank
    pub preds : M.preds ≡ replicate m none_u32
    pub peaks : M.peaks ≡ replicate m 0
    pub words : M.words ≡ replicate m 0
    pub keys : length M.keys ≡ m
