-- What the integer search is asked, what it goes by, and what it answers: the end of the pending bag over the neighbour list's arcs.
-- Assumes nothing.
use Rattle.std.specs.Prelude.{false, List, ℕ, ◌-◌, ◌≤◌, ◌<◌, ◌^◌, ltb, ℤ, pos, negsuc, ◌≤ℤ◌, get_or}
use Rattle.std.proofs.Math.Option.{Option, none, some}
use Rattle.std.specs.Int.Signed.{lt_z}
use Rattle.whole.specs.Zed.{◌⊕◌, P}
use Rattle.clean.specs.None.{none_i64}
use Rattle.rows.specs.Rows.{Lists}
use Rattle.rows.specs.RowArc.{RowArc, Sound}
use Rattle.bag.specs.Ints.{ints}
use Rattle.bag.specs.Order.{pick}
use Rattle.pending.specs.Setting.{Setting}
use Rattle.turns.specs.Kind.{Kind, setting_of as setting_for}
use Rattle.turns.specs.Memory.{Memory}
use Rattle.turns.specs.Searched.{Searched as SearchedBy}

-- ---- the question
-- the key of an index at a distance: its heuristic added, 0 past the end of the list
unfoldable pub key_of : List ℤ → ℤ → ℕ → ℤ
key_of h d v = d ⊕ get_or h v (pos 0)

-- a number that is no index below m is no target
unfoldable pub target_of : ℕ → ℕ → Option ℕ
target_of m t = pick (ltb t m) (some t) none

-- what is asked: m indices, source, target, heuristic
pub record Asked : Type 0 where
  pub bound : ℕ
  pub source : ℕ
  pub target : ℕ
  pub guess : List ℤ

abbrev pub asked_of : ℕ → ℕ → ℕ → List ℤ → Asked
asked_of m s t h = record { bound = m; source = s; target = t; guess = h }

-- the distance that a lent entry stands for
unfoldable pub dist_in : ℤ → Option ℤ
dist_in d = pick (lt_z none_i64 d) (some d) none

-- what a search by a heuristic goes by: a cost below zero is bad, nothing is cut, no distance is below zero
abbrev pub guided : List ℤ → Kind ℤ ℤ
guided h = record {
  order = ints;
  zero = pos 0;
  plus = λ d c. d ⊕ c;
  key = key_of h;
  bad = λ c. lt_z c (pos 0);
  cut = λ d. false;
  blank = none_i64;
  read = dist_in;
  good = λ d. pos 0 ≤ℤ d;
}

-- the pending bag's setting for what is asked
abbrev pub setting_of : Asked → Setting ℤ ℤ
setting_of q = setting_for (guided q.guess) (target_of q.bound q.target) q.source

-- the greatest cost that the search adds up: a 32-bit cost shifted by two potentials stays below
abbrev pub dear : ℕ
dear = 2 ^ 41

-- a heuristic that may be added to a distance: -2^42 ..= 2^42
pub record Fair (h : List ℤ) (v : ℕ) : Type 0 where
  pub low : negsuc (2 ^ 42 - 1) ≤ℤ get_or h v (pos 0)
  pub high : get_or h v (pos 0) ≤ℤ pos (2 ^ 42)

-- the neighbour list and the heuristic fit; a cost may be below zero by any amount
pub record Fit (q : Asked) (nb : Lists ℤ) : Type 0 where
  pub rows : Sound q.bound nb
  pub source : q.source < q.bound
  pub first : Fair q.guess q.source
  pub fair : (u v : ℕ) (c : ℤ) → RowArc q.bound nb u v c → Fair q.guess v
  pub cheap : (u v : ℕ) (c : ℤ) → RowArc q.bound nb u v c → P c ≤ dear

-- ---- the answer
-- the search that is over: its end by the pending bag, over the neighbour list's arcs
abbrev pub Searched : Asked → Lists ℤ → Memory ℤ → ℕ → ℕ → Type 0
Searched q nb M number takes = SearchedBy (guided q.guess) q.bound (target_of q.bound q.target) q.source nb M number takes
