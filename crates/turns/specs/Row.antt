-- One arc of an index that was taken, and its whole row: what the parts of a search promise each other.
-- Assumes nothing.
use Rattle.std.specs.Prelude.{◌≡◌, Bool, true, false, not, ◌&&◌, ◌⊎◌, ℕ, ◌+◌, ◌≤◌, ◌<◌, length, get_or, set}
use Rattle.std.proofs.Math.Option.{some}
use Rattle.rows.specs.Rows.{Lists}
use Rattle.rows.specs.RowArc.{RowArc, Sound}
use Rattle.bag.specs.Content.{content_of}
use Rattle.bag.specs.Bag.{Bag, NotAbove}
use Rattle.pending.specs.Literal.{better}
use Rattle.pending.specs.OnePlace.{Turned}
use Rattle.turns.specs.Kind.{Kind, turn_of}
use Rattle.turns.specs.Memory.{Memory, cells_of, Good}

-- an arc of u's row before place i
pub record Passed {C : Type 0} (nb : Lists C) (u i v : ℕ) (c : C) : Type 0 where
  pub at : ℕ
  pub from : get_or nb.offsets u 0 ≤ at
  pub to : at < get_or nb.offsets (u + 1) 0
  pub below : at < i
  pub head : get_or nb.heads at 0 ≡ v
  pub cost : (z : C) → get_or nb.weights at z ≡ c

module _ {K C : Type 0} (Y : Kind K C) where
  -- is the total n better than what stands at an entry?
  abbrev pub better_at : K → K → Bool
  better_at n old = better (turn_of Y) n (Y.read old)

  -- is it worth storing? It is not past the cutoff, and better
  abbrev pub worth : K → K → Bool
  worth n old = not (Y.cut n) && better_at n old

  -- what an arc of cost c from u, at the distance d, to v asks
  pub record Safe (u : ℕ) (d : K) (v : ℕ) (c : C) (n : ℕ) (M : Memory K) : Type 0 where
    pub tail : u < 1024
    pub in_d : v < length M.dist
    pub in_p : v < length M.preds
    pub in_b : v < length M.words
    pub dist : Y.good d
    pub cost : Y.bad c ≡ false
    pub entry : (get_or M.dist v Y.blank ≡ Y.blank) ⊎ Y.good (get_or M.dist v Y.blank)
    pub bag : Bag Y.order M.peaks M.words M.keys n
    pub lower : better_at (Y.plus d c) (get_or M.dist v Y.blank) ≡ true
        → NotAbove Y.order (content_of M.words M.keys) v (Y.key (Y.plus d c) v)

  -- what it leaves: its total is past the cutoff, or no better, or stored
  pub data Looked (u : ℕ) (d : K) (v : ℕ) (c : C) (n : ℕ) (M M' : Memory K) (n' : ℕ) : Type 0 where
    past : Y.cut (Y.plus d c) ≡ true → n' ≡ n → M' ≡ M → Looked u d v c n M M' n'
    kept : Y.cut (Y.plus d c) ≡ false → better_at (Y.plus d c) (get_or M.dist v Y.blank) ≡ false → n' ≡ n → M' ≡ M
        → Looked u d v c n M M' n'
    stored : Y.cut (Y.plus d c) ≡ false → better_at (Y.plus d c) (get_or M.dist v Y.blank) ≡ true
        → M'.dist ≡ set M.dist v (Y.plus d c) → M'.preds ≡ set M.preds v u
        → Bag Y.order M'.peaks M'.words M'.keys n'
        → content_of M'.words M'.keys ≡ set (content_of M.words M.keys) v (some (Y.key (Y.plus d c) v))
        → Looked u d v c n M M' n'

  -- u was taken with the distance d, and the arcs of its row before place i were looked at; M₀ is what the row began with
  pub record Row (m : ℕ) (nb : Lists C) (u : ℕ) (d : K) (i n : ℕ) (M₀ M : Memory K) : Type 0 where
    pub good : Good Y m M n
    pub turned : Turned (turn_of Y) (Passed nb u i) u d (cells_of Y M₀) (cells_of Y M)
    pub fine : (v : ℕ) (c : C) → Passed nb u i v c → Y.bad c ≡ false
    pub from : get_or nb.offsets u 0 ≤ i

  -- what a row asks
  pub record Opens (m : ℕ) (nb : Lists C) (u n : ℕ) (M : Memory K) : Type 0 where
    pub rows : Sound m nb
    pub good : Good Y m M n
    pub index : u < m
    pub dist : Y.good (get_or M.dist u Y.blank)

  -- an arc of u with a bad cost
  pub record BadArc (m : ℕ) (nb : Lists C) (u : ℕ) : Type 0 where
    pub v : ℕ
    pub c : C
    pub arc : RowArc m nb u v c
    pub bad : Y.bad c ≡ true

  -- a row looked through, without a bad cost
  pub record RowDone (m : ℕ) (nb : Lists C) (u : ℕ) (M₀ M : Memory K) (n : ℕ) : Type 0 where
    pub good : Good Y m M n
    pub fine : (v : ℕ) (c : C) → RowArc m nb u v c → Y.bad c ≡ false
    pub turned : Turned (turn_of Y) (RowArc m nb u) u (get_or M₀.dist u Y.blank) (cells_of Y M₀) (cells_of Y M)
