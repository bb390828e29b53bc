-- A search from its start to its end.
-- Assumes nothing.
use Rattle.std.specs.Prelude.{◌≡◌, ℕ, set}
use Rattle.std.proofs.Math.Option.{Option, some}
use Rattle.clean.specs.None.{none_u32}
use Rattle.rows.specs.Rows.{Lists}
use Rattle.rows.specs.RowArc.{RowArc}
use Rattle.bag.specs.Content.{content_of}
use Rattle.bag.specs.Bag.{Bag}
use Rattle.pending.specs.Setting.{End}
use Rattle.pending.specs.OnePlace.{begin, Ends}
use Rattle.turns.specs.Kind.{Kind, setting_of}
use Rattle.turns.specs.Memory.{Memory, Shows}

module _ {K C : Type 0} (Y : Kind K C) where
  -- the source alone is pending
  pub record Started (s : ℕ) (M M' : Memory K) (n : ℕ) : Type 0 where
    pub dist : M'.dist ≡ set M.dist s Y.zero
    pub preds : M'.preds ≡ set M.preds s none_u32
    pub bag : Bag Y.order M'.peaks M'.words M'.keys n
    pub content : content_of M'.words M'.keys ≡ set (content_of M.words M.keys) s (some (Y.key Y.zero s))

  -- the search that is over: its end by the pending bag, over the neighbour list's arcs
  pub record Searched (m : ℕ) (target : Option ℕ) (source : ℕ) (nb : Lists C) (M : Memory K) (number takes : ℕ) : Type 0 where
    pub end : End K
    pub ends : Ends (setting_of Y target source) (RowArc m nb) (begin (setting_of Y target source)) 0 end
    pub is : number ≡ end.number
    pub many : takes ≡ end.takes
    pub shows : number ≡ 0 → Shows Y.blank end M
