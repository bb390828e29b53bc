-- A kind of search: what it goes by, for keys of the kind K and costs of the kind C, and how its lent entries are read.
-- Assumes nothing.
use Rattle.std.specs.Prelude.{Bool, ℕ}
use Rattle.std.proofs.Math.Option.{Option, none}
use Rattle.bag.specs.Keys.{Keys}
use Rattle.pending.specs.Setting.{Setting}

pub record Kind (K C : Type 0) : Type 1 where
  -- the order of keys that the bag goes by
  pub order : Keys K
  -- the distance at the source
  pub zero : K
  -- a distance and a cost
  pub plus : K → C → K
  -- the key of an index at a distance
  pub key : K → ℕ → K
  -- the costs that stop the search with 6
  pub bad : C → Bool
  -- the totals past the cutoff
  pub cut : K → Bool
  -- the entry that stands for no distance
  pub blank : K
  -- the distance that an entry stands for
  pub read : K → Option K
  -- the distances that are stored
  pub good : K → Type 0

-- the pending bag's setting for it, to a target if there is one, from a source
abbrev pub setting_of : {K C : Type 0} → Kind K C → Option ℕ → ℕ → Setting K C
setting_of Y target source =
    record { lt = Y.order.lt; zero = Y.zero; plus = Y.plus; key = Y.key; bad = Y.bad; cut = Y.cut; target = target; source = source }

-- what one turn goes by: neither source nor target matters to it
abbrev pub turn_of : {K C : Type 0} → Kind K C → Setting K C
turn_of Y = setting_of Y none 0

-- the same with an order of keys
abbrev pub ordered : {K C : Type 0} → Keys K → Kind K C → Kind K C
ordered o Y = record {
  order = o;
  zero = Y.zero;
  plus = Y.plus;
  key = Y.key;
  bad = Y.bad;
  cut = Y.cut;
  blank = Y.blank;
  read = Y.read;
  good = Y.good;
}
