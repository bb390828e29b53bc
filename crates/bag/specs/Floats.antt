-- `f64` keys, by their patterns: the order of their values, among those that can be a distance: no NaN, and the sign is not
-- set. The word of a pair is the rank of its key.
use Rattle.std.specs.Prelude.{ℕ, ◌-◌, ◌^◌}
use Rattle.float.specs.Dist.{Dist64, zero64, lt64}
use Rattle.bag.specs.Keys.{Keys}

-- the rank of a key: how far its pattern is below the first with the sign set, so the larger the smaller the key
unfoldable pub rank_of : ℕ → ℕ
rank_of k = 2 ^ 63 - k

-- the kind of `f64` keys
abbrev pub floats : Keys ℕ
floats = record { lt = lt64; ok = Dist64; none = zero64; word = λ k v. rank_of k }
