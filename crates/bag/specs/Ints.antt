-- `i64` keys: the order of whole numbers, among those less than 2^53 away from 0. A pair is one word.
use Rattle.std.specs.Prelude.{ℕ, ◌+◌, ◌-◌, ◌*◌, ◌<◌, ◌^◌, ℤ, pos}
use Rattle.std.specs.Int.Signed.{lt_z}
use Rattle.whole.specs.Zed.{P, N}
use Rattle.bag.specs.Keys.{Keys}

-- a key that a word has room for
pub record Near (k : ℤ) : Type 0 where
  pub up : P k < 2 ^ 53
  pub down : N k < 2 ^ 53

-- the word of a pair: the earlier the pair stands, the larger
unfoldable pub word_of : ℤ → ℕ → ℕ
word_of k v = (2 ^ 53 + N k - P k) * 1024 + (1023 - v)

-- the kind of `i64` keys
abbrev pub ints : Keys ℤ
ints = record { lt = lt_z; ok = Near; none = pos 0; word = word_of }
