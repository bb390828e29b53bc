-- The exact case of 01: an integer map, the f64 map with each cost converted, and distances that are the same number.
-- Assumes nothing.
use Rattle.std.specs.Prelude.{◌≡◌, true, List, map, ℕ, ◌≤◌, ◌<◌, ◌^◌, ℤ, pos, get_or}
use Rattle.std.specs.Float.{binary64}
use Rattle.std.specs.Float.Ieee.{of_int, to_bits}
use Rattle.clean.specs.None.{none_i64, none_f64}
use Rattle.table.specs.Links.{Link, link_of}
use Rattle.table.specs.Lent.{float_cost}
use Rattle.table.specs.declared.FloatCost.{FloatCost}
use Rattle.net.specs.Net.{Net, links_of, ArcOf, has}

-- a whole number from 0 to 2^31 - 1
pub record WholeSize (c : ℤ) : Type 0 where
  pub size : ℕ
  pub is : c ≡ pos size
  pub small : size < 2 ^ 31

-- the pattern of a whole number, converted
abbrev pub pattern : ℤ → ℕ
pattern c = to_bits binary64 (of_int binary64 c)

-- a link with its cost converted, open
abbrev pub converted : Link ℤ → Link FloatCost
converted l = link_of l.a l.b (float_cost (pattern l.cost) true)

-- h is g with each cost converted and every link open, and the costs are whole numbers from 0 to 2^31 - 1
pub record Converted (g : Net ℤ) (h : Net FloatCost) : Type 0 where
  pub bound : g.bound ≡ h.bound
  pub count : g.count ≡ h.count
  pub directed : g.directed ≡ h.directed
  pub has : (i : ℕ) → has g i ≡ has h i
  pub links : links_of h ≡ map converted (links_of g)
  pub whole : (u v : ℕ) (c : ℤ) → ArcOf g u v c → WholeSize c

-- an integer distance and the pattern of an f64 one are the same number, or both none; a whole number up to 2^53 is exact in f64
pub data SameNumber (d : ℤ) (x : ℕ) : Type 0 where
  neither : d ≡ none_i64 → x ≡ none_f64 → SameNumber d x
  both : (n : ℕ) → n ≤ 2 ^ 53 → d ≡ pos n → x ≡ pattern (pos n) → SameNumber d x

-- answers that agree: the number, and after 0 each of the first m distances
pub record Agrees (m : ℕ) (dist : List ℤ) (dist64 : List ℕ) (n n' : ℕ) : Type 0 where
  pub number : n ≡ n'
  pub distances : n ≡ 0 → (v : ℕ) → v < m → SameNumber (get_or dist v (pos 0)) (get_or dist64 v none_f64)
