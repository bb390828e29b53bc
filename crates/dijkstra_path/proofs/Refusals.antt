-- The refusals 1, 2 and 3 as facts, and what a call that is not refused may rest on.
-- Assumes nothing.
use mathlib.Core.Path.{◌≡◌, refl}
use mathlib.Core.Bool.{true}
use Prim.Native.Nat.{ℕ}
use Rattle.whole.proofs.Cases.{and_left, and_right}
use Rattle.numbers.proofs.Numbers.{◌then◌}
use Rattle.numbers.proofs.Numbers as numbers
use Rattle.table.specs.declared.FloatCost.{FloatCost}
use Rattle.net.specs.Net.{Net, whole_net, inside_net, has, most_arcs_of}
use Rattle.rows.specs.Scratch.{has_lists}
use Rattle.rows.specs.Kept.{EnoughLists}
use Rattle.rows.proofs.Kept.{has_lists_lem}
use Rattle.turns.specs.Firsts.{EnoughMemory}
use Rattle.search.specs.Check.{check_no}
use Rattle.search.proofs.Lists.{has_memory_lem}
use Rattle.dijkstra_path.specs.Promise.{Buffers, long_enough, enough, table, Promise}
use Rattle.float.specs.Cutoff.{Cutoff}
use Rattle.std.specs.Prelude.{None}

module _ (g : Net FloatCost) (s : ℕ) (b : Buffers) where
  -- a refusal is what the promise says
  pub refused : (k : Cutoff) (r : ℕ) → r ≡ check_no g s b.rows b.memory → (r ≡ 0 → ⊥) → Promise g s k b b r
  unfolding check_no long_enough
  refused k r q f = record { follows = numbers.refused 3 (table g s k b) b (refl then refl then refl then tt) r q f }

-- what a call that is not refused may rest on
pub record Passed (g : Net FloatCost) (s : ℕ) (b : Buffers) : Type 0 where
  pub long : enough g b ≡ true
  pub inside : inside_net g ≡ true
  pub source : has g s ≡ true
  pub whole : whole_net g ≡ true
  pub rows : EnoughLists g.bound (most_arcs_of g) b.rows
  pub memory : EnoughMemory g.bound b.memory

-- from the tests that passed
pub enough_passed : (g : Net FloatCost) (s : ℕ) (b : Buffers) → enough g b ≡ true → inside_net g ≡ true → has g s ≡ true → Passed g s b
unfolding long_enough
enough_passed g s b e i h =
    let t = has_lists g.bound (most_arcs_of g) b.rows in
    let l = and_right (whole_net g) _ e in
    record { long = e; inside = i; source = h; whole = and_left (whole_net g) _ e; rows = has_lists_lem _ _ _ (and_left t _ l); memory = has_memory_lem _ _ (and_right t _ l) }

-- from the number 0
pub passed : (g : Net FloatCost) (s : ℕ) (b : Buffers) → check_no g s b.rows b.memory ≡ 0 → Passed g s b
unfolding check_no long_enough
passed g s b q = let w = numbers.passed 3 (table g s None b) (refl then refl then refl then tt) q in enough_passed g s b w.0 w.1.0 w.1.1.0
