-- The refusals: what a refusal leaves, and what holds where there is none.
-- All heuristics below m are fair exactly if each index of the map has a fair one, by induction on m. Each way through the code ends at the first test that fails,
-- those before it having passed, and there `refusal_no` computes to the number that is returned. So a number other than 0 is that of a row of the table, each of
-- which leaves every buffer, and 0 says that no test failed, which is `Fine`.
-- Assumes nothing.
use mathlib.Core.Path.{◌≡◌, refl, sym, ap, ◌∙◌}
use mathlib.Core.Bool.{Bool, true, false}
use mathlib.Core.List.{List}
use Prim.Native.Nat.{ℕ, zero, suc, ◌-◌, ◌≤◌, ◌<◌, ◌^◌}
use native.Mathlib.Decide.{ℕ_discrete}
use native.Mathlib.Omega.{arith}
use borrow.Author.Tests.{leb-true}
use lib.Dec.{leb}
use lib.IntN.{ℤ, pos, negsuc}
use lib.Signed.{le_z}
use lib.ListN.{length, get_or}
use Rattle.whole.specs.Zed.{zed, le_yes}
use Rattle.whole.proofs.Cases.{clash, and_left, and_right}
use Rattle.numbers.proofs.Numbers.{◌then◌}
use Rattle.numbers.proofs.Numbers as numbers
use Rattle.net.specs.Net.{Net, whole_net, most_arcs_of}
use Rattle.rows.specs.Scratch.{has_lists}
use Rattle.rows.specs.Kept.{EnoughLists}
use Rattle.rows.proofs.Kept.{has_lists_lem}
use Rattle.search.specs.Ints.{Fair}
use Rattle.turns.specs.Firsts.{EnoughMemory}
use Rattle.search.proofs.Lists.{has_memory_lem}
use Rattle.a_star.specs.Promise.{Question, Buffers, long_enough, is_fair, fair_at, fair_below, Fine, no_path, table, Promise}
use Rattle.a_star.specs.Parts.{refusal_no, without}

-- ---- the heuristic
-- a heuristic within the limits may be added
pub fair_of : (h : List ℤ) (v : ℕ) → is_fair (get_or h v (pos 0)) ≡ true → Fair h v
unfolding is_fair
fair_of h v e =
    let z : ℤ = get_or h v (pos 0) in
    let p = le_yes (negsuc (2 ^ 42 - 1)) z (and_left _ _ e) in
    let q = le_yes z (pos (2 ^ 42)) (and_right (le_z (negsuc (2 ^ 42 - 1)) z) _ e) in
    record { low = omega (arith, zed, p); high = omega (arith, zed, q) }

module _ (f : ℕ → Bool) (h : List ℤ) where
  -- what the test of an index is
  pub fair_absent : (k : ℕ) → f k ≡ false → true ≡ fair_at f h k
  unfolding fair_at
  fair_absent k e = rw e

  -- an index that f holds for
  pub fair_present : (k : ℕ) → f k ≡ true → is_fair (get_or h k (pos 0)) ≡ fair_at f h k
  unfolding fair_at
  fair_present k e = rw e

  -- all below m: each of them
  pub fair_each : (m k : ℕ) → fair_below f h m ≡ true → k < m → fair_at f h k ≡ true
  fair_each zero k e l = absurd (omega arith)
  fair_each (suc m) k e l = go (ℕ_discrete k m) (fair_each m k (and_left (fair_below f h m) (fair_at f h m) e))
    where
      go : Dec (k ≡ m) → (k < m → fair_at f h k ≡ true) → fair_at f h k ≡ true
      go (yes p) r = ap (fair_at f h) p ∙ and_right (fair_below f h m) (fair_at f h m) e
      go (no p) r = r (omega (arith, p))

  -- one that is not: not all
  pub fair_stop : (m k : ℕ) → k < m → fair_at f h k ≡ false → false ≡ fair_below f h m
  fair_stop m k l e = go (fair_below f h m) refl
    where
      go : (b : Bool) → fair_below f h m ≡ b → false ≡ fair_below f h m
      go true p = absurd (clash (fair_each m k p l) e)
      go false p = sym p

  -- each index that f holds for
  pub fair_where : (m k : ℕ) → fair_below f h m ≡ true → k < m → f k ≡ true → is_fair (get_or h k (pos 0)) ≡ true
  fair_where m k e l p = fair_present k p ∙ fair_each m k e l

-- ---- the lengths
-- each slice is long enough
pub record Lengths (m a : ℕ) (h : List ℤ) (b : Buffers) : Type 0 where
  pub guess : m ≤ length h
  pub path : m ≤ length b.path
  pub rows : EnoughLists m a b.scratch.rows
  pub memory : EnoughMemory m b.scratch.memory

-- what the test of them says
pub lengths : (m a : ℕ) (h : List ℤ) (b : Buffers) → long_enough m a h b ≡ true → Lengths m a h b
unfolding long_enough
lengths m a h b e =
    let e1 = and_right (leb m (length h)) _ e in
    let e2 = and_right (leb m (length b.path)) _ e1 in
    record {
      guess = leb-true _ _ (and_left (leb m (length h)) _ e);
      path = leb-true _ _ (and_left (leb m (length b.path)) _ e1);
      rows = has_lists_lem m a b.scratch.rows (and_left (has_lists m a b.scratch.rows) _ e2);
      memory = has_memory_lem m b.scratch.memory (and_right (has_lists m a b.scratch.rows) _ e2);
    }

-- and the heuristic
pub guess_long : (m a : ℕ) (h : List ℤ) (b : Buffers) → long_enough m a h b ≡ true → m ≤ length h
guess_long m a h b e = (lengths m a h b e).guess

-- ---- all of them in order
module _ (g : Net ℤ) (q : Question) (b : Buffers) where
  -- a refusal is what the promise says
  pub refused : (k : ℕ) → k ≡ refusal_no g q b → (k ≡ 0 → ⊥) → Promise g q b b (without k)
  unfolding refusal_no
  refused k p f = record { follows = numbers.refused 5 (table g q b) (no_path b) (refl then refl then refl then refl then refl then tt) k p f }

  -- where there is none all is fine
  pub passed : refusal_no g q b ≡ 0 → Fine g q b
  unfolding refusal_no
  passed p =
      let w = numbers.passed 5 (table g q b) (refl then refl then refl then refl then refl then tt) p in
      record { enough = w.0; inside = w.1.0; source = w.1.1.0; target = w.1.1.1.0; fair = w.1.1.1.1.0 }

-- what a fine question has
module _ {g : Net ℤ} {q : Question} {b : Buffers} (w : Fine g q b) where
  -- the map keeps the limits
  pub fine_whole : whole_net g ≡ true
  fine_whole = and_left (whole_net g) _ w.enough

  -- and each slice is long enough
  pub fine_long : Lengths g.bound (most_arcs_of g) q.guess b
  fine_long = lengths g.bound (most_arcs_of g) q.guess b (and_right (whole_net g) _ w.enough)
