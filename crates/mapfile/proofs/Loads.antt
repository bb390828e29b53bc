-- The loop of `load`: its invariant, a turn of it, its measure and its end.
-- Assumes nothing.
use mathlib.Core.Path.{◌≡◌, refl, sym, ap, ◌∙◌, subst}
use mathlib.Core.Bool.{Bool, true, false, cond}
use mathlib.Core.List.{List}
use Prim.Native.Nat.{ℕ, zero, suc, ◌+◌, ◌-◌, ◌≤◌, ◌<◌}
use native.Mathlib.Omega.{arith}
use borrow.Author.Tests.{lt-ltb, le-ltb}
use lib.Dec.{ltb}
use lib.IntN.{ℤ}
use lib.ListN.{length}
use Rattle.mapfile.specs.Load.{start_reading, broken_at, State, state_of, goes_on, one_step, read_on, loaded}
use Rattle.mapfile.specs.declared.Reading.{Reading}
use Rattle.whole.proofs.Cases.{by_test}
use Rattle.mapfile.proofs.Keeps.{keeps_step}

-- the tables of two states have the same lengths
pub record Even (s t : State) : Type 0 where
  pub even_m : length t.marks ≡ length s.marks
  pub even_x : length t.from ≡ length s.from
  pub even_y : length t.to ≡ length s.to
  pub even_c : length t.costs ≡ length s.costs
  pub even_b : length t.bits ≡ length s.bits
  pub even_o : length t.opens ≡ length s.opens

-- the reading from s₀ is the reading from s, in as many records as are left, and these are enough
pub record Going (limit : ℕ) (file : List ℕ) (s₀ s : State) : Type 0 where
  pub short : length file ≤ limit
  pub within : s.reading.at ≤ length file
  pub bounded : s.reading.bound ≤ length s.marks
  pub even : Even s₀ s
  pub turns : ℕ
  pub enough : goes_on s.reading.stage ≡ true → length file < s.reading.at + turns
  pub same : read_on (length file + 1) file s₀ ≡ read_on turns file s

-- what is left of the file, while the reading goes on
pub rest : List ℕ → Reading → ℕ
rest file w = cond (goes_on w.stage) (suc (length file) - w.at) 0

-- before the first record
pub going_start : {limit : ℕ} {file : List ℕ} {w : Reading} {ms xs ys : List ℕ} {cs : List ℤ} {bs os : List ℕ} → w ≡ start_reading → length file ≤ limit
    → Going limit file (state_of start_reading ms xs ys cs bs os) (state_of w ms xs ys cs bs os)
going_start {limit} {file} {w} {ms} {xs} {ys} {cs} {bs} {os} e h =
    subst (λ (v : Reading). Going limit file (state_of start_reading ms xs ys cs bs os) (state_of v ms xs ys cs bs os)) (sym e)
    (record {
      short = h;
      within = omega arith;
      bounded = omega arith;
      even = record { even_m = refl; even_x = refl; even_y = refl; even_c = refl; even_b = refl; even_o = refl };
      turns = length file + 1;
      enough = λ _. omega arith;
      same = refl;
    })

-- a reading that goes on has a turn left, and takes it
turn : (k : ℕ) (file : List ℕ) (s : State) → 0 < k → goes_on s.reading.stage ≡ true → read_on k file s ≡ read_on (k - 1) file (one_step file s)
turn zero file s p h = absurd (omega arith)
turn (suc k) file s p h = let e : suc k - 1 ≡ k = omega arith in rw e (simp h)

module _ {limit : ℕ} {file : List ℕ} {s₀ s t : State} (g : Going limit file s₀ s) (h : goes_on s.reading.stage ≡ true) (e : t ≡ one_step file s) where
  -- a turn of the loop
  pub going_on : Even s t → Going limit file s₀ t
  going_on v =
      let o = keeps_step file s g.within g.bounded in
      let l : length file < s.reading.at + g.turns = g.enough h in
      record {
        short = g.short;
        within = rw e o.within;
        bounded = rw (v.even_m, e) o.bounded;
        even = record {
          even_m = v.even_m ∙ g.even.even_m;
          even_x = v.even_x ∙ g.even.even_x;
          even_y = v.even_y ∙ g.even.even_y;
          even_c = v.even_c ∙ g.even.even_c;
          even_b = v.even_b ∙ g.even.even_b;
          even_o = v.even_o ∙ g.even.even_o;
        };
        turns = g.turns - 1;
        enough = λ z. let n : s.reading.at < t.reading.at = rw e (o.further (rw e at z)) in omega arith;
        same = g.same ∙ turn g.turns file s (omega (arith, g.within)) h ∙ ap (read_on (g.turns - 1) file) (sym e);
      }

  -- the measure falls
  pub rest_falls : rest file t.reading < rest file s.reading
  unfolding rest
  rest_falls =
      rw h (by_stage (goes_on t.reading.stage) refl)
    where
      by_stage : (b : Bool) → goes_on t.reading.stage ≡ b → cond b (suc (length file) - t.reading.at) 0 < suc (length file) - s.reading.at
      by_stage true q =
          let o = keeps_step file s g.within g.bounded in
          let n : s.reading.at < t.reading.at = rw e (o.further (rw e at q)) in
          let m : t.reading.at ≤ length file = rw e o.within in
          omega arith
      by_stage false q = omega (arith, g.within)

-- the end of the loop
stopped : (k : ℕ) (file : List ℕ) (s : State) → goes_on s.reading.stage ≡ false → read_on k file s ≡ s
stopped zero file s h = refl
stopped (suc k) file s h = simp h

module _ (limit : ℕ) (file ms xs ys : List ℕ) (cs : List ℤ) (bs os : List ℕ) where
  pub going_end : {s : State} → Going limit file (state_of start_reading ms xs ys cs bs os) s → goes_on s.reading.stage ≡ false → s ≡ loaded limit file ms xs ys cs bs os
  unfolding loaded
  going_end {s} g h = simp (le-ltb limit (length file) g.short) (sym (g.same ∙ stopped g.turns file s h))

  -- a file over the limit
  pub overlong : {w : Reading} → limit < length file → w ≡ broken_at limit start_reading → state_of w ms xs ys cs bs os ≡ loaded limit file ms xs ys cs bs os
  unfolding loaded
  overlong {w} h e = simp (lt-ltb limit (length file) h) (ap (λ (v : Reading). state_of v ms xs ys cs bs os) e)

-- a map that was loaded has no more indices than there are marks
read_on_bounded : (k : ℕ) (file : List ℕ) (s : State) → s.reading.at ≤ length file → s.reading.bound ≤ length s.marks → (read_on k file s).reading.bound ≤ length s.marks
read_on_bounded zero file s h f = f
read_on_bounded (suc k) file s h f =
    let o = keeps_step file s h f in
    let l : (one_step file s).reading.bound ≤ length (one_step file s).marks = omega (arith, o.bounded, o.even) in
    by_test (λ (t : State). t.reading.bound ≤ length s.marks) (goes_on s.reading.stage) _ _ (λ _. omega (arith, read_on_bounded k file (one_step file s) o.within l, o.even)) (λ _. f)

pub loaded_bounded : (limit : ℕ) (file ms xs ys : List ℕ) (cs : List ℤ) (bs os : List ℕ) → (loaded limit file ms xs ys cs bs os).reading.bound ≤ length ms
unfolding loaded
loaded_bounded limit file ms xs ys cs bs os =
    by_test (λ (t : State). t.reading.bound ≤ length ms) (ltb limit (length file)) _ _ (λ _. omega arith)
    (λ _. read_on_bounded (length file + 1) file (state_of start_reading ms xs ys cs bs os) (omega arith) (omega arith))
