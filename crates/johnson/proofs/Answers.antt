-- From what the parts gave to the promise: the answer of `johnson`, over plain lists.
-- Assumes nothing.
use mathlib.Core.Path.{◌≡◌, refl, sym, ◌∙◌, subst}
use mathlib.Core.Bool.{Bool, true, false}
use mathlib.Core.List.{List}
use Prim.Native.Nat.{ℕ, ◌*◌, ◌≤◌}
use native.Mathlib.Omega.{arith}
use lib.IntN.{ℤ, pos}
use lib.ListN.{length}
use Rattle.numbers.specs.Numbers.{here, past}
use Rattle.clean.specs.Fill.{filled}
use Rattle.clean.specs.None.{none_i64}
use Rattle.net.specs.Net.{Net, most_arcs_of, width}
use Rattle.rows.specs.Kept.{EnoughLists}
use Rattle.rows.proofs.Kept.{kept_same, lists_kept, wiped_rows}
use Rattle.matrix.specs.Matrix.{square, buffers_of}
use Rattle.johnson.specs.Promise.{Scratch, wiped_all, Promise}
use Rattle.johnson.specs.Parts.{refusal_no, EnoughScratch, Passed, Solved}
use Rattle.turns.proofs.Firsts.{memory_enough}
use Rattle.search.proofs.Lists.{wiped_memory_lem}
use Rattle.johnson.proofs.Refusals.{not_refused, passed}

module _ (g : Net ℤ) (matrix : List ℤ) (s : Scratch) (ok : refusal_no g matrix s ≡ 0) where
  p : Passed g matrix s
  p = passed g matrix s ok

  module _ {a : ℕ} (is : a ≡ most_arcs_of g) {matrix₁ : List ℤ} {s₁ : Scratch} {r : Bool} (v : Solved g matrix s matrix₁ s₁ r) where
    pub room_after : EnoughScratch g.bound a s₁
    room_after = record {
      bounded = p.room.bounded;
      rows = subst (λ (n : ℕ). EnoughLists g.bound n s₁.rows) (sym is) (lists_kept p.room.rows v.kept.rows);
      heights = omega (arith, p.room.heights, v.kept.heights.long);
      memory = memory_enough p.room.memory v.kept.memory;
    }

    module _ {s₂ : Scratch} (wiped : s₂ ≡ wiped_all g.bound a s₁) where
      all : s₂ ≡ wiped_all g.bound (most_arcs_of g) s₁
      all = subst (λ (n : ℕ). s₂ ≡ wiped_all g.bound n s₁) is wiped

      -- the scratch at the end
      ends : s₂ ≡ wiped_all g.bound (most_arcs_of g) s
      ends = all ∙ (λ i. record {
        rows = wiped_rows (pos 0) v.kept.rows i;
        heights = kept_same (pos 0) v.kept.heights i;
        memory = wiped_memory_lem v.kept.memory i;
      })

      -- 0: the matrix holds the least totals
      pub answer_no : r ≡ false → Promise g matrix s matrix₁ s₂ 0
      answer_no f = let k = not_refused g matrix s ok in record { follows = past k.0 (past k.1 (past (v.no f).0 (here tt (refl, ((v.no f).1, ends))))) }

      -- 7: the matrix is blanked
      module _ {k : ℕ} (many : k ≡ width g) where
        pub blank_room : k * k ≤ length matrix₁
        blank_room = subst (λ (x : ℕ). x * x ≤ length matrix₁) (sym many) (omega (arith, p.output, v.output.long))

        module _ {matrix₂ : List ℤ} (blank : matrix₂ ≡ filled (k * k) none_i64 matrix₁) where
          blanked : matrix₂ ≡ filled (square g) none_i64 matrix
          blanked = subst (λ (x : ℕ). matrix₂ ≡ filled (x * x) none_i64 matrix₁) many blank ∙ kept_same none_i64 v.output

          pub answer_yes : r ≡ true → Promise g matrix s matrix₂ s₂ 7
          answer_yes f = let k = not_refused g matrix s ok in record { follows = past k.0 (past k.1 (here (v.yes f) (refl, λ i. buffers_of (blanked i) (ends i)))) }
