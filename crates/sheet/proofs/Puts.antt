-- How the sheet comes about: by how the reading ended, by the engine that is asked, and line after line.
-- Assumes nothing.
use mathlib.Core.Path.{◌≡◌, refl, sym, ap, subst}
use mathlib.Core.List.{List, [], ◌++◌}
use Prim.Native.Nat.{ℕ, ◌≤◌}
use lib.ListN.{length}
use Rattle.lines.specs.Text.{Printed, end_text}
use Rattle.lines.proofs.Pages.{printed_three}
use Rattle.mapfile.specs.Engines.{number_of}
use Rattle.mapfile.specs.declared.Question.{Question}
use Rattle.mapfile.specs.declared.Stage.TheVariants.{Asked}
use Rattle.mapfile.specs.Load.{State}
use Rattle.mapfile.proofs.Loads.{loaded_bounded}
use Rattle.text.specs.Text.{line, engine_line, bad_text}
use Rattle.answers.specs.Answers.{Written, zeros, zeros_i}
use Rattle.sheet.specs.Sheet.{read_file, Answer, Sound, Sheet, bad, sound}
use Rattle.sheet.proofs.Ends.{Ended, broken, asks, file_ends}

-- the lines of a sound file, one after the other
pub sound_lines : {s : State} (q : Question) {out one two three : List ℕ} {i j k : ℕ} → k ≤ length out → Printed out 0 (engine_line (number_of q.engine)) one i
    → Written (Answer s q.engine q.source q.target) one i two j → Printed two j (line end_text []) three k → Written (Sound s q) out 0 three k
sound_lines q h p w e =
    record { text = engine_line (number_of q.engine) ++ w.text ++ line end_text []; allowed = record { answer = w.text; gives = w.allowed; says = refl }; printed = printed_three p w.printed e h }

-- ---- by how the reading ended
module _ (file : List ℕ) {s : State} (e : s ≡ read_file file) where
  -- the map has at most 64 indices
  pub few : s.reading.bound ≤ 64
  few = subst (λ (t : State). t.reading.bound ≤ 64) (sym e) (loaded_bounded 16384 file (zeros 64) (zeros 512) (zeros 512) (zeros_i 512) (zeros 512) (zeros 512))

  -- a rule is broken
  pub sheet_bad : {out after : List ℕ} {r : ℕ} → ((q : Question) → s.reading.stage ≡ Asked q → ⊥) → Printed out 0 (bad_text s.reading.at) after r → Written (Sheet file) out 0 after r
  sheet_bad {out} {after} {r} f p =
      go (subst (λ (t : State). Ended t.reading) (sym e) (file_ends 16384 file (zeros 64) (zeros 512) (zeros 512) (zeros_i 512) (zeros 512) (zeros 512)))
    where
      go : Ended s.reading → Written (Sheet file) out 0 after r
      go (broken b) = record { text = bad_text s.reading.at; allowed = bad (rw e at b) (ap (λ (t : State). bad_text t.reading.at) e); printed = p }
      go (asks q a m) = absurd (f q a)

  -- the whole sheet
  pub sheet_sound : {q : Question} {out after : List ℕ} {r : ℕ} → s.reading.stage ≡ Asked q → Written (Sound s q) out 0 after r → Written (Sheet file) out 0 after r
  sheet_sound {q} a w = record { text = w.text; allowed = sound (rw e at a) (subst (λ (t : State). Sound t q w.text) e w.allowed); printed = w.printed }
