-- `lines::put_signed` meets its contract: the sign, and then the size.
-- Assumes nothing.
use mathlib.Core.Path.{◌≡◌, ap}
use mathlib.Core.List.{List, ◌++◌}
use Prim.Native.Nat.{ℕ, ◌+◌, ◌≤◌}
use native.Mathlib.Omega.{arith}
use lib.ListN.{length, length-append}
use Rattle.lines.specs.Text.{Printed, decimal_text}
use Rattle.lines.proofs.Sizes.{text_below, text_from}
use Rattle.lines.proofs.Places.{no_byte, printed_more}
use Rattle.lines.proofs.put_signed.Goals as goal
use Rattle.lines.proofs.put_signed.Goals.{then-n-lt0, else-n-lt0}

-- a text of two parts: the first was printed, and then the second
module _ {text first rest : List ℕ} (e : text ≡ first ++ rest) {out one : List ℕ} {at k : ℕ} (h : at + length text ≤ length out) (p : Printed out at first one k) where
  both : (two : List ℕ) (r : ℕ) → Printed one k rest two r → Printed out at text two r
  both two r q = rw e (printed_more out at first (omega (arith, ap length e, length-append first rest, h)) rest one two k r p q)

pub put_byte-digits-requires : goal.put_byte-digits-requires
put_byte-digits-requires c = omega (arith, ap length (text_below c.args.n c.ranges.n c.if-n-lt0.true), c.requires)

pub put_decimal-requires : goal.put_decimal-requires
put_decimal-requires c =
    let a = ap (λ (k : ℕ). length (decimal_text k)) c.unsigned_abs.ensures.value in
    elim c.if-n-lt0.branch [
      | then-n-lt0 w ↦ omega (arith, ap length (text_below c.args.n c.ranges.n w.if-n-lt0.true), a, w.digits-is, w.put_byte-digits.ensures.ends, c.if-n-lt0.auto.out, c.requires)
      | else-n-lt0 w ↦ omega (arith, ap length (text_from c.args.n c.ranges.n w.if-n-lt0.false), a, w.digits-is, c.if-n-lt0.auto.out, c.requires)
    ]

pub returns : goal.returns
returns c =
    let a : decimal_text c.unsigned_abs.result ≡ _ = ap decimal_text c.unsigned_abs.ensures.value in
    let q = rw a at c.put_decimal.ensures in
    elim c.if-n-lt0.branch [
      | then-n-lt0 w ↦ both (text_below c.args.n c.ranges.n w.if-n-lt0.true) c.requires w.put_byte-digits.ensures _ _ (rw (w.out-is, w.digits-is) at q)
      | else-n-lt0 w ↦ both (text_from c.args.n c.ranges.n w.if-n-lt0.false) c.requires (no_byte c.args.out.now c.args.at (omega arith)) _ _ (rw (w.out-is, w.digits-is) at q)
    ]
