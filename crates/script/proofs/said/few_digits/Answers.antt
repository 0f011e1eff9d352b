-- `few_digits` meets its contract: what is read from i on, after the value so far, is the whole; the value is below a power of ten.
use native.Mathlib.Omega.{arith}
use Prim.Native.Nat.{ℕ, suc, ◌+◌, ◌-◌, ◌*◌}
use mathlib.Core.Path.{◌≡◌, sym, ap, ◌∙◌}
use lib.ListN.{drop, get_or}
use Rattle.script.specs.Parse.{digits_from}
use Rattle.script.proofs.Reading.{digits_other, digits_more, value_more, read_behind}
use Rattle.script.proofs.Digits.{digit_range}
use Rattle.script.proofs.said.few_digits.Goals as goal

pub returns-then-not-is_ascii_digit : goal.returns-then-not-is_ascii_digit
returns-then-not-is_ascii_digit c =
    let xs = c.args.text.now in
    let a = c.args in
    let l = c.loop-i in
    let other = sym c.is_ascii_digit.ensures.value ∙ c.if-not-is_ascii_digit.true in (
      read_behind (drop a.from xs) a.first a.from l.value l.i l.invariant.2
          (sym l.invariant.1 ∙ digits_other xs l.i l.value (6 - (l.i - a.from)) l.i (omega arith) other),
      omega arith,
    )

pub loop-i-preserved : goal.loop-i-preserved
loop-i-preserved c =
    let xs = c.args.text.now in
    let i = c.loop-i.i in
    let from = c.args.from in
    let v = c.loop-i.value in
    let digit = sym c.is_ascii_digit.ensures.value ∙ c.if-not-is_ascii_digit.false in
    let range = digit_range (get_or xs i 0) digit in
    let d : c.from.result ≡ get_or xs i 0 - 48 = omega (arith, c.from.ensures) in
    let e : 6 - (i - from) ≡ suc (6 - (i + 1 - from)) = omega arith in (
      value_more from i v c.from.result c.loop-i.auto.i (omega arith) c.loop-i.invariant.0 (omega (arith, range.1)),
      ap (λ (n : ℕ). digits_from (drop (i + 1) xs) (v * 10 + n) (6 - (i + 1 - from)) (i + 1)) d
          ∙ sym (digits_more xs i v (6 - (i - from)) (6 - (i + 1 - from)) i e (omega arith) digit) ∙ c.loop-i.invariant.1,
      λ z. absurd (c.if-value-eq0.false (c.loop-i.invariant.2 z).1),
    )
