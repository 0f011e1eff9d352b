-- `digits_at` meets its contract: what is read from i on, after the value so far, is the whole; the value is below a power of ten.
use native.Mathlib.Omega.{arith}
use Prim.Native.Nat.{ℕ, suc, ◌+◌, ◌-◌, ◌*◌}
use mathlib.Core.Path.{◌≡◌, sym, ap, ◌∙◌}
use lib.ListN.{length, drop, get_or}
use Rattle.answer.proofs.Cases.{cases, lt?}
use Rattle.script.specs.Parse.{digits_from}
use Rattle.script.proofs.Reading.{read, digits_full, digits_end, digits_other, digits_more, value_small, value_more}
use Rattle.script.proofs.Digits.{digit_range}
use Rattle.script.proofs.number.digits_at.Goals as goal

pub loop-i-init : goal.loop-i-init
loop-i-init c = let e : c.args.from - c.args.from ≡ 0 = omega arith in (rw e (omega arith), rw e)

pub returns-then-not-is_ascii_digit : goal.returns-then-not-is_ascii_digit
returns-then-not-is_ascii_digit c =
    let i = c.loop-i.i in
    let other = sym c.is_ascii_digit.ensures.value ∙ c.if-not-is_ascii_digit.true in
    sym (digits_other c.args.line.now i c.loop-i.value (6 - (i - c.args.from)) i (omega (arith, c.min-most.ensures)) other) ∙ c.loop-i.invariant.1

pub overflow_mul-value : goal.overflow_mul-value
overflow_mul-value c =
    omega (arith, value_small c.args.from c.loop-i.i c.loop-i.value 0 c.loop-i.auto.i (omega (arith, c.min-most.ensures)) c.loop-i.invariant.0 (omega arith))

pub overflow_add-value : goal.overflow_add-value
overflow_add-value c =
    let range = digit_range (get_or c.args.line.now c.loop-i.i 0) (sym c.is_ascii_digit.ensures.value ∙ c.if-not-is_ascii_digit.false) in
    omega (
      arith,
      range.1,
      c.from.ensures,
      value_small c.args.from c.loop-i.i c.loop-i.value 0 c.loop-i.auto.i (omega (arith, c.min-most.ensures)) c.loop-i.invariant.0 (omega arith),
    )

pub loop-i-preserved : goal.loop-i-preserved
loop-i-preserved c =
    let xs = c.args.line.now in
    let i = c.loop-i.i in
    let from = c.args.from in
    let v = c.loop-i.value in
    let digit = sym c.is_ascii_digit.ensures.value ∙ c.if-not-is_ascii_digit.false in
    let range = digit_range (get_or xs i 0) digit in
    let d : c.from.result ≡ get_or xs i 0 - 48 = omega (arith, c.from.ensures) in
    let e : 6 - (i - from) ≡ suc (6 - (i + 1 - from)) = omega (arith, c.min-most.ensures) in (
      value_more from i v c.from.result c.loop-i.auto.i (omega (arith, c.min-most.ensures)) c.loop-i.invariant.0 (omega (arith, range.1)),
      ap (λ (n : ℕ). digits_from (drop (i + 1) xs) (v * 10 + n) (6 - (i + 1 - from)) (i + 1)) d
          ∙ sym (digits_more xs i v (6 - (i - from)) (6 - (i + 1 - from)) i e (omega (arith, c.min-most.ensures)) digit) ∙ c.loop-i.invariant.1,
    )

pub returns : goal.returns
returns c =
    let xs = c.args.line.now in
    let i = c.loop-i.i in
    let v = c.loop-i.value in
    let q = c.loop-i.invariant.1 in
    let e : c.min-most.result ≡ i = omega (arith, c.min-most.ensures) in
    ap (read v) e ∙ cases (lt? i (length xs))
    (λ h.
    let z : 6 - (i - c.args.from) ≡ 0 = omega (arith, c.min-most.ensures) in
    sym (digits_full (drop i xs) v i) ∙ (rw z at q))
    (λ h. sym (digits_end xs i v (6 - (i - c.args.from)) i h) ∙ q)
