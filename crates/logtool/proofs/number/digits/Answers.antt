-- `number::digits`: each test of a digit is the definition's.
use Rattle.std.proofs.Common.{◌≡◌, ◌-◌, get_or, sym, ◌∙◌, arith}
use Rattle.logtool.proofs.Spelling.{no_digit, goes_on_lem, at_end}
use Rattle.logtool.proofs.number.digits.Goals as goal

pub returns-then-not-is_ascii_digit : goal.returns-then-not-is_ascii_digit
returns-then-not-is_ascii_digit c =
    no_digit _ _ _ c.loop-b.invariant c.loop-b-test.true (sym c.is_ascii_digit.ensures.value ∙ c.if-not-is_ascii_digit.true)

pub loop-b-preserved : goal.loop-b-preserved
loop-b-preserved c =
    let digit = sym c.is_ascii_digit.ensures.value ∙ c.if-not-is_ascii_digit.false in
    let b = get_or c.args.text.now c.loop-b.b-index 0 in
    let d : c.from.result ≡ b - 48 = omega (arith, c.from.ensures) in
    rw d (goes_on_lem _ _ _ c.loop-b.invariant c.loop-b-test.true digit)

pub returns : goal.returns
returns c = at_end _ _ _ c.loop-b.invariant c.loop-b-test.false
