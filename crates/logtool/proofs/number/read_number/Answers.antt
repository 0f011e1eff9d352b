-- `number::read_number`: each test is the definition's.
use borrow.Author.Tests.{eqb-true, eqb-false}
use Rattle.std.proofs.Common.{length, sym, ◌∙◌}
use Rattle.logtool.proofs.Spelling.{empty, long, first, led, alone}
use Rattle.logtool.proofs.number.read_number.Goals as goal
use Rattle.logtool.proofs.number.read_number.Goals.{then-is_empty-via-then-is_empty, then-is_empty-via-else-is_empty+then-text-gt7}
use Rattle.logtool.proofs.number.read_number.Goals.{else-text-eq48-via-then-text-eq48+else-text-gt1, else-text-eq48-via-else-text-eq48}

pub returns-then-is_empty : goal.returns-then-is_empty
returns-then-is_empty c =
    let n = length c.args.text.now in
    elim c.then-is_empty.branch [
      | then-is_empty-via-then-is_empty w ↦ empty _ (eqb-true n 0 (sym c.is_empty.ensures ∙ w.if-is_empty.true))
      | then-is_empty-via-else-is_empty+then-text-gt7 w ↦ long _ (eqb-false n 0 (sym c.is_empty.ensures ∙ w.if-is_empty.false)) w.if-text-gt7.true
    ]

pub returns-then-text-gt1 : goal.returns-then-text-gt1
returns-then-text-gt1 c =
    let some = eqb-false (length c.args.text.now) 0 (sym c.is_empty.ensures ∙ c.if-is_empty.false) in
    led _ some c.if-text-gt7.false c.if-text-eq48.true c.if-text-gt1.true

pub returns : goal.returns
returns c =
    let some = eqb-false (length c.args.text.now) 0 (sym c.is_empty.ensures ∙ c.if-is_empty.false) in
    c.digits.ensures ∙ elim c.else-text-eq48.branch [
      | else-text-eq48-via-then-text-eq48+else-text-gt1 w ↦ alone _ some c.if-text-gt7.false w.if-text-gt1.false
      | else-text-eq48-via-else-text-eq48 w ↦ first _ some c.if-text-gt7.false w.if-text-eq48.false
    ]
