-- `call_line` meets its contract.
use native.Mathlib.Omega.{arith}
use mathlib.Core.Path.{sym, ◌∙◌}
use borrow.Author.Tests.{eqb-true, eqb-false}
use lib.ListN.{length}
use Rattle.script.proofs.Letters.{call_empty, call_says, call_none}
use Rattle.script.proofs.parse.call_line.Goals as goal

pub returns-then-is_empty : goal.returns-then-is_empty
returns-then-is_empty c = call_empty _ (eqb-true (length c.args.line.now) 0 (sym c.is_empty.ensures ∙ c.if-is_empty.true))

pub returns-in_default : goal.returns-in_default
returns-in_default c =
    let xs = c.args.line.now in
    let read = c.numbers_at.ensures in
    call_none xs c.numbers_at.new.out (eqb-false (length xs) 0 (sym c.is_empty.ensures ∙ c.if-is_empty.false)) (rw c.in_default.is at read.is)

pub returns : goal.returns
returns c =
    let xs = c.args.line.now in
    let read = c.numbers_at.ensures in
    c.call_of.ensures ∙ call_says xs _ _ (eqb-false (length xs) 0 (sym c.is_empty.ensures ∙ c.if-is_empty.false)) (omega arith) (rw c.in-Some.is at read.is)
