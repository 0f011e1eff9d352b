-- `put_items` meets its contract: the text by the test.
use mathlib.Core.Path.{sym, ◌∙◌}
use Rattle.script.proofs.Printing.{by_test}
use Rattle.script.proofs.reply.put_items.Goals as goal

pub returns-then-is_blocks : goal.returns-then-is_blocks
returns-then-is_blocks c =
    let a = c.args in
    let e = sym c.is_blocks.ensures ∙ c.if-is_blocks.true in
    rw (by_test a.spelling a.n a.out.now, e) c.put_blocks.ensures

pub returns : goal.returns
returns c =
    let a = c.args in
    let e = sym c.is_blocks.ensures ∙ c.if-is_blocks.false in
    rw (by_test a.spelling a.n a.out.now, e) c.put_numbers.ensures
