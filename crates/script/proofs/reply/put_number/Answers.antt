-- `put_number` meets its contract, by how many digits the number has.
use native.Mathlib.Omega.{arith}
use mathlib.Core.Path.{◌∙◌}
use lib.ListN.{length-set}
use Rattle.script.proofs.Decimals.{length_decimal}
use Rattle.script.proofs.Printing.{put_digit, put_led}
use Rattle.script.proofs.reply.put_number.Goals as goal

pub put_digits-requires : goal.put_digits-requires
put_digits-requires c =
    omega (arith, c.requires, length-set c.args.text.now c.args.at c.args.separator, length_decimal 9 c.args.n (omega arith))

pub shape_of-text-then-n-ge10000 : goal.shape_of-text-then-n-ge10000
shape_of-text-then-n-ge10000 c =
    let a = c.args in
    c.put_digits.auto.text ∙ length-set a.text.now a.at a.separator

pub returns-then-n-ge10000 : goal.returns-then-n-ge10000
returns-then-n-ge10000 c =
    let a = c.args in
    put_led a.text.now a.at a.separator c.requires _ a.n _ (omega arith) c.put_digits.ensures.0 c.put_digits.ensures.1

pub bounds-text-at-3 : goal.bounds-text-at-3
bounds-text-at-3 c = simp length-set (omega arith)

pub returns : goal.returns
returns c =
    put_digit c.args.text.now c.args.at c.args.separator c.requires c.args.n (omega arith)
