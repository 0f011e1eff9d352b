-- `put_digits`, which calls itself at a tenth of its number, meets its contract.
use native.Mathlib.Omega.{arith}
use Rattle.script.proofs.Decimals.{length_one, length_more}
use Rattle.script.proofs.Printing.{put_one, put_more}
use Rattle.script.proofs.reply.+put_digits.Goals as goal

pub bounds-text-at : goal.bounds-text-at
bounds-text-at t c = omega (arith, length_one c.args.n c.if-n-lt10.true)

pub returns-then-n-lt10 : goal.returns-then-n-lt10
returns-then-n-lt10 t c = put_one c.args.text.now c.args.at c.args.n c.if-n-lt10.true c.requires

pub put_digits-end-requires : goal.put_digits-end-requires
put_digits-end-requires t c = (omega arith, omega (arith, length_more c.args.n c.if-n-lt10.false))

pub bounds-text-end : goal.bounds-text-end
bounds-text-end t c = omega (arith, length_more c.args.n c.if-n-lt10.false)

pub overflow_add-result-2 : goal.overflow_add-result-2
overflow_add-result-2 t c = omega (arith, length_more c.args.n c.if-n-lt10.false)

pub returns : goal.returns
returns t c =
    let p = c.put_digits-end in
    put_more c.args.text.now p.new.text c.args.at c.args.n p.result c.if-n-lt10.false c.requires p.ensures.0 p.ensures.1
