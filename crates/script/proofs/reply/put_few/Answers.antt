-- `put_few` meets its contract: the digits that are not there are written over.
use native.Mathlib.Omega.{arith}
use lib.ListN.{length-set}
use Rattle.script.proofs.Printing.{put_few}
use Rattle.script.proofs.reply.put_few.Goals as goal

pub bounds-text-at-2 : goal.bounds-text-at-2
bounds-text-at-2 c = simp length-set (omega arith)

pub bounds-text-at-3 : goal.bounds-text-at-3
bounds-text-at-3 c = simp length-set (omega arith)

pub bounds-text-last : goal.bounds-text-last
bounds-text-last c = simp length-set (omega arith)

pub bounds-text-last-2 : goal.bounds-text-last-2
bounds-text-last-2 c = simp length-set (omega arith)

pub returns : goal.returns
returns c =
    let a = c.args in
    let put = put_few a.text.now a.at a.separator c.requires.2 a.n c.width_of-width.result c.requires.0 c.requires.1 c.width_of-width.ensures.is in
    rw c.from-thousands.ensures put
