-- `put_numbers` meets its contract: at the head of the loop the numbers from i on are left to write.
use native.Mathlib.Omega.{arith}
use mathlib.Core.Path.{refl, ◌∙◌}
use lib.ListN.{take}
use lib.Seq.{length-take-le}
use Rattle.script.proofs.Printing.{left_all, left_less, left_none, numbers_left, numbers_over}
use Rattle.script.proofs.reply.put_numbers.Goals as goal

pub loop-x-init : goal.loop-x-init
loop-x-init c = (refl, omega arith, left_all _ _ _)

pub loop-x-preserved : goal.loop-x-preserved
loop-x-preserved c =
    let a = c.args in
    let l = c.loop-x in
    let p = c.put_number-end in
    let m = rw (numbers_left (take a.n a.out.now) l.x-index c.loop-x-test.true) at l.invariant.2 in (
      p.auto.text ∙ l.invariant.0,
      omega (arith, p.ensures.1),
      left_less _ _ _ l.text p.new.text l.end p.result _ _ m p.ensures.2 p.ensures.0 (omega (arith, p.ensures.1, length-take-le a.n a.out.now c.requires.0)),
    )

pub returns : goal.returns
returns c =
    let a = c.args in
    let l = c.loop-x in
    let r = left_none _ _ _ l.text l.end _ l.invariant.2 (numbers_over (take a.n a.out.now) l.x-index c.loop-x-test.false) in
    (r.0, omega (arith, length-take-le a.n a.out.now c.requires.0), r.1)
