-- `put_blocks` meets its contract: at the head of the loop the blocks from i on are left to write.
use native.Mathlib.Omega.{arith}
use Prim.Native.Nat.{◌+◌, ◌*◌}
use mathlib.Core.Path.{◌≡◌, refl, ◌∙◌}
use Rattle.script.proofs.Printing.{left_all, left_less, left_none, blocks_left, blocks_over}
use Rattle.script.proofs.reply.put_blocks.Goals as goal

pub loop-i-init : goal.loop-i-init
loop-i-init c = (refl, omega arith, left_all _ _ _)

pub loop-i-preserved : goal.loop-i-preserved
loop-i-preserved c =
    let a = c.args in
    let l = c.loop-i in
    let p = c.put_number-end in
    let q = c.put_number-end-in-loop-i in
    let e : 2 * l.i + 2 ≡ 2 * (l.i + 1) = omega arith in
    let m = rw (blocks_left a.out.now a.n c.requires.0 (2 * l.i) (omega arith), e) at l.invariant.2 in
    let k = left_less _ _ _ l.text p.new.text l.end p.result _ _ m p.ensures.2 p.ensures.0 (omega (arith, p.ensures.1)) in (
      q.auto.text ∙ p.auto.text ∙ l.invariant.0,
      omega (arith, p.ensures.1, q.ensures.1),
      left_less _ _ _ p.new.text q.new.text p.result q.result _ _ k q.ensures.2 q.ensures.0
          (omega (arith, p.auto.text, p.ensures.1, q.ensures.1)),
    )

pub returns : goal.returns
returns c =
    let a = c.args in
    let l = c.loop-i in
    let r = left_none _ _ _ l.text l.end _ l.invariant.2 (blocks_over a.out.now a.n c.requires.0 (2 * l.i) (omega arith)) in
    (r.0, omega arith, r.1)
