-- Each part gets on by a line.
use native.Mathlib.Omega.{arith}
use Rattle.serving.proofs.Onward.{gets_further}
use Rattle.vectors.proofs.serve.Goals as goal

pub loop-at-smaller : goal.loop-at-smaller
loop-at-smaller c =
    let t = c.loop-at-test.true in
    let further = gets_further _ _ _ _ c.serve_part-served.ensures.at t (omega (arith, c.loop-at.invariant.buffer)) in
    omega (arith, t, further)
