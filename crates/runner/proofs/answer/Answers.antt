-- `answer`: the parts served so far are the first of the text's, and each part gets on by a line.
use mathlib.Core.Path.{refl, ap}
use mathlib.Core.Bool.{not}
use Rattle.serving.proofs.Onward.{gets_further}
use Rattle.runner.proofs.Answering.{begins, goes_on_lem, at_end, at_failure}
use native.Mathlib.Omega.{arith}
use Rattle.runner.proofs.answer.Goals as goal

pub loop-done-init : goal.loop-done-init
loop-done-init g c = begins _ _ _ _ _ _ _ _ refl c.requires.kept

pub serve_part-served-requires : goal.serve_part-served-requires
serve_part-served-requires g c = c.loop-done.invariant.stands.kept

pub loop-done-smaller : goal.loop-done-smaller
loop-done-smaller g c =
    let p = c.serve_part-served in
    let l = c.loop-done in
    let h = c.loop-done-test.true in
    let long = c.requires.in_bounds in
    let further = gets_further _ _ _ _ p.ensures.at h (omega (arith, l.invariant.stands.same, long)) in
    omega (arith, h, further)

pub loop-done-preserved : goal.loop-done-preserved
loop-done-preserved g c =
    let p = c.serve_part-served in
    let l = c.loop-done in
    let h = c.loop-done-test.true in
    let long = c.requires.in_bounds in
    goes_on_lem _ _ _ _ _ _ _ _ _ _ _ _ l.invariant p.result _ _ _ _ p.ensures h (omega (arith, long)) p.auto.t p.auto.log p.auto.out p.auto.replies

pub returns-after-loop-done : goal.returns-after-loop-done
returns-after-loop-done g c = at_end _ _ _ _ _ _ _ _ _ _ _ _ c.loop-done.invariant _ refl refl c.loop-done-test.false

pub returns-then-failed : goal.returns-then-failed
returns-then-failed g c =
    let p = c.serve_part-served in
    let l = c.loop-done in
    let h = c.loop-done-test.true in
    let long = c.requires.in_bounds in
    at_failure _ _ _ _ _ _ _ _ _ _ _ _ l.invariant p.result _ _ _ _ p.ensures h (omega (arith, long)) p.auto.t p.auto.log p.auto.out p.auto.replies
    _ refl refl (ap not c.if-failed.true)
