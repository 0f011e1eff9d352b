-- `others_fit`: so far they fit just where the slots before k do.
use Rattle.std.proofs.Common.{sym}
use Rattle.soundness.proofs.Clauses.{others_are}
use Rattle.soundness.proofs.Loops.{all_none, join_step, join_end}
use Rattle.soundness.proofs.records.others_fit.Goals as goal

pub loop-k-init : goal.loop-k-init
loop-k-init c = sym (all_none _)

pub loop-k-preserved : goal.loop-k-preserved
loop-k-preserved c = join_step _ _ c.loop-k.invariant c.two_fit-fit.ensures

pub returns : goal.returns
returns c = others_are _ _ c.args.s c.requires (join_end _ _ _ c.loop-k.auto.k-end c.loop-k-test.false c.loop-k.invariant)
