-- `windows_fit`: so far they fit just where those of the slots before s do.
use Rattle.std.proofs.Common.{sym}
use Rattle.soundness.proofs.Clauses.{windows_are}
use Rattle.soundness.proofs.Loops.{all_none, join_step, join_end}
use Rattle.soundness.proofs.records.windows_fit.Goals as goal

pub loop-s-init : goal.loop-s-init
loop-s-init c = sym (all_none _)

pub loop-s-preserved : goal.loop-s-preserved
loop-s-preserved c = join_step _ _ c.loop-s.invariant c.window_fits-fit.ensures

pub returns : goal.returns
returns c = windows_are c.args.tables.now.g c.args.tables.now.cells.now (join_end _ _ _ c.loop-s.auto.s-end c.loop-s-test.false c.loop-s.invariant)
