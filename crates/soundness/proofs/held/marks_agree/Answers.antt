-- `marks_agree`: so far they agree just where the blocks before b have a mark where they pass.
use Rattle.std.proofs.Common.{sym, ap, ◌∙◌}
use Rattle.model.specs.Check.{same}
use Rattle.alloc_log.specs.Marks.{held_in}
use Rattle.soundness.proofs.Clauses.{mark_is}
use Rattle.soundness.proofs.Loops.{all_none, join_step, join_end}
use Rattle.soundness.proofs.held.marks_agree.Goals as goal

pub loop-b-init : goal.loop-b-init
loop-b-init g c = λ test is. sym (all_none _)

pub loop-b-preserved : goal.loop-b-preserved
loop-b-preserved g c = λ test is.
    join_step _ _ (c.loop-b.invariant test is)
    (mark_is c.args.marks.now c.loop-b.b c.passes.result ∙
    ap (same (held_in c.args.marks.now c.loop-b.b)) (is c.loop-b.b c.passes.result c.loop-b-test.true c.passes.ensures))

pub returns : goal.returns
returns g c = λ test is. join_end _ _ _ c.loop-b.auto.b-end c.loop-b-test.false (c.loop-b.invariant test is)
