-- `main`: the run stands where the turns of the reads so far leave it, and each turn reads at least a byte or is the last.
use mathlib.Core.Path.{ap, ◌∙◌}
use mathlib.Core.Bool.{not}
use Rattle.runner.proofs.Handing.{handed_on}
use Rattle.runner.proofs.Running.{running, turn_less}
use native.Mathlib.Omega.{arith}
use Rattle.runner.proofs.main.Goals as goal

pub loop-whole-init : goal.loop-whole-init
loop-whole-init c = running _ c.start-session.ensures

pub loop-whole-smaller : goal.loop-whole-smaller
loop-whole-smaller c =
    turn_less _ c.loop-whole.whole c.loop-whole.n _ (ap not c.loop-whole-test.true) c.is_whole-whole.ensures
    (omega (arith, c.in-Some.ensures.range, c.loop-whole.invariant.script))

pub loop-whole-preserved : goal.loop-whole-preserved
loop-whole-preserved c =
    let a = c.answer-answered in
    let l = c.loop-whole.invariant in
    let range = c.in-Some.ensures.range in
    let stays = c.in-Some.ensures.stays in
    let script = c.read_more.auto.text in
    record {
      tables = a.auto.t ∙ l.tables;
      words = a.auto.log ∙ l.words;
      numbers = a.auto.out ∙ l.numbers;
      buffer = a.auto.replies ∙ l.buffer;
      script = script ∙ l.script;
      read = omega (arith, range, l.script);
      kept = a.ensures.kept;
      handed =
          handed_on _ _ 65536 _ _ _ _ _ _ _ _ a.result _ _ l.handed stays (omega (arith, range, script))
          c.is_whole-whole.ensures c.part_end-end.ensures.is a.ensures c.if-answered.false l.buffer;
    }
