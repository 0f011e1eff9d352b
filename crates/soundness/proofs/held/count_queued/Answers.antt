-- `count_queued`: the blocks so far that have a birth in the queue are counted.
use Rattle.std.proofs.Common.{ℕ, ◌+◌, ap, ◌∙◌, arith}
use Rattle.geometry.specs.Limits.{blocks}
use Rattle.soundness.proofs.Cells.{part_turn}
use Rattle.soundness.proofs.Queued.{counted_none, counted_next, counted_most}
use Rattle.soundness.proofs.held.count_queued.Goals as goal

pub loop-birth-init : goal.loop-birth-init
loop-birth-init c = (omega arith, counted_none _ _)

pub loop-birth-preserved : goal.loop-birth-preserved
loop-birth-preserved c =
    let a = c.args in let g = a.tables.now.g in let t = a.tables.now.cells.now in
    let (h, e) = part_turn t c.queue_births_at-births.result (blocks g) c.loop-birth.birth-index
    (omega (arith, c.queue_births_at-births.ensures, c.args.tables.now.roomy.room)) c.loop-birth-test.true in (
      omega (arith, counted_most g t h c.queue_births_at-births.ensures e c.loop-birth.invariant.1, c.from-count.ensures),
      ap (λ (k : ℕ). c.loop-birth.count + k) c.from-count.ensures ∙ counted_next g t h c.queue_births_at-births.ensures e c.loop-birth.invariant.1,
    )
