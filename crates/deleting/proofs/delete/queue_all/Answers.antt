-- Blocks are queued, one after another.
use native.Mathlib.Omega.{arith}
use mathlib.Core.Path.{◌≡◌, refl, ap, ◌∙◌}
use lib.ListN.{length, take}
use lib.Seq.{take-length}
use Rattle.geometry.specs.Limits.{blocks}
use Rattle.deleting.specs.Stages.{queued_all}
use Rattle.deleting.proofs.Leaving
use Rattle.deleting.proofs.delete.queue_all.Goals as goal

pub loop-b-init : goal.loop-b-init
loop-b-init c = (refl, Leaving.queue_start _ _ _ c.args.gone.now, omega arith)

pub queue_block-requires : goal.queue_block-requires
queue_block-requires c =
    let turn = c.loop-b in (
      Leaving.roomy_as turn.invariant.0 c.requires.0,
      omega (arith, c.wide.ensures, c.requires.1 turn.b-index c.loop-b-test.true),
      omega (arith, turn.invariant.2, c.requires.2),
    )

pub loop-b-preserved : goal.loop-b-preserved
loop-b-preserved c =
    let g = c.args.g in
    let made = c.queue_block.ensures in
    let turn = c.loop-b in (
      Leaving.length_turn g.records (blocks g) _ _ _ made ∙ turn.invariant.0,
      Leaving.queue_turn g.records (blocks g) _ _ _ made _ c.args.gone.now turn.b-index (omega arith) turn.invariant.1
          c.wide.ensures,
      Leaving.count_turn g.records (blocks g) _ _ _ made _ _ (omega (arith, c.requires.0.room, turn.invariant.0)) turn.invariant.2,
    )

pub returns : goal.returns
returns c =
    let turn = c.loop-b in
    let gone = c.args.gone.now in
    let e : turn.b-index ≡ length gone = omega (arith, c.loop-b-test.false, turn.auto.b-index-end) in
    turn.invariant.1 ∙ ap (λ j. queued_all c.args.g.records (blocks c.args.g) c.args.t.now (take j gone)) e
    ∙ ap (queued_all c.args.g.records (blocks c.args.g) c.args.t.now) (take-length gone)
