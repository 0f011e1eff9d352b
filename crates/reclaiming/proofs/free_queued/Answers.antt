-- Blocks lose their births in the queue and wait, one after another.
use native.Mathlib.Omega.{arith}
use mathlib.Core.Path.{◌≡◌, ap, ◌∙◌}
use Prim.Native.Nat.{◌<◌}
use lib.ListN.{length-set}
use Rattle.geometry.specs.Limits.{blocks}
use Rattle.reclaiming.specs.Stages.{ended_all}
use Rattle.reclaiming.proofs.Listing.{firsts}
use Rattle.reclaiming.proofs.Ending
use Rattle.reclaiming.proofs.free_queued.Goals as goal

pub loop-i-init : goal.loop-i-init
loop-i-init c =
    (Ending.end_none _ _ _ c.args.out.now, omega arith)

pub overflow_add-t : goal.overflow_add-t
overflow_add-t c =
    let block_in_lem : (c.wide-b.result < blocks c.args.g) = (let turn = c.loop-i in
    omega (arith, c.wide-b.ensures, c.requires.2 turn.i c.loop-i-test.true)) in
    omega (arith, block_in_lem)

pub offset_bounds-t-queue_births_at : goal.offset_bounds-t-queue_births_at
offset_bounds-t-queue_births_at c =
    let block_in_lem : (c.wide-b.result < blocks c.args.g) = (let turn = c.loop-i in
    omega (arith, c.wide-b.ensures, c.requires.2 turn.i c.loop-i-test.true)) in
    omega (arith, block_in_lem)

pub bounds-t-queue_births_at : goal.bounds-t-queue_births_at
bounds-t-queue_births_at c =
    let block_in_lem : (c.wide-b.result < blocks c.args.g) = (let turn = c.loop-i in
    omega (arith, c.wide-b.ensures, c.requires.2 turn.i c.loop-i-test.true)) in
    omega (arith, block_in_lem, c.requires.0.room)

pub wait_block-requires : goal.wait_block-requires
wait_block-requires c =
    let block_in_lem : (c.wide-b.result < blocks c.args.g) = (let turn = c.loop-i in
    omega (arith, c.wide-b.ensures, c.requires.2 turn.i c.loop-i-test.true)) in
    let turn = c.loop-i in
    let waits = Ending.cleared_waits _ _ turn.t _ c.wide-b.result c.queue_births_at.ensures in (
      Ending.roomy_as (length-set turn.t _ 0 ∙ turn.auto.t) c.requires.0,
      block_in_lem,
      omega (arith, waits, turn.invariant.1, c.requires.3),
    )

pub loop-i-preserved : goal.loop-i-preserved
loop-i-preserved c =
    let turn = c.loop-i in
    let made = Ending.end_made _ _ turn.t _ _ _ c.queue_births_at.ensures c.wait_block.ensures in (
      Ending.end_turn _ _ turn.t _ _ made c.args.t.now c.args.out.now turn.i (omega arith) turn.invariant.0 c.wide-b.ensures,
      Ending.end_waits _ _ turn.t _ _ made turn.i _ (omega (arith, c.requires.0.room, turn.auto.t)) turn.invariant.1,
    )

pub returns : goal.returns
returns c =
    let a = c.args in
    let turn = c.loop-i in
    let e : turn.i ≡ a.n = omega arith in
    turn.invariant.0 ∙ ap (λ j. ended_all a.g.records (blocks a.g) a.t.now (firsts j a.out.now)) e
