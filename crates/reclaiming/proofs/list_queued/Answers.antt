-- The first blocks of the queue are listed, each with its birth, block after block.
use native.Mathlib.Omega.{arith}
use mathlib.Core.Path.{◌≡◌, ap, ◌∙◌}
use Prim.Native.Nat.{◌+◌, ◌<◌}
use lib.ListN.{get_or, take, length-set}
use lib.Seq.{sets}
use Rattle.geometry.specs.Limits.{blocks}
use Rattle.model.specs.Results.{paired}
use Rattle.model.specs.Layout.{state_of}
use Rattle.tables.proofs.Ranges
use Rattle.reclaiming.proofs.Listing
use Rattle.reclaiming.proofs.list_queued.Goals as goal

pub loop-i-init : goal.loop-i-init
loop-i-init c = Listing.list_start c.requires.0 c.args.out.now

pub bounds-t-queue_at : goal.bounds-t-queue_at
bounds-t-queue_at c =
    omega (arith, c.requires.0.roomy.room, Ranges.queue_cell_le c.requires.0)

pub overflow_add-out : goal.overflow_add-out
overflow_add-out c =
    let block_in_lem : (let turn = c.loop-i in
    get_or c.args.t.now (c.queue_at.result + turn.i) 0 < blocks c.args.g) = (let turn = c.loop-i in
    Listing.entry_below c.requires.0 turn.i (omega (arith, c.requires.1)) _ c.queue_at.ensures) in
    omega (arith, c.wide.ensures, block_in_lem)

pub offset_bounds-t-queue_births_at : goal.offset_bounds-t-queue_births_at
offset_bounds-t-queue_births_at c =
    let block_in_lem : (let turn = c.loop-i in
    get_or c.args.t.now (c.queue_at.result + turn.i) 0 < blocks c.args.g) = (let turn = c.loop-i in
    Listing.entry_below c.requires.0 turn.i (omega (arith, c.requires.1)) _ c.queue_at.ensures) in
    omega (arith, c.wide.ensures, block_in_lem)

pub bounds-t-queue_births_at : goal.bounds-t-queue_births_at
bounds-t-queue_births_at c =
    let block_in_lem : (let turn = c.loop-i in
    get_or c.args.t.now (c.queue_at.result + turn.i) 0 < blocks c.args.g) = (let turn = c.loop-i in
    Listing.entry_below c.requires.0 turn.i (omega (arith, c.requires.1)) _ c.queue_at.ensures) in
    omega (arith, c.wide.ensures, block_in_lem, c.requires.0.roomy.room)

pub bounds-out-i-in-loop-i : goal.bounds-out-i-in-loop-i
bounds-out-i-in-loop-i c = simp length-set (omega arith)

pub loop-i-preserved : goal.loop-i-preserved
loop-i-preserved c =
    let turn = c.loop-i in
    Listing.list_turn c.requires.0 turn.i (omega (arith, c.requires.1)) _ c.queue_at.ensures c.args.out.now turn.out _ _
    turn.invariant c.queue_births_at.ensures c.wide.ensures

pub returns : goal.returns
returns c =
    let a = c.args in
    let turn = c.loop-i in
    let e : turn.i ≡ a.n = omega arith in
    turn.invariant ∙
    ap (λ j. sets a.out.now 0 (paired (state_of a.g a.t.now).queue.birth (take j (state_of a.g a.t.now).queue.list))) e
