-- The records of a line, newest first: at each turn those that are written and those that the link leads to are the line.
use native.Mathlib.Omega.{arith}
use Prim.Native.Nat.{◌-◌}
use Rattle.tables.proofs.Ranges
use Rattle.retaining.proofs.Lining
use Rattle.retaining.proofs.Lining.{Lining}
use Rattle.retaining.proofs.line.line_of.Goals as goal

pub overflow_cast-line : goal.overflow_cast-line
overflow_cast-line c = omega (arith, Ranges.slot_in c.requires.0 c.args.s c.requires.1)

pub overflow_add-s : goal.overflow_add-s
overflow_add-s c = omega (arith, Ranges.slot_in c.requires.0 c.args.s c.requires.1)

pub offset_bounds-t-s : goal.offset_bounds-t-s
offset_bounds-t-s c = omega (arith, Ranges.slot_in c.requires.0 c.args.s c.requires.1)

pub bounds-t-s : goal.bounds-t-s
bounds-t-s c = omega (arith, Ranges.slot_in c.requires.0 c.args.s c.requires.1)

pub loop-link-init : goal.loop-link-init
loop-link-init c = (
  omega arith,
  omega (arith, c.wide-link.ensures, Ranges.prev_cell_le c.requires.0 c.args.s c.requires.1),
  λ g R h. Lining.lining_first R c.args.s h c.args.line.now _ (omega arith) c.wide-link.ensures,
)

pub bounds-line-count : goal.bounds-line-count
bounds-line-count c =
    let turn = c.loop-link in
    let lining = turn.invariant.2 _ c.requires.0 c.requires.1 in
    omega (arith, Lining.lining_room c.requires.0 c.args.s c.requires.1 _ _ _ lining c.loop-link-test.true)

pub bounds-t-link : goal.bounds-t-link
bounds-t-link c = omega (arith, c.requires.0.roomy.room)

pub loop-link-smaller : goal.loop-link-smaller
loop-link-smaller c =
    let turn = c.loop-link in
    let lining = turn.invariant.2 _ c.requires.0 c.requires.1 in
    omega (arith, Lining.lining_room c.requires.0 c.args.s c.requires.1 _ _ _ lining c.loop-link-test.true)

pub loop-link-preserved : goal.loop-link-preserved
loop-link-preserved c =
    let turn = c.loop-link in
    let more = c.loop-link-test.true in
    let lining = turn.invariant.2 _ c.requires.0 c.requires.1 in
    let room = Lining.lining_room c.requires.0 c.args.s c.requires.1 _ _ _ lining more in
    let live = Lining.lining_some c.requires.0 c.args.s c.requires.1 _ _ _ lining more in (
      omega arith,
      omega (arith, c.wide-link-in-loop-link.ensures, Ranges.prev_cell_le c.requires.0 (turn.link - 1) live),
      λ g R h. Lining.lining_next R c.args.s h _ _ _ (turn.invariant.2 g R h) _ more c.wide-link-in-loop-link.ensures,
    )

pub returns : goal.returns
returns c =
    let turn = c.loop-link in
    Lining.lining_last c.requires.0 c.args.s c.requires.1 _ _ _ (turn.invariant.2 _ c.requires.0 c.requires.1) c.loop-link-test.false
