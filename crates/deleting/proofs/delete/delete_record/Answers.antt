-- A record is taken out of its line, the blocks that only it had are queued, and it leaves the store.
use native.Mathlib.Omega.{arith}
use Prim.Native.Nat.{◌<◌}
use lib.ListN.{length-set}
use Rattle.tables.proofs.Ranges
use Rattle.deleting.proofs.Leaving
use Rattle.deleting.proofs.Calling
use Rattle.deleting.proofs.delete.delete_record.Goals as goal

pub unhook-count-requires : goal.unhook-count-requires
unhook-count-requires c =
    let a = c.args in
    let most = Calling.deleted_most a.g a.t.now a.s c.requires.0 a.link in
    (c.requires.0, omega (arith, most, c.requires.0.roomy.inside.pages_most), c.requires.1, c.requires.2)

pub slice_bounds-gone-end : goal.slice_bounds-gone-end
slice_bounds-gone-end c =
    let pre = c.requires in
    let a = c.args in
    let made = c.unhook-count.ensures in
    let most = Calling.deleted_most a.g a.t.now a.s pre.0 a.link in
    let k = pre.0.roomy.inside.pages_most in
    Leaving.leave_room pre.0 a.s pre.1 a.link pre.2 _ made.tables _ _ made.out (omega arith) _ made.count

pub slice_bounds-queue_all-end : goal.slice_bounds-queue_all-end
slice_bounds-queue_all-end c =
    let pre = c.requires in
    let a = c.args in
    let made = c.unhook-count.ensures in
    let most = Calling.deleted_most a.g a.t.now a.s pre.0 a.link in
    let k = pre.0.roomy.inside.pages_most in
    Leaving.leave_long pre.0 a.s pre.1 a.link pre.2 _ made.tables _ _ made.out (omega arith) _ made.count

pub queue_all-requires : goal.queue_all-requires
queue_all-requires c =
    let pre = c.requires in
    let a = c.args in
    let made = c.unhook-count.ensures in
    let most = Calling.deleted_most a.g a.t.now a.s pre.0 a.link in
    let k = pre.0.roomy.inside.pages_most in (
      Leaving.leave_roomy pre.0 a.s pre.1 a.link pre.2 _ made.tables,
      Leaving.leave_below pre.0 a.s pre.1 a.link pre.2 _ made.tables _ _ made.out (omega arith) _ made.count,
      Leaving.leave_fit pre.0 a.s pre.1 a.link pre.2 _ made.tables _ _ made.out (omega arith) _ made.count,
    )

pub overflow_add-t : goal.overflow_add-t
overflow_add-t c =
    let slot_in : (c.args.s < c.args.g.records) = (Ranges.slot_in c.requires.0 c.args.s c.requires.1.0) in
    omega (arith, slot_in)

pub offset_bounds-t-s : goal.offset_bounds-t-s
offset_bounds-t-s c =
    let slot_in : (c.args.s < c.args.g.records) = (Ranges.slot_in c.requires.0 c.args.s c.requires.1.0) in
    omega (arith, slot_in)

pub bounds-t-s : goal.bounds-t-s
bounds-t-s c =
    let slot_in : (c.args.s < c.args.g.records) = (Ranges.slot_in c.requires.0 c.args.s c.requires.1.0) in
    omega (arith, slot_in)

pub overflow_add-t-2 : goal.overflow_add-t-2
overflow_add-t-2 c =
    let slot_in : (c.args.s < c.args.g.records) = (Ranges.slot_in c.requires.0 c.args.s c.requires.1.0) in
    omega (arith, slot_in)

pub offset_bounds-t-s-2 : goal.offset_bounds-t-s-2
offset_bounds-t-s-2 c =
    let slot_in : (c.args.s < c.args.g.records) = (Ranges.slot_in c.requires.0 c.args.s c.requires.1.0) in
    omega (arith, slot_in)

pub bounds-t-s-2 : goal.bounds-t-s-2
bounds-t-s-2 c =
    let slot_in : (c.args.s < c.args.g.records) = (Ranges.slot_in c.requires.0 c.args.s c.requires.1.0) in
    simp length-set (omega (arith, slot_in))

pub shape_of-t : goal.shape_of-t
shape_of-t c = simp length-set (omega arith)

pub returns : goal.returns
returns c =
    let pre = c.requires in
    let a = c.args in
    let made = c.unhook-count.ensures in
    let most = Calling.deleted_most a.g a.t.now a.s pre.0 a.link in
    let k = pre.0.roomy.inside.pages_most in
    Leaving.leave_tables pre.0 a.s pre.1 a.link pre.2 _ made.tables _ _ made.out (omega arith) _ made.count
    _ c.queue_all.ensures
