-- The stages of a deletion where another record follows.
use native.Mathlib.Omega.{arith}
use mathlib.Core.Path.{ap, ◌∙◌}
use Prim.Native.Nat.{◌≤◌}
use lib.ListN.{length}
use Rattle.model.specs.Layout.{view_of}
use Rattle.model.proofs.LayoutFacts.{stored_length}
use Rattle.deleting.specs.Stages.{younger}
use Rattle.deleting.proofs.Parting
use Rattle.deleting.proofs.Bypassing
use Rattle.deleting.proofs.next.delete_next.Goals as goal

pub overflow_add-n : goal.overflow_add-n
overflow_add-n c =
    let next = Bypassing.next_slot c.requires.0 c.args.s c.args.n c.requires.2 c.requires.3 in
    let this = Bypassing.this_slot c.requires.0 c.args.s c.args.n c.requires.2 c.requires.3 in omega arith

pub offset_bounds-t-n : goal.offset_bounds-t-n
offset_bounds-t-n c =
    let next = Bypassing.next_slot c.requires.0 c.args.s c.args.n c.requires.2 c.requires.3 in
    let this = Bypassing.this_slot c.requires.0 c.args.s c.args.n c.requires.2 c.requires.3 in omega arith

pub bounds-t-n : goal.bounds-t-n
bounds-t-n c =
    let next = Bypassing.next_slot c.requires.0 c.args.s c.args.n c.requires.2 c.requires.3 in
    let this = Bypassing.this_slot c.requires.0 c.args.s c.args.n c.requires.2 c.requires.3 in omega arith

pub part_row-count-requires : goal.part_row-count-requires
part_row-count-requires c =
    let next = Bypassing.next_slot c.requires.0 c.args.s c.args.n c.requires.2 c.requires.3 in
    let this = Bypassing.this_slot c.requires.0 c.args.s c.args.n c.requires.2 c.requires.3 in
    let enough = (let z : length (younger (view_of c.args.g c.args.t.now) c.args.p ((view_of c.args.g c.args.t.now).list c.args.n)) ≤ length c.args.out.now = omega (arith, Parting.freed_many c.requires.0 c.args.s c.args.n c.args.p c.requires.4, c.requires.1) in z) in (c.requires.0, next, enough)

pub sort_by_birth-requires : goal.sort_by_birth-requires
sort_by_birth-requires c =
    let parted = c.part_row-count.ensures in
    let len = c.wide-len.ensures in
    let enough = (let z : length (younger (view_of c.args.g c.args.t.now) c.args.p ((view_of c.args.g c.args.t.now).list c.args.n)) ≤ length c.args.out.now = omega (arith, Parting.freed_many c.requires.0 c.args.s c.args.n c.args.p c.requires.4, c.requires.1) in z) in (
      Bypassing.parted_roomy c.requires.0 c.args.s c.args.n c.requires.2 c.requires.3 c.args.p c.requires.4 _ parted.tables,
      Bypassing.sort_room c.requires.0 c.args.s c.args.n c.requires.2 c.requires.3 c.args.p c.requires.4 _ parted.tables _ _ len parted.count _ _ parted.out enough,
      Bypassing.sort_below c.requires.0 c.args.s c.args.n c.requires.2 c.requires.3 c.args.p c.requires.4 _ parted.tables _ _ len parted.count _ _ parted.out enough,
    )

pub overflow_sub-len : goal.overflow_sub-len
overflow_sub-len c =
    let parted = c.part_row-count.ensures in
    let len = c.wide-len.ensures in Bypassing.count_le c.requires.0 c.args.s c.args.n c.requires.2 c.requires.3 c.args.p c.requires.4 _ parted.tables _ _ len parted.count

pub join_rows-requires : goal.join_rows-requires
join_rows-requires c =
    let parted = c.part_row-count.ensures in
    let len = c.wide-len.ensures in (
      Bypassing.parted_roomy c.requires.0 c.args.s c.args.n c.requires.2 c.requires.3 c.args.p c.requires.4 _ parted.tables,
      Bypassing.this_slot c.requires.0 c.args.s c.args.n c.requires.2 c.requires.3,
      Bypassing.next_slot c.requires.0 c.args.s c.args.n c.requires.2 c.requires.3,
      Bypassing.join_room c.requires.0 c.args.s c.args.n c.requires.2 c.requires.3 c.args.p c.requires.4 _ parted.tables _ _ len parted.count,
      Bypassing.apart c.requires.0 c.args.s c.args.n c.requires.2 c.requires.3,
    )

pub overflow_add-t : goal.overflow_add-t
overflow_add-t c =
    let next = Bypassing.next_slot c.requires.0 c.args.s c.args.n c.requires.2 c.requires.3 in
    let this = Bypassing.this_slot c.requires.0 c.args.s c.args.n c.requires.2 c.requires.3 in omega arith

pub offset_bounds-t-s : goal.offset_bounds-t-s
offset_bounds-t-s c =
    let next = Bypassing.next_slot c.requires.0 c.args.s c.args.n c.requires.2 c.requires.3 in
    let this = Bypassing.this_slot c.requires.0 c.args.s c.args.n c.requires.2 c.requires.3 in omega arith

pub bounds-t-s : goal.bounds-t-s
bounds-t-s c =
    let next = Bypassing.next_slot c.requires.0 c.args.s c.args.n c.requires.2 c.requires.3 in
    let this = Bypassing.this_slot c.requires.0 c.args.s c.args.n c.requires.2 c.requires.3 in omega arith

pub overflow_add-t-2 : goal.overflow_add-t-2
overflow_add-t-2 c =
    let next = Bypassing.next_slot c.requires.0 c.args.s c.args.n c.requires.2 c.requires.3 in
    let this = Bypassing.this_slot c.requires.0 c.args.s c.args.n c.requires.2 c.requires.3 in omega arith

pub offset_bounds-t-n-2 : goal.offset_bounds-t-n-2
offset_bounds-t-n-2 c =
    let next = Bypassing.next_slot c.requires.0 c.args.s c.args.n c.requires.2 c.requires.3 in
    let this = Bypassing.this_slot c.requires.0 c.args.s c.args.n c.requires.2 c.requires.3 in omega arith

pub bounds-t-n-2 : goal.bounds-t-n-2
bounds-t-n-2 c =
    let next = Bypassing.next_slot c.requires.0 c.args.s c.args.n c.requires.2 c.requires.3 in
    let this = Bypassing.this_slot c.requires.0 c.args.s c.args.n c.requires.2 c.requires.3 in omega arith

pub shape_of-t : goal.shape_of-t
shape_of-t c =
    let parted = c.part_row-count.ensures in
    let len = c.wide-len.ensures in
    ap length (Bypassing.bypass_tables c.requires.0 c.args.s c.args.n c.requires.2 c.requires.3 c.args.p c.requires.4 _ parted.tables _ _ len parted.count _ c.join_rows.ensures) ∙ stored_length _ _ _

pub returns : goal.returns
returns c =
    let parted = c.part_row-count.ensures in
    let len = c.wide-len.ensures in
    let enough = (let z : length (younger (view_of c.args.g c.args.t.now) c.args.p ((view_of c.args.g c.args.t.now).list c.args.n)) ≤ length c.args.out.now = omega (arith, Parting.freed_many c.requires.0 c.args.s c.args.n c.args.p c.requires.4, c.requires.1) in z) in
    record {
      count = parted.count ∙ Parting.freed_many c.requires.0 c.args.s c.args.n c.args.p c.requires.4;
      tables = Bypassing.bypass_tables c.requires.0 c.args.s c.args.n c.requires.2 c.requires.3 c.args.p c.requires.4 _ parted.tables _ _ len parted.count _ c.join_rows.ensures;
      out = Bypassing.sort_out c.requires.0 c.args.s c.args.n c.requires.2 c.requires.3 c.args.p c.requires.4 _ parted.tables _ _ len parted.count _ _ parted.out enough _ c.sort_by_birth.ensures;
    }
