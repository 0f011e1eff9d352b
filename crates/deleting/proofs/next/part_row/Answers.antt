-- A deadlist is parted, entry by entry.
use native.Mathlib.Omega.{arith}
use mathlib.Core.Path.{refl, ap, ◌∙◌}
use Prim.Native.Nat.{◌≤◌, ◌<◌}
use lib.ListN.{length, length-set}
use lib.Seq.{sets}
use Rattle.model.specs.Lists.{keep_if}
use Rattle.model.specs.Layout.{list_cell, view_of}
use Rattle.tables.proofs.Ranges
use Rattle.deleting.specs.Stages.{younger, others}
use Rattle.deleting.proofs.Parting
use Rattle.deleting.proofs.next.part_row.Goals as goal
use Rattle.deleting.proofs.next.part_row.Goals.{then-p-t, else-p-t}

pub loop-i-init : goal.loop-i-init
unfolding keep_if
loop-i-init c = (
  refl,
  refl,
  omega (
    arith,
    c.wide-len.ensures,
    Ranges.length_cell_le c.requires.0 c.args.n c.requires.1,
    c.requires.0.roomy.inside.pages_most,
  ),
  refl,
  refl,
  refl,
  refl,
  refl,
)

pub bounds-t-g-in-loop-i : goal.bounds-t-g-in-loop-i
bounds-t-g-in-loop-i c =
    let turn = c.loop-i in
    let b = c.wide-b.result in
    let more = Parting.below c.loop-i-test.true c.wide-len.ensures in
    let entry = c.wide-b.ensures ∙ Parting.entry_read c.requires.0 c.args.n c.requires.1 c.args.p turn.i more turn.kept turn.invariant.5
    (omega arith) turn.invariant.7 in
    let inside = Parting.entry_block c.requires.0 c.args.n c.requires.1 c.args.p turn.i more b entry in
    omega (arith, turn.invariant.0)

pub bounds-out-count : goal.bounds-out-count
bounds-out-count c =
    let turn = c.loop-i in
    let b = c.wide-b.result in
    let more = Parting.below c.loop-i-test.true c.wide-len.ensures in
    let entry = c.wide-b.ensures ∙ Parting.entry_read c.requires.0 c.args.n c.requires.1 c.args.p turn.i more turn.kept turn.invariant.5
    (omega arith) turn.invariant.7 in
    let inside = Parting.entry_block c.requires.0 c.args.n c.requires.1 c.args.p turn.i more b entry in
    let born = Parting.birth_read c.requires.0 c.args.n c.requires.1 c.args.p turn.i more turn.kept turn.invariant.5 (omega arith) turn.invariant.7 b inside in
    omega (
      arith,
      Parting.count_room c.requires.0 c.args.n c.requires.1 c.args.p turn.i more b entry
          (omega (arith, c.if-p-t.true, born)) turn.count turn.invariant.4,
      c.requires.2,
    )

pub loop-i-preserved : goal.loop-i-preserved
loop-i-preserved c =
    let turn = c.loop-i in
    let b = c.wide-b.result in
    let more = Parting.below c.loop-i-test.true c.wide-len.ensures in
    let entry = c.wide-b.ensures ∙ Parting.entry_read c.requires.0 c.args.n c.requires.1 c.args.p turn.i more turn.kept turn.invariant.5
    (omega arith) turn.invariant.7 in
    let inside = Parting.entry_block c.requires.0 c.args.n c.requires.1 c.args.p turn.i more b entry in
    let born = Parting.birth_read c.requires.0 c.args.n c.requires.1 c.args.p turn.i more turn.kept turn.invariant.5 (omega arith) turn.invariant.7 b inside in
    elim c.if-p-t.branch [
      | then-p-t w ↦
          let young = (let z : c.args.p < (view_of c.args.g c.args.t.now).birth b = omega (arith, w.if-p-t.true, born) in z) in
          rw (w.t-is, w.out-is, w.count-is, w.kept-is) (
            turn.invariant.0,
            simp length-set turn.invariant.1,
            turn.invariant.2,
            omega arith,
            Parting.count_more c.requires.0 c.args.n c.requires.1 c.args.p turn.i more b entry young turn.count turn.invariant.4,
            Parting.kept_past c.requires.0 c.args.n c.requires.1 c.args.p turn.i more b entry young turn.kept turn.invariant.5,
            Parting.out_more c.requires.0 c.args.n c.requires.1 c.args.p turn.i more b entry young turn.count turn.invariant.4 _ _ turn.invariant.6,
            Parting.row_past c.requires.0 c.args.n c.requires.1 c.args.p turn.i more b entry young turn.invariant.7,
          )
      | else-p-t w ↦
          let old = (let z : (view_of c.args.g c.args.t.now).birth b ≤ c.args.p = omega (arith, w.if-p-t.false, born) in z) in
          rw (w.t-is, w.out-is, w.count-is, w.kept-is) (
            simp length-set turn.invariant.0,
            turn.invariant.1,
            turn.invariant.2,
            omega arith,
            Parting.count_past c.requires.0 c.args.n c.requires.1 c.args.p turn.i more b entry old turn.count turn.invariant.4,
            Parting.kept_more c.requires.0 c.args.n c.requires.1 c.args.p turn.i more b entry old turn.kept turn.invariant.5,
            Parting.out_past c.requires.0 c.args.n c.requires.1 c.args.p turn.i more b entry old _ _ turn.invariant.6,
            Parting.row_more c.requires.0 c.args.n c.requires.1 c.args.p turn.i more b entry old turn.kept turn.invariant.5 turn.invariant.7,
          )
    ]

pub returns : goal.returns
returns c =
    let turn = c.loop-i in
    let K = view_of c.args.g c.args.t.now in
    let p = c.args.p in
    let all = Parting.part_end_lem c.args.g c.args.t.now c.args.n c.requires.1 turn.i _ c.wide-len.ensures turn.auto.i-end c.loop-i-test.false in
    record {
      count = turn.invariant.4 ∙ ap (λ m. length (younger K p m)) all;
      tables = turn.invariant.7 ∙ ap (λ m. sets c.args.t.now (list_cell c.args.g.records c.args.n 0) (others K p m)) all;
      out = turn.invariant.6 ∙ ap (λ m. sets c.args.out.now 0 (younger K p m)) all;
    }
