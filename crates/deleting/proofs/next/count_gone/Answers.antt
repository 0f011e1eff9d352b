-- The blocks that leave it, counted along the deadlist.
use native.Mathlib.Omega.{arith}
use mathlib.Core.Path.{refl, sym, ap, ◌∙◌}
use lib.ListN.{length}
use Rattle.model.specs.Lists.{keep_if}
use Rattle.model.specs.Window.{born_above}
use Rattle.model.specs.Layout.{view_of}
use Rattle.tables.proofs.Fields
use Rattle.tables.proofs.Ranges
use Rattle.deleting.proofs.Parting
use Rattle.deleting.specs.Stages.{younger}
use Rattle.deleting.proofs.next.count_gone.Goals as goal
use Rattle.deleting.proofs.next.count_gone.Goals.{then-p-t, else-p-t}

pub loop-i-init : goal.loop-i-init
unfolding keep_if
loop-i-init c = (
  omega arith,
  omega (
    arith,
    c.wide-len.ensures,
    Ranges.length_cell_le c.requires.0 c.args.n c.requires.1,
    c.requires.0.roomy.inside.pages_most,
  ),
  refl,
)

pub bounds-t-g-in-loop-i : goal.bounds-t-g-in-loop-i
bounds-t-g-in-loop-i c =
    let turn = c.loop-i in
    let b = c.wide-b.result in
    let more = Parting.below c.loop-i-test.true c.wide-len.ensures in
    let entry = c.wide-b.ensures ∙ sym (Fields.list_at c.args.g c.args.t.now c.args.n turn.i c.requires.1 more) in
    let inside = Parting.entry_block c.requires.0 c.args.n c.requires.1 c.args.p turn.i more b entry in omega arith

pub loop-i-preserved : goal.loop-i-preserved
loop-i-preserved c =
    let turn = c.loop-i in
    let b = c.wide-b.result in
    let more = Parting.below c.loop-i-test.true c.wide-len.ensures in
    let entry = c.wide-b.ensures ∙ sym (Fields.list_at c.args.g c.args.t.now c.args.n turn.i c.requires.1 more) in
    let inside = Parting.entry_block c.requires.0 c.args.n c.requires.1 c.args.p turn.i more b entry in
    let birth = Fields.birth_is c.args.g c.args.t.now b inside in
    elim c.if-p-t.branch [
      | then-p-t w ↦
          rw w.count-is (
            omega arith,
            turn.invariant.1,
            Parting.count_more c.requires.0 c.args.n c.requires.1 c.args.p turn.i more b entry
                (omega (arith, w.if-p-t.true, birth)) turn.count turn.invariant.2,
          )
      | else-p-t w ↦
          rw w.count-is (
            omega arith,
            turn.invariant.1,
            Parting.count_past c.requires.0 c.args.n c.requires.1 c.args.p turn.i more b entry
                (omega (arith, w.if-p-t.false, birth)) turn.count turn.invariant.2,
          )
    ]

pub returns : goal.returns
unfolding born_above
returns c =
    let turn = c.loop-i in
    let all = Parting.part_end_lem c.args.g c.args.t.now c.args.n c.requires.1 turn.i _ c.wide-len.ensures turn.auto.i-end c.loop-i-test.false in
    record {
      is = turn.invariant.2 ∙ ap (λ m. length (younger (view_of c.args.g c.args.t.now) c.args.p m)) all;
      range = omega arith;
    }
