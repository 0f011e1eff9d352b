-- The blocks of a deadlist that would be queued, listed.
use native.Mathlib.Omega.{arith}
use mathlib.Core.Path.{refl, sym, ap, ◌∙◌}
use Prim.Native.Nat.{◌≤◌, ◌<◌}
use lib.ListN.{length, length-set}
use lib.Seq.{sets}
use Rattle.model.specs.Lists.{keep_if}
use Rattle.model.specs.Layout.{view_of}
use Rattle.tables.proofs.Fields
use Rattle.tables.proofs.Ranges
use Rattle.deleting.specs.Stages.{younger}
use Rattle.deleting.proofs.Parting
use Rattle.deleting.proofs.estimate.list_gone.Goals as goal
use Rattle.deleting.proofs.estimate.list_gone.Goals.{then-p-t, else-p-t}

pub loop-i-init : goal.loop-i-init
unfolding keep_if
loop-i-init c =
    let few = Ranges.length_cell_le c.requires.0 c.args.n c.requires.1 in
    (refl, omega arith, omega (arith, c.wide-len.ensures, few, c.requires.0.roomy.inside.pages_most), refl, refl)

pub bounds-t-g-in-loop-i : goal.bounds-t-g-in-loop-i
bounds-t-g-in-loop-i c =
    let more = Parting.below c.loop-i-test.true c.wide-len.ensures in
    omega (arith, c.wide-b.ensures, Ranges.entry_cell_lt c.requires.0 c.args.n c.loop-i.i c.requires.1 more)

pub loop-i-preserved : goal.loop-i-preserved
loop-i-preserved c =
    let turn = c.loop-i in
    let more = Parting.below c.loop-i-test.true c.wide-len.ensures in
    let entry = c.wide-b.ensures ∙ sym (Fields.list_at c.args.g c.args.t.now c.args.n turn.i c.requires.1 more) in
    let b = c.wide-b.result in
    let block = Parting.entry_block c.requires.0 c.args.n c.requires.1 c.args.p turn.i more b entry in
    let birth = Fields.birth_is c.args.g c.args.t.now b block in
    elim c.if-p-t.branch [
      | then-p-t w ↦
          let young = (let z : c.args.p < (view_of c.args.g c.args.t.now).birth b = omega (arith, w.if-p-t.true, birth) in z) in
          rw (w.young-is, w.count-is) (
            simp length-set turn.invariant.0,
            omega arith,
            turn.invariant.2,
            Parting.count_more c.requires.0 c.args.n c.requires.1 c.args.p turn.i more b entry young turn.count turn.invariant.3,
            Parting.out_more c.requires.0 c.args.n c.requires.1 c.args.p turn.i more b entry young turn.count turn.invariant.3 _ _ turn.invariant.4,
          )
      | else-p-t w ↦
          let old = (let z : (view_of c.args.g c.args.t.now).birth b ≤ c.args.p = omega (arith, w.if-p-t.false, birth) in z) in
          rw (w.young-is, w.count-is) (
            turn.invariant.0,
            omega arith,
            turn.invariant.2,
            Parting.count_past c.requires.0 c.args.n c.requires.1 c.args.p turn.i more b entry old turn.count turn.invariant.3,
            Parting.out_past c.requires.0 c.args.n c.requires.1 c.args.p turn.i more b entry old _ _ turn.invariant.4,
          )
    ]

pub returns : goal.returns
returns c =
    let turn = c.loop-i in
    let K = view_of c.args.g c.args.t.now in
    let p = c.args.p in
    let all = Parting.part_end_lem c.args.g c.args.t.now c.args.n c.requires.1 turn.i _ c.wide-len.ensures turn.auto.i-end c.loop-i-test.false in
    record {
      count = turn.invariant.3 ∙ ap (λ m. length (younger K p m)) all;
      range = omega arith;
      young = turn.invariant.4 ∙ ap (λ m. sets c.args.young.now 0 (younger K p m)) all;
    }
