-- Where a block's birth is not that of the block before it, a stretch begins.
use native.Mathlib.Omega.{arith}
use mathlib.Core.Path.{sym}
use Rattle.model.specs.Layout.{view_of}
use Rattle.deleting.proofs.Sifting
use Rattle.deleting.proofs.Estimating
use Rattle.deleting.proofs.estimate.count_stretches.Goals as goal
use Rattle.deleting.proofs.estimate.count_stretches.Goals.{then-birth-last, else-birth-last}

pub bounds-t-g : goal.bounds-t-g
bounds-t-g c = omega (arith, c.wide.ensures, c.requires.3 c.loop-i.i c.loop-i-test.true)

pub loop-i-preserved : goal.loop-i-preserved
loop-i-preserved c =
    let turn = c.loop-i in
    let more = c.loop-i-test.true in
    let birth = Sifting.birth_at c.args.g c.args.t.now _ _ c.wide.ensures (c.requires.3 turn.i more) in
    let key = (view_of c.args.g c.args.t.now).birth in
    elim c.if-birth-last.branch [
      | then-birth-last w ↦
          rw (w.count-is, w.last-is) (
            omega arith,
            Estimating.begins key c.args.young.now c.args.n turn.i c.requires.2 more _ (sym birth) _ turn.count turn.last turn.invariant.1 w.if-birth-last.true,
          )
      | else-birth-last w ↦
          rw (w.count-is, w.last-is) (
            omega arith,
            Estimating.goes_on_lem key c.args.young.now c.args.n turn.i c.requires.2 more _
                (sym birth) _ turn.count turn.last turn.invariant.1 w.if-birth-last.false,
          )
    ]

pub returns : goal.returns
returns c =
    let turn = c.loop-i in
    let key = (view_of c.args.g c.args.t.now).birth in
    let end = c.loop-i-test.false in
    record {
      is = Estimating.at_end key c.args.young.now c.args.n turn.i c.requires.2 end _ turn.count turn.last turn.invariant.1;
      range = omega arith;
    }
