-- Blocks that the pred has not are listed, word by word.
use mathlib.Core.Path.{◌≡◌, refl, ap, ◌∙◌}
use Prim.Native.Nat.{◌+◌, min}
use lib.ListN.{length}
use lib.Seq.{sets}
use Rattle.model.specs.Lists.{rows}
use Rattle.model.specs.Layout.{view_of}
use Rattle.deleting.proofs.Owning
use native.Mathlib.Omega.{arith}
use Rattle.deleting.proofs.last.list_young.Goals as goal

pub pred_link-pred-requires : goal.pred_link-pred-requires
pred_link-pred-requires c = (c.requires.0, c.requires.2, c.requires.3)

pub loop-x-init : goal.loop-x-init
unfolding rows
loop-x-init c =
    let z : min 0 c.args.g.pages ≡ 0 = omega arith in
    rw z (omega arith, refl, refl, refl)

pub list_word-count-requires : goal.list_word-count-requires
list_word-count-requires c =
    let a = c.args in
    let l = c.loop-x in
    let p = c.pred_link-pred.ensures in
    let n = c.stretch.ensures.is in
    let test = c.loop-x-test.true in
    let here : min l.x a.g.pages ≡ l.x = omega arith in
    let all = Owning.owned_all c.requires.0 a.s c.requires.3 a.g.pages (omega arith) (omega arith) in
    let room = Owning.joined_room (view_of a.g a.t.now) a.s l.x c.stretch.result l.count a.g.pages (rw here at l.invariant.2) (omega arith) (omega arith) in (
      c.requires.0,
      omega (arith, room, ap length all, c.requires.1, l.invariant.1),
      c.requires.2,
      p.is,
      p.range,
      omega arith,
      omega arith,
      omega (arith, l.invariant.0),
    )

pub loop-x-preserved : goal.loop-x-preserved
loop-x-preserved c =
    let a = c.args in
    let l = c.loop-x in
    let K = view_of a.g a.t.now in
    let w = c.list_word-count.ensures in
    let here : min l.x a.g.pages ≡ l.x = omega (arith, c.loop-x-test.true) in
    let next : min (l.x + 32) a.g.pages ≡ l.x + c.stretch.result = omega (arith, c.stretch.ensures.is, c.loop-x-test.true) in
    let before = rw here at l.invariant.2 in
    rw next (
      omega (arith, w.range),
      Owning.joined_length K a.s l.x _ a.out.now _ _ l.count w.out l.invariant.1,
      Owning.joined_count K a.s l.x _ l.count _ before w.count,
      Owning.joined_out K a.s l.x _ a.out.now _ _ l.count before (rw here at l.invariant.3) w.out,
    )

pub returns : goal.returns
returns c =
    let l = c.loop-x in
    let end = c.loop-x-test.false in
    let all = Owning.owned_all c.requires.0 c.args.s c.requires.3 (min l.x c.args.g.pages) (omega arith) (omega arith) in
    record {
      count = l.invariant.2 ∙ ap length all;
      out = l.invariant.3 ∙ ap (sets c.args.out.now 0) all;
    }

pub returns-2 : goal.returns-2
returns-2 c =
    let a = c.args in
    let l = c.loop-x in
    let K = view_of a.g a.t.now in
    let n = c.stretch.ensures.is in
    let w = c.list_word-count.ensures in
    let here : min l.x a.g.pages ≡ l.x = omega (arith, c.loop-x-test.true) in
    let before = rw here at l.invariant.2 in
    let all = Owning.owned_all c.requires.0 a.s c.requires.3 (l.x + c.stretch.result) (omega (arith, c.loop-x-test.true)) (omega arith) in
    record {
      count = Owning.joined_count K a.s l.x _ l.count _ before w.count ∙ ap length all;
      out = Owning.joined_out K a.s l.x _ a.out.now _ _ l.count before (rw here at l.invariant.3) w.out ∙ ap (sets a.out.now 0) all;
    }
