-- Blocks that the pred has not are counted, word by word.
use mathlib.Core.Path.{◌≡◌, refl, ap, ◌∙◌}
use Prim.Native.Nat.{◌+◌, min}
use lib.ListN.{length}
use Rattle.model.specs.Lists.{rows}
use Rattle.model.specs.Layout.{view_of}
use Rattle.deleting.proofs.Owning
use native.Mathlib.Omega.{arith}
use Rattle.deleting.proofs.last.count_young.Goals as goal

pub loop-x-init : goal.loop-x-init
unfolding rows
loop-x-init c =
    let z : min 0 c.args.g.pages ≡ 0 = omega arith in
    rw z (omega arith, refl)

pub loop-x-preserved : goal.loop-x-preserved
loop-x-preserved c =
    let l = c.loop-x in
    let pages = c.args.g.pages in
    let w = c.count_word-count.ensures in
    let here : min l.x pages ≡ l.x = omega (arith, c.loop-x-test.true) in
    let next : min (l.x + 32) pages ≡ l.x + c.stretch.result = omega (arith, c.stretch.ensures.is, c.loop-x-test.true) in
    rw next (
      omega (arith, w.range, l.invariant.0),
      Owning.joined_count (view_of c.args.g c.args.t.now) c.args.s l.x _ l.count _ (rw here at l.invariant.1) (ap (λ m. l.count + m) w.is),
    )

pub returns : goal.returns
returns c =
    let l = c.loop-x in
    let end = c.loop-x-test.false in
    l.invariant.1 ∙ ap length (Owning.owned_all c.requires.0 c.args.s c.requires.2 (min l.x c.args.g.pages) (omega arith) (omega arith))

pub returns-2 : goal.returns-2
returns-2 c =
    let l = c.loop-x in
    let n = c.stretch.ensures.is in
    let w = c.count_word-count.ensures in
    let here : min l.x c.args.g.pages ≡ l.x = omega (arith, c.loop-x-test.true) in
    Owning.joined_count (view_of c.args.g c.args.t.now) c.args.s l.x _ l.count _ (rw here at l.invariant.1) (ap (λ m. l.count + m) w.is) ∙
    ap length (Owning.owned_all c.requires.0 c.args.s c.requires.2 (l.x + c.stretch.result) (omega (arith, c.loop-x-test.true)) (omega arith))
