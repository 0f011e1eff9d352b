-- The blocks that wait, one after another.
use mathlib.Core.Path.{◌≡◌, sym, ap, ◌∙◌, subst}
use mathlib.Core.Logic.{inr}
use Prim.Native.Nat.{◌<◌}
use native.Mathlib.Numerals.{add-one}
use lib.ListN.{length, get_or}
use Rattle.model.specs.Layout.{state_of}
use Rattle.tables.proofs.Freeing.{waiting_length, waiting_at}
use Rattle.tables.proofs.Releasing.{Raised, raised_none, raised_next, raised_all, place_low, waiting_low}
use native.Mathlib.Omega.{arith}
use Rattle.tables.proofs.births.release.Goals as goal

pub loop-i-init : goal.loop-i-init
loop-i-init c = let a = c.args in
    let R = c.requires in
    (R, c.wide-n.ensures ∙ sym (waiting_length a.g a.t.now), omega arith, raised_none a.g a.t.now R)

pub bounds-t-waiting_at : goal.bounds-t-waiting_at
bounds-t-waiting_at c = let l = c.loop-i in
    let R = l.invariant.0 in
    let low = place_low _ _ R _ _ l.invariant.1 c.loop-i-test.true in
    omega (arith, c.waiting_at.ensures, low, R.roomy.inside.blocks_most, R.roomy.inside.records_most, R.roomy.room, l.invariant.3.long)

pub raise-requires : goal.raise-requires
raise-requires c = let l = c.loop-i in
    let R = l.invariant.0 in
    let a = c.args in
    let k = c.loop-i-test.true in
    let i : l.i < length (state_of a.g a.t.now).waiting = omega (arith, l.invariant.1) in
    let e = waiting_at a.g a.t.now l.i (omega (arith, waiting_length a.g a.t.now)) in
    let p = place_low _ _ R _ _ l.invariant.1 k in
    let b = c.wide-b.ensures ∙ ap (λ x. get_or l.t x 0) (omega (arith, c.waiting_at.ensures)) ∙ l.invariant.3.rest _ (inr (omega arith)) ∙ sym e in
    (omega (arith, R.roomy.room, l.invariant.3.long), omega (arith, waiting_low _ _ R _ _ i b, R.roomy.inside.blocks_most))

pub loop-i-preserved : goal.loop-i-preserved
loop-i-preserved c = let l = c.loop-i in
    let R = l.invariant.0 in
    let a = c.args in
    let k = c.loop-i-test.true in
    let i : l.i < length (state_of a.g a.t.now).waiting = omega (arith, l.invariant.1) in
    let e = waiting_at a.g a.t.now l.i (omega (arith, waiting_length a.g a.t.now)) in
    let b = c.wide-b.ensures ∙ ap (λ x. get_or l.t x 0) (omega (arith, c.waiting_at.ensures)) ∙ l.invariant.3.rest _ (inr (omega arith)) ∙ sym e in
    (R, l.invariant.1, omega arith, rw (c.raise.ensures, add-one l.i) (raised_next _ _ R l.i _ l.t l.invariant.3 i b))

pub returns : goal.returns
returns c = let l = c.loop-i in
    let a = c.args in
    let e : l.i ≡ length (state_of a.g a.t.now).waiting = omega (arith, l.invariant.1) in
    raised_all _ _ l.invariant.0 l.t (subst (λ k. Raised a.g a.t.now k l.t) e l.invariant.3)
