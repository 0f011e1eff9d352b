-- The blocks of the pages passed are counted, and the bits of the others are left.
use mathlib.Core.Path.{refl, sym, ap, ◌∙◌}
use Prim.Native.Nat.{◌+◌}
use lib.ListN.{length}
use Rattle.model.specs.Lists.{rows}
use Rattle.model.specs.Layout.{view_of}
use Rattle.tables.specs.Rows.{differs}
use Rattle.choice.specs.declared.bits.Bits.{Bits}
use Rattle.choice.proofs.Taking.{left_all}
use Rattle.deleting.proofs.Owning
use native.Mathlib.Omega.{arith}
use Rattle.deleting.proofs.last.count_word.Goals as goal

pub differing-word-requires : goal.differing-word-requires
differing-word-requires c = (c.requires.0, c.requires.1, c.requires.3, c.requires.4, c.requires.5)

pub loop-k-init : goal.loop-k-init
unfolding rows
loop-k-init c =
    let a = c.args in
    let e = ap (λ (b : Bits). b.word) (c.into_iter-k-iterator.ensures.into_iter_gives ∙ c.of-k-items.ensures) ∙ c.differing-word.ensures in
    (0, left_all (differs (view_of a.g a.t.now) a.s a.pred) a.x a.n e, omega arith, refl)

pub page_at-requires : goal.page_at-requires
page_at-requires c =
    let a = c.args in
    let l = c.loop-k in
    let i = l.invariant in
    let K = view_of a.g a.t.now in
    let next = c.in-Some.ensures.steps in (
      c.requires.0,
      c.requires.1,
      omega (
        arith,
        Owning.listed_inside K a.s a.pred c.requires.2 a.x a.n i.0 c.requires.4 i.1 next.0
            c.in-Some.k next.1,
        c.requires.5,
      ),
    )

pub loop-k-preserved-then-page_at-ne0 : goal.loop-k-preserved-then-page_at-ne0
loop-k-preserved-then-page_at-ne0 c =
    let a = c.args in
    let l = c.loop-k in
    let i = l.invariant in
    let K = view_of a.g a.t.now in
    let next = c.in-Some.ensures.steps in
    let from = Owning.listed_from K a.s a.pred c.requires.2 a.x a.n i.0 c.requires.4 i.1 next.0 c.in-Some.k next.1 in
    let left = Owning.listed_left K a.s a.pred c.requires.2 a.x a.n i.0 c.requires.4 i.1 next.0 c.in-Some.k next.1 in
    let one = Owning.listed_count K a.s a.pred c.requires.2 a.x a.n i.0 c.requires.4 i.1 next.0 c.in-Some.k next.1 _ c.page_at.ensures
    c.if-page_at-ne0.true in
    rw next.2 (c.in-Some.k + 1, left, omega (arith, i.2, from), omega (arith, i.3, one))

pub loop-k-preserved : goal.loop-k-preserved
loop-k-preserved c =
    let a = c.args in
    let l = c.loop-k in
    let i = l.invariant in
    let K = view_of a.g a.t.now in
    let next = c.in-Some.ensures.steps in
    let from = Owning.listed_from K a.s a.pred c.requires.2 a.x a.n i.0 c.requires.4 i.1 next.0 c.in-Some.k next.1 in
    let left = Owning.listed_left K a.s a.pred c.requires.2 a.x a.n i.0 c.requires.4 i.1 next.0 c.in-Some.k next.1 in
    let same = Owning.listed_none K a.s a.pred c.requires.2 a.x a.n i.0 c.requires.4 i.1 next.0 c.in-Some.k next.1 _ c.page_at.ensures
    c.if-page_at-ne0.false in
    rw next.2 (c.in-Some.k + 1, left, omega (arith, i.2, from), i.3 ∙ ap length (sym same))

pub returns : goal.returns
returns c =
    let a = c.args in
    let l = c.loop-k in
    let i = l.invariant in
    let K = view_of a.g a.t.now in
    let all = Owning.listed_end K a.s a.pred c.requires.2 a.x a.n i.0 c.requires.4 i.1 c.in-None.ensures.steps in
    record {
      is = i.3 ∙ ap length all;
      range = omega (arith, i.1.to, i.2);
    }
