-- The blocks of the pages passed are listed, and the bits of the others are left.
use mathlib.Core.Path.{refl, sym, ap, ◌∙◌}
use Prim.Native.Nat.{◌+◌}
use lib.ListN.{length, length-set}
use lib.Seq.{sets}
use Rattle.model.specs.Lists.{rows}
use Rattle.model.specs.Layout.{view_of}
use Rattle.tables.specs.Rows.{differs}
use Rattle.choice.specs.declared.bits.Bits.{Bits}
use Rattle.choice.proofs.Taking.{left_all}
use Rattle.deleting.proofs.Owning
use native.Mathlib.Omega.{arith}
use Rattle.deleting.proofs.last.list_word.Goals as goal

pub differing-word-requires : goal.differing-word-requires
differing-word-requires c = (c.requires.0.roomy, c.requires.2, c.requires.4, c.requires.5, c.requires.6)

pub loop-k-init : goal.loop-k-init
unfolding rows
loop-k-init c =
    let a = c.args in
    let e = ap (λ (b : Bits). b.word) (c.into_iter-k-iterator.ensures.into_iter_gives ∙ c.of-k-items.ensures) ∙ c.differing-word.ensures in
    (0, left_all (differs (view_of a.g a.t.now) a.s a.pred) a.x a.n e, omega (arith, c.requires.7), refl, omega arith, refl)

pub page_at-link-requires : goal.page_at-link-requires
page_at-link-requires c =
    let a = c.args in
    let l = c.loop-k in
    let i = l.invariant in
    let K = view_of a.g a.t.now in
    let next = c.in-Some.ensures.steps in (
      c.requires.0.roomy,
      c.requires.2,
      omega (
        arith,
        Owning.listed_inside K a.s a.pred c.requires.3 a.x a.n i.0 c.requires.5 i.1 next.0
            c.in-Some.k next.1,
        c.requires.6,
      ),
    )

pub bounds-out-found : goal.bounds-out-found
bounds-out-found c =
    let a = c.args in
    let l = c.loop-k in
    let i = l.invariant in
    let K = view_of a.g a.t.now in
    let next = c.in-Some.ensures.steps in
    omega (
      arith,
      Owning.listed_room K a.s a.pred c.requires.3 a.x a.n i.0 c.requires.5 i.1 next.0 c.in-Some.k next.1 _
          c.page_at-link.ensures c.if-link-ne0.true,
      c.requires.1,
      i.3,
      i.4,
    )

pub loop-k-preserved-then-link-ne0 : goal.loop-k-preserved-then-link-ne0
loop-k-preserved-then-link-ne0 c =
    let a = c.args in
    let l = c.loop-k in
    let i = l.invariant in
    let K = view_of a.g a.t.now in
    let next = c.in-Some.ensures.steps in
    let from = Owning.listed_from K a.s a.pred c.requires.3 a.x a.n i.0 c.requires.5 i.1 next.0 c.in-Some.k next.1 in
    let left = Owning.listed_left K a.s a.pred c.requires.3 a.x a.n i.0 c.requires.5 i.1 next.0 c.in-Some.k next.1 in
    let one = Owning.listed_count K a.s a.pred c.requires.3 a.x a.n i.0 c.requires.5 i.1 next.0 c.in-Some.k next.1 _ c.page_at-link.ensures
    c.if-link-ne0.true in
    let out = Owning.listed_out K a.s a.pred c.requires.3 a.x a.n i.0 c.requires.5 i.1 next.0 c.in-Some.k next.1 _ c.page_at-link.ensures
    c.if-link-ne0.true _ _ _ _ i.4 i.5 in
    rw next.2 (c.in-Some.k + 1, left, omega (arith, i.2, from), simp length-set i.3, omega (arith, i.4, one), out)

pub loop-k-preserved : goal.loop-k-preserved
loop-k-preserved c =
    let a = c.args in
    let l = c.loop-k in
    let i = l.invariant in
    let K = view_of a.g a.t.now in
    let next = c.in-Some.ensures.steps in
    let from = Owning.listed_from K a.s a.pred c.requires.3 a.x a.n i.0 c.requires.5 i.1 next.0 c.in-Some.k next.1 in
    let left = Owning.listed_left K a.s a.pred c.requires.3 a.x a.n i.0 c.requires.5 i.1 next.0 c.in-Some.k next.1 in
    let same = Owning.listed_none K a.s a.pred c.requires.3 a.x a.n i.0 c.requires.5 i.1 next.0 c.in-Some.k next.1 _ c.page_at-link.ensures
    c.if-link-ne0.false in
    rw next.2 (
      c.in-Some.k + 1,
      left,
      omega (arith, i.2, from),
      i.3,
      i.4 ∙ ap (λ m. a.count + length m) (sym same),
      i.5 ∙ ap (sets a.out.now a.count) (sym same),
    )

pub returns : goal.returns
returns c =
    let a = c.args in
    let l = c.loop-k in
    let i = l.invariant in
    let K = view_of a.g a.t.now in
    let all = Owning.listed_end K a.s a.pred c.requires.3 a.x a.n i.0 c.requires.5 i.1 c.in-None.ensures.steps in
    record {
      count = i.4 ∙ ap (λ m. a.count + length m) all;
      range = omega (arith, i.1.to, i.2);
      out = i.5 ∙ ap (sets a.out.now a.count) all;
    }
