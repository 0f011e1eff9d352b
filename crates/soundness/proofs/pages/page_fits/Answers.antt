-- `page_fits`: the clause of the link that fails first, or all of them and the mark.
use Rattle.std.proofs.Common.{◌-◌, ◌<◌, ap, ◌∙◌, arith, length-set}
use Rattle.model.specs.Layout.{view_of}
use Rattle.tables.specs.Lent.{view_in}
use Rattle.soundness.specs.declared.pages.Kin.{Kin}
use Rattle.soundness.proofs.PagesMarks.{birth_said, own_none, own_beyond, own_old, own_young, own_twice, own_fits}
use Rattle.soundness.proofs.pages.page_fits.Goals as goal

pub returns-then-link-eq0 : goal.returns-then-link-eq0
returns-then-link-eq0 c = let a = c.args in
    let p = own_none (view_in a.tables.now) a.s a.own.now a.link c.if-link-eq0.true in
    record {
      is = p.0;
      marked = λ e. p.1;
      size = c.requires.1;
    }

pub returns : goal.returns
unfolding view_of
returns c =
    let a = c.args in let g = a.tables.now.g in let t = a.tables.now.cells.now in
    let e = birth_said g t a.link c.if-link-eq0.false c.if-g-link.false c.wide-birth.ensures in
    let f = ap (λ (k : Kin). k.older) c.requires.0 in
    let h = ap (λ (k : Kin). k.number) c.requires.0 in
    let k : a.link - 1 < 2048 = omega (arith, c.args.tables.now.roomy.inside.blocks_most) in
    let p = own_fits (view_of g t) a.s a.own.now a.link c.if-link-eq0.false c.if-g-link.false (omega (arith, c.if-birth-kin.false))
    (omega (arith, c.if-kin-birth.false)) c.if-own-link-ne0.false (omega (arith, c.requires.1)) in
    record {
      is = p.0;
      marked = λ e. p.1;
      size = length-set a.own.now (a.link - 1) 1 ∙ c.requires.1;
    }

pub returns-then-g-link-clause-is : goal.returns-then-g-link-clause-is
unfolding view_of
returns-then-g-link-clause-is c =
    let a = c.args in own_beyond (view_in a.tables.now) a.s a.own.now a.link c.if-g-link.true

pub returns-then-birth-kin-clause-is : goal.returns-then-birth-kin-clause-is
returns-then-birth-kin-clause-is c =
    let a = c.args in let g = a.tables.now.g in let t = a.tables.now.cells.now in
    let e = birth_said g t a.link c.if-link-eq0.false c.if-g-link.false c.wide-birth.ensures in
    let f = ap (λ (k : Kin). k.older) c.requires.0 in
    own_old (view_of g t) a.s a.own.now a.link c.if-link-eq0.false (omega (arith, c.if-birth-kin.true))

pub returns-then-kin-birth-clause-is : goal.returns-then-kin-birth-clause-is
returns-then-kin-birth-clause-is c =
    let a = c.args in let g = a.tables.now.g in let t = a.tables.now.cells.now in
    let e = birth_said g t a.link c.if-link-eq0.false c.if-g-link.false c.wide-birth.ensures in
    let f = ap (λ (k : Kin). k.number) c.requires.0 in
    own_young (view_of g t) a.s a.own.now a.link c.if-link-eq0.false (omega (arith, c.if-kin-birth.true))

pub returns-then-own-link-ne0-clause-is : goal.returns-then-own-link-ne0-clause-is
returns-then-own-link-ne0-clause-is c =
    let a = c.args in own_twice (view_in a.tables.now) a.s a.own.now a.link c.if-link-eq0.false c.if-own-link-ne0.true
