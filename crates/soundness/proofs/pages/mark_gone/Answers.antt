-- `mark_gone`: no block, one that is too old, or one block with its stamp.
use Rattle.std.proofs.Common.{suc, ◌+◌, ◌∙◌, add-one, arith, length-set}
use Rattle.soundness.proofs.PagesMarks.{young_outside, young_not, young_yes, stamp_none, stamp_one}
use Rattle.soundness.proofs.pages.mark_gone.Goals as goal

pub returns-then-g-b : goal.returns-then-g-b
returns-then-g-b c =
    let a = c.args in let g = a.tables.now.g in let t = a.tables.now.cells.now in
    let w = c.wrapping_sub_usize-b in
    let p = stamp_none (suc a.s) a.gone.now (young_outside g t a.s a.link w.ensures.value w.type_inv c.if-g-b.true) in
    record {
      count = p.0;
      stamped = p.1;
      size = (omega arith, c.requires.2);
    }

pub returns-then-wide-root : goal.returns-then-wide-root
returns-then-wide-root c =
    let a = c.args in let g = a.tables.now.g in let t = a.tables.now.cells.now in
    let w = c.wrapping_sub_usize-b in
    let p = stamp_none (suc a.s) a.gone.now
    (young_not g t a.s a.link w.ensures.value c.if-g-b.false c.args.tables.now.roomy.inside.blocks_most c.wide.ensures
    (omega (arith, c.if-wide-root.true, c.requires.1))) in
    record {
      count = p.0;
      stamped = p.1;
      size = (omega arith, c.requires.2);
    }

pub returns : goal.returns
returns c =
    let a = c.args in let g = a.tables.now.g in let t = a.tables.now.cells.now in
    let w = c.wrapping_sub_usize-b in
    let p = stamp_one (suc a.s) a.gone.now w.result (a.s + 1) (add-one a.s)
    (young_yes g t a.s a.link w.ensures.value c.if-g-b.false c.args.tables.now.roomy.inside.blocks_most c.wide.ensures
    (omega (arith, c.if-wide-root.false, c.requires.1)))
    (omega (arith, c.if-g-b.false, c.args.tables.now.roomy.inside.blocks_most, c.requires.2)) in
    record {
      count = p.0;
      stamped = p.1;
      size = (omega arith, length-set a.gone.now w.result (a.s + 1) ∙ c.requires.2);
    }
