-- `set_listed`: what is left of the list joins the words so far as all of it joins those at the start.
use Rattle.std.proofs.Common.{◌∙◌}
use Rattle.soundness.proofs.Cells.{part_turn, part_end}
use Rattle.soundness.proofs.Joining.{setting_ends, setting_beyond, setting_fails, setting_goes}
use Rattle.soundness.proofs.held.set_listed.Goals as goal

pub loop-x-preserved : goal.loop-x-preserved
loop-x-preserved c =
    let a = c.args in let t = a.tables.now.cells.now in
    let (h, e) = part_turn t a.from a.n c.loop-x.x-index c.requires.0 c.loop-x-test.true in
    setting_goes _ _ _ _ _ c.loop-x.invariant h (c.wide-b.ensures ∙ e) c.bit_of-bit.ensures c.if-g-b.false c.if-word-bit-ne0.false

pub returns : goal.returns
returns c =
    let a = c.args in let t = a.tables.now.cells.now in
    let h = part_end t a.from a.n c.loop-x.x-index c.requires.0 c.loop-x-test.false in
    let both = setting_ends _ _ _ _ _ c.loop-x.invariant h in
    record { is = both.0; set = both.1 }

pub returns-then-g-b-clause-is : goal.returns-then-g-b-clause-is
returns-then-g-b-clause-is c =
    let a = c.args in let t = a.tables.now.cells.now in
    let (h, e) = part_turn t a.from a.n c.loop-x.x-index c.requires.0 c.loop-x-test.true in
    (setting_beyond _ _ _ _ _ c.loop-x.invariant h (c.wide-b.ensures ∙ e) c.if-g-b.true).0

pub returns-then-word-bit-ne0-clause-is : goal.returns-then-word-bit-ne0-clause-is
returns-then-word-bit-ne0-clause-is c =
    let a = c.args in let t = a.tables.now.cells.now in
    let (h, e) = part_turn t a.from a.n c.loop-x.x-index c.requires.0 c.loop-x-test.true in
    (setting_fails _ _ _ _ _ c.loop-x.invariant h (c.wide-b.ensures ∙ e) c.bit_of-bit.ensures c.if-word-bit-ne0.true).0
