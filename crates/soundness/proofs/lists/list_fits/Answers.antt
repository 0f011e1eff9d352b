-- `list_fits`: what is left of the deadlist takes from the stamps so far what all of it takes from those at the start.
use Rattle.std.proofs.Common.{◌+◌, ◌*◌, ◌∙◌, arith}
use Rattle.soundness.proofs.Cells.{part_turn, part_end}
use Rattle.soundness.proofs.ListsStamps.{list_other, taking_starts, taking_ends, taking_fails, taking_beyond, taking_goes}
use Rattle.soundness.proofs.lists.list_fits.Goals as goal

pub loop-x-init : goal.loop-x-init
loop-x-init c = let a = c.args in let g = a.tables.now.g in let t = a.tables.now.cells.now in
    taking_starts g t a.s a.count a.gone.now c.requires.0 c.wide.ensures c.if-wide-count.false c.requires.2

pub loop-x-preserved : goal.loop-x-preserved
loop-x-preserved c =
    let a = c.args in let g = a.tables.now.g in let t = a.tables.now.cells.now in
    let (h, e) = part_turn t (2048 + 256 * g.records + 256 * a.s) a.count c.loop-x.x-index
    (omega (arith, c.args.tables.now.roomy.room, c.requires.0, c.requires.1)) c.loop-x-test.true in
    taking_goes g t a.s a.count a.gone.now c.requires.0 c.wide.ensures c.if-wide-count.false c.loop-x.invariant h (c.wide-b.ensures ∙ e)
    (omega (arith, c.if-from-s.false, c.from.ensures)) c.if-b-ge2048.false

pub returns-then-wide-count-clause-is : goal.returns-then-wide-count-clause-is
returns-then-wide-count-clause-is c =
    let a = c.args in let g = a.tables.now.g in let t = a.tables.now.cells.now in
    list_other g t a.s a.count a.gone.now c.requires.0 c.wide.ensures c.if-wide-count.true

pub returns-then-b-ge2048-clause-is : goal.returns-then-b-ge2048-clause-is
returns-then-b-ge2048-clause-is c =
    let a = c.args in let g = a.tables.now.g in let t = a.tables.now.cells.now in
    let (h, e) = part_turn t (2048 + 256 * g.records + 256 * a.s) a.count c.loop-x.x-index
    (omega (arith, c.args.tables.now.roomy.room, c.requires.0, c.requires.1)) c.loop-x-test.true in
    taking_beyond g t a.s a.count a.gone.now c.requires.0 c.wide.ensures c.if-wide-count.false c.loop-x.invariant h (c.wide-b.ensures ∙ e)
    c.if-b-ge2048.true

pub returns-then-from-s-clause-is : goal.returns-then-from-s-clause-is
returns-then-from-s-clause-is c =
    let a = c.args in let g = a.tables.now.g in let t = a.tables.now.cells.now in
    let (h, e) = part_turn t (2048 + 256 * g.records + 256 * a.s) a.count c.loop-x.x-index
    (omega (arith, c.args.tables.now.roomy.room, c.requires.0, c.requires.1)) c.loop-x-test.true in
    taking_fails g t a.s a.count a.gone.now c.requires.0 c.wide.ensures c.if-wide-count.false c.loop-x.invariant h (c.wide-b.ensures ∙ e)
    (λ w. c.if-from-s.true (omega (arith, c.from.ensures, w)))

pub returns-clause-is : goal.returns-clause-is
returns-clause-is c =
    let a = c.args in let g = a.tables.now.g in let t = a.tables.now.cells.now in
    let h = part_end t (2048 + 256 * g.records + 256 * a.s) a.count c.loop-x.x-index
    (omega (arith, c.args.tables.now.roomy.room, c.requires.0, c.requires.1)) c.loop-x-test.false in
    taking_ends g t a.s a.count a.gone.now c.requires.0 c.wide.ensures c.if-wide-count.false c.loop-x.invariant h
