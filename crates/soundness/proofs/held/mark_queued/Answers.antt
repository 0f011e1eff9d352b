-- `mark_queued`: what is left of the queue gets marks on top of those so far as all of it does on top of those at the start.
use Rattle.std.proofs.Common.{◌≡◌, ◌+◌, ◌&&◌, ◌∙◌, leb, get_or, arith, rules}
use borrow.Author.Tests.{tests}
use Rattle.soundness.proofs.Cells.{part_turn, part_end}
use Rattle.soundness.proofs.Marking.{marking_ends, marking_beyond, marking_twice, marking_unfit, marking_goes}
use Rattle.soundness.proofs.held.mark_queued.Goals as goal

pub loop-x-preserved : goal.loop-x-preserved
loop-x-preserved c =
    let a = c.args in let t = a.tables.now.cells.now in
    let birth = get_or t (c.queue_births_at-births.result + c.wide-b.result) 0 in
    let v : c.contains.result ≡ (leb 1 birth && leb birth a.last) = search (rules, tests) in
    let (h, e) = part_turn t c.queue_at-queue.result a.n c.loop-x.x-index
    (omega (arith, c.queue_at-queue.ensures, c.args.tables.now.roomy.room, c.requires.0)) c.loop-x-test.true in
    marking_goes _ t _ _ _ c.loop-x.invariant h c.queue_at-queue.ensures (c.wide-b.ensures ∙ e)
    c.queue_births_at-births.ensures c.if-g-b.false
    c.if-own-b-ne0.false v c.if-not-contains.false

pub returns : goal.returns
returns c =
    let a = c.args in let t = a.tables.now.cells.now in
    let h = part_end t c.queue_at-queue.result a.n c.loop-x.x-index
    (omega (arith, c.queue_at-queue.ensures, c.args.tables.now.roomy.room, c.requires.0)) c.loop-x-test.false in
    let both = marking_ends _ _ _ _ _ c.loop-x.invariant h in
    record { is = both.0; marked = both.1 }

pub returns-then-g-b-clause-is : goal.returns-then-g-b-clause-is
returns-then-g-b-clause-is c =
    let a = c.args in let t = a.tables.now.cells.now in
    let (h, e) = part_turn t c.queue_at-queue.result a.n c.loop-x.x-index
    (omega (arith, c.queue_at-queue.ensures, c.args.tables.now.roomy.room, c.requires.0)) c.loop-x-test.true in
    (marking_beyond _ t _ _ _ c.loop-x.invariant h c.queue_at-queue.ensures (c.wide-b.ensures ∙ e) c.if-g-b.true).0

pub returns-then-own-b-ne0-clause-is : goal.returns-then-own-b-ne0-clause-is
returns-then-own-b-ne0-clause-is c =
    let a = c.args in let t = a.tables.now.cells.now in
    let (h, e) = part_turn t c.queue_at-queue.result a.n c.loop-x.x-index
    (omega (arith, c.queue_at-queue.ensures, c.args.tables.now.roomy.room, c.requires.0)) c.loop-x-test.true in
    (marking_twice _ t _ _ _ c.loop-x.invariant h c.queue_at-queue.ensures (c.wide-b.ensures ∙ e) c.if-own-b-ne0.true).0

pub returns-then-not-contains-clause-is : goal.returns-then-not-contains-clause-is
returns-then-not-contains-clause-is c =
    let a = c.args in let t = a.tables.now.cells.now in
    let birth = get_or t (c.queue_births_at-births.result + c.wide-b.result) 0 in
    let v : c.contains.result ≡ (leb 1 birth && leb birth a.last) = search (rules, tests) in
    let (h, e) = part_turn t c.queue_at-queue.result a.n c.loop-x.x-index
    (omega (arith, c.queue_at-queue.ensures, c.args.tables.now.roomy.room, c.requires.0)) c.loop-x-test.true in
    (marking_unfit _ t _ _ _ c.loop-x.invariant h c.queue_at-queue.ensures (c.wide-b.ensures ∙ e)
    c.queue_births_at-births.ensures c.if-g-b.false c.if-own-b-ne0.false v c.if-not-contains.true).0
