-- `queue_fits`: the blocks that were marked and those that were counted together are the test of the queue.
use Rattle.soundness.proofs.Queued.{queue_many, queue_unmarked, queue_counted}
use Rattle.soundness.proofs.held.queue_fits.Goals as goal

pub returns-then-mark_queued : goal.returns-then-mark_queued
returns-then-mark_queued c = let both = queue_counted _ _ _ c.args.tables.now.roomy.inside.blocks_most c.requires.0 c.requires.1
    c.header_number-n.ensures (c.mark_queued.ensures.is, c.mark_queued.ensures.marked) c.if-mark_queued.true c.count_queued.ensures in record {
      is = both.0;
      marked = both.1;
    }

pub returns-then-g-n-clause-is : goal.returns-then-g-n-clause-is
returns-then-g-n-clause-is c =
    (queue_many c.args.tables.now.g c.args.tables.now.cells.now _ c.args.tables.now.roomy.inside.blocks_most c.requires.0 c.requires.1
    c.header_number-n.ensures c.args.own.now c.if-g-n.true).0

pub returns-else-mark_queued-clause-is : goal.returns-else-mark_queued-clause-is
returns-else-mark_queued-clause-is c =
    (queue_unmarked c.args.tables.now.g c.args.tables.now.cells.now _ c.args.tables.now.roomy.inside.blocks_most c.requires.0 c.requires.1
    c.header_number-n.ensures (c.mark_queued.ensures.is, c.mark_queued.ensures.marked) c.if-mark_queued.false).0
