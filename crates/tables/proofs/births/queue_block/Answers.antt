-- The birth moves to the queue, and the block to its end.
use Rattle.tables.proofs.Bits.{queued_is}
use Rattle.tables.proofs.births.queue_block.Goals as goal

pub returns : goal.returns
returns c =
    queued_is _ _ _ _ _ _ _ c.wide-n.ensures c.queue_at.ensures c.queue_births_at.ensures
