-- A place after those that wait.
use Rattle.tables.proofs.Bits.{waited_is}
use Rattle.tables.proofs.births.wait_block.Goals as goal

pub returns : goal.returns
returns c = waited_is _ _ _ _ _ _ c.wide-n.ensures c.waiting_at.ensures
