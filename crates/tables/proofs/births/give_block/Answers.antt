-- A birth, and its bit off.
use Rattle.tables.proofs.Bits.{gave_is}
use Rattle.tables.proofs.births.give_block.Goals as goal

pub returns : goal.returns
returns c = gave_is _ _ _ _ c.bit_of.ensures _
