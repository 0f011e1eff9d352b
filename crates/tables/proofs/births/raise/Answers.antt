-- A bit on.
use Rattle.tables.proofs.Bits.{raised_is}
use Rattle.tables.proofs.births.raise.Goals as goal

pub returns : goal.returns
returns c = raised_is _ _ _ c.bit_of.ensures
