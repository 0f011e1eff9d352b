-- No birth, and a place behind those that wait.
use mathlib.Core.Path.{◌∙◌}
use Rattle.tables.proofs.Bits.{freed_is}
use Rattle.tables.proofs.births.free_block.Goals as goal

pub returns : goal.returns
returns c = c.wait_block.ensures ∙ freed_is _ _ _ _
