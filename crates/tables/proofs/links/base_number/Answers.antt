-- The number of a base: the link is in range, for the tables are sound.
use native.Mathlib.Omega.{arith}
use Rattle.tables.proofs.Behind
use Rattle.tables.proofs.Ranges
use Rattle.tables.proofs.links.base_number.Goals as goal

pub number_behind-requires : goal.number_behind-requires
number_behind-requires c = (c.requires.0.roomy, omega (arith, Ranges.base_cell_le c.requires.0 _ c.requires.2))

pub returns : goal.returns
returns c = search (Behind.base_of_lem)
