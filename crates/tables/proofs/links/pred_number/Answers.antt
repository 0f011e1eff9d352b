-- The number of a pred: the line's base for the first record of a line, else the record before.
use native.Mathlib.Omega.{arith}
use Rattle.tables.proofs.Behind
use Rattle.tables.proofs.Ranges
use Rattle.tables.proofs.links.pred_number.Goals as goal

pub returns-then-prev-eq0 : goal.returns-then-prev-eq0
returns-then-prev-eq0 c = search (Behind.pred_first)

pub number_behind-requires : goal.number_behind-requires
number_behind-requires c = (c.requires.0.roomy, omega (arith, Ranges.prev_cell_le c.requires.0 _ c.requires.2))

pub returns : goal.returns
returns c = search (Behind.pred_next)
