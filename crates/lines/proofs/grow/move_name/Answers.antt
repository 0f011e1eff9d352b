-- The name of a record goes to another slot: its row, then its count.
use native.Mathlib.Omega.{arith}
use Rattle.lines.proofs.Growing
use Rattle.lines.proofs.grow.move_name.Goals as goal

pub returns : goal.returns
returns c =
    Growing.renamed_is _ _ _ _ _ _ c.hand_row.ensures c.row_with-row.ensures.is (omega arith)
