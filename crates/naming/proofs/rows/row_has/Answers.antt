-- `row_has`: an empty row has no name; in another the letters were compared.
use Rattle.naming.proofs.Searching.{has_none, has_name_lem}
use Rattle.naming.proofs.rows.row_has.Goals as goal

pub returns-then-t-i-ne0 : goal.returns-then-t-i-ne0
returns-then-t-i-ne0 c = has_name_lem _ _ _ c.requires.1 c.if-t-i-ne0.true c.wide.ensures c.same_letters.ensures

pub returns-else-t-i-ne0 : goal.returns-else-t-i-ne0
returns-else-t-i-ne0 c = rw c.if-t-i-ne0.false (has_none _ _ _ c.requires.1 c.if-t-i-ne0.false)
