-- The slot of a number: the one of its hint, if the number stands there, or as it is found without one.
use Rattle.tables.proofs.Seeks
use Rattle.tables.proofs.find.slot_by.Goals as goal

pub returns-then-n-eq0-clause-is : goal.returns-then-n-eq0-clause-is
returns-then-n-eq0-clause-is c = Seeks.slot_zero _ _ _ c.if-n-eq0.true

pub returns-then-t-link-clause-is : goal.returns-then-t-link-clause-is
returns-then-t-link-clause-is c = (Seeks.hint_found _ _ c.requires _ _ c.if-n-eq0.false c.if-link-gt0.true c.if-link-g.true c.if-t-link.true).0
