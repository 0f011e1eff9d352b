-- The slot of a number: the one that it goes into, or by the column of numbers.
use Rattle.tables.proofs.Seeks
use Rattle.tables.proofs.find.slot_of.Goals as goal

pub returns-then-n-eq0-clause-is : goal.returns-then-n-eq0-clause-is
returns-then-n-eq0-clause-is c = Seeks.slot_zero _ _ _ c.if-n-eq0.true

pub returns-then-t-own-clause-is : goal.returns-then-t-own-clause-is
returns-then-t-own-clause-is c = (Seeks.own_found _ _ c.requires _ _ c.if-n-eq0.false c.own_slot-own.ensures.range c.if-t-own.true).0
