-- The refusals 11 and 12, in their order.
use Rattle.lines.proofs.Verdicts
use Rattle.lines.proofs.verdict.room.Goals as goal

pub returns-in_default : goal.returns-in_default
returns-in_default c = Verdicts.room_none _ _ _ _ c.vacant_slot.ensures.is c.in_default.is

pub returns-then-t-ge999999 : goal.returns-then-t-ge999999
returns-then-t-ge999999 c = Verdicts.room_last _ _ _ _ c.vacant_slot.ensures.is _ c.in-Some.is c.if-t-ge999999.true

pub returns : goal.returns
returns c = Verdicts.room_left _ _ _ _ c.vacant_slot.ensures.is _ c.in-Some.is c.if-t-ge999999.false
