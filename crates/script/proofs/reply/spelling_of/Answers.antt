-- `spelling_of` meets its contract: an arm for each call that names blocks, and one for the others.
use Rattle.script.specs.ReplyText.{spelling_of}
use Rattle.script.proofs.Printing.{spelling_none, spelling_other}
use Rattle.script.proofs.reply.spelling_of.Goals as goal

pub returns-in_default : goal.returns-in_default
returns-in_default c = spelling_none c.args.says c.in_default.in_default-own.keys2

pub returns-in-Write : goal.returns-in-Write
unfolding spelling_of
returns-in-Write c = rw (c.in-Asks.is, c.in-Write.is)

pub returns-in-Erase : goal.returns-in-Erase
unfolding spelling_of
returns-in-Erase c = rw (c.in-Asks.is, c.in-Erase.is)

pub returns-in-Read : goal.returns-in-Read
unfolding spelling_of
returns-in-Read c = rw (c.in-Asks.is, c.in-Read.is)

pub returns-in-Reclaim : goal.returns-in-Reclaim
unfolding spelling_of
returns-in-Reclaim c = rw (c.in-Asks.is, c.in-Reclaim.is)

pub returns-in_default-c : goal.returns-in_default-c
returns-in_default-c c = spelling_other c.args.says _ c.in-Asks.is c.in_default-c.in_default-c-own.keys5
