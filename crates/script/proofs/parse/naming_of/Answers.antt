-- `naming_of` meets its contract, count by count.
use Rattle.script.specs.Parse.{named_by}
use Rattle.script.proofs.Names.{named_none}
use Rattle.script.proofs.parse.naming_of.Goals as goal

pub returns-in-0 : goal.returns-in-0
unfolding named_by
returns-in-0 c = rw c.in-0.is c.name_of.ensures

pub returns-in-1 : goal.returns-in-1
unfolding named_by
returns-in-1 c = rw c.in-1.is c.name_and_one.ensures

pub returns-in_default : goal.returns-in_default
returns-in_default c = named_none _ _ _ _ c.in_default.in_default-own.rest
