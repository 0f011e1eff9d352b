-- `has_name` meets its contract: at each letter both sides compute.
use Rattle.std.proofs.Common.{rules}
use Rattle.script.specs.Letters.{listed}
use Rattle.script.proofs.parse.has_name.Goals as goal

pub returns-in-78 : goal.returns-in-78
unfolding listed
returns-in-78 c = rw c.in-78.is

pub returns-in-78-2 : goal.returns-in-78-2
unfolding listed
returns-in-78-2 c = search rules

pub returns-in_default : goal.returns-in_default
unfolding listed
returns-in_default c = search rules

pub returns-in_default-2 : goal.returns-in_default-2
unfolding listed
returns-in_default-2 c = search rules
