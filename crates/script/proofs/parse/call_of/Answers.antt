-- `call_of` meets its contract, count by count.
use Rattle.script.specs.Parse.{says_by}
use Rattle.script.proofs.Letters.{says_none}
use Rattle.script.proofs.parse.call_of.Goals as goal

pub returns-in-0 : goal.returns-in-0
unfolding says_by
returns-in-0 c = rw c.in-0.is c.bare_of.ensures

pub returns-in-1 : goal.returns-in-1
unfolding says_by
returns-in-1 c = rw c.in-1.is c.one_of.ensures

pub returns-in-2 : goal.returns-in-2
unfolding says_by
returns-in-2 c = rw c.in-2.is c.two_of.ensures

pub returns-in-3 : goal.returns-in-3
unfolding says_by
returns-in-3 c = rw c.in-3.is c.three_of.ensures

pub returns-in_default : goal.returns-in_default
returns-in_default c = says_none _ _ _ _ _ c.in_default.in_default-own.rest
