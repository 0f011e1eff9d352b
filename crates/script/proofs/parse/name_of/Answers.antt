-- `name_of` meets its contract: at each letter both sides compute.
use mathlib.Core.List.{[]}
use Rattle.script.specs.Letters.{made, call_in, naming_of}
use Rattle.script.proofs.Letters.{no_naming}
use Rattle.script.proofs.parse.name_of.Goals as goal

pub returns-in-85 : goal.returns-in-85
unfolding made call_in naming_of
returns-in-85 c = rw c.in-85.is

pub returns-in-77 : goal.returns-in-77
unfolding made call_in naming_of
returns-in-77 c = rw c.in-77.is

pub returns-in_default : goal.returns-in_default
returns-in_default c = no_naming _ _ [] c.in_default.in_default-own.rest
