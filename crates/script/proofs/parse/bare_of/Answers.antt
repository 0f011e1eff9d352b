-- `bare_of` meets its contract: at each letter both sides compute.
use mathlib.Core.List.{[]}
use Rattle.script.specs.Letters.{made, call_in, call_of}
use Rattle.script.proofs.Letters.{no_call}
use Rattle.script.proofs.parse.bare_of.Goals as goal

pub returns-in-66 : goal.returns-in-66
unfolding made call_in call_of
returns-in-66 c = rw c.in-66.is

pub returns-in-89 : goal.returns-in-89
unfolding made call_in call_of
returns-in-89 c = rw c.in-89.is

pub returns-in-67 : goal.returns-in-67
unfolding made call_in call_of
returns-in-67 c = rw c.in-67.is

pub returns-in-76 : goal.returns-in-76
unfolding made call_in call_of
returns-in-76 c = rw c.in-76.is

pub returns-in_default : goal.returns-in_default
returns-in_default c = no_call _ [] c.in_default.in_default-own.rest
