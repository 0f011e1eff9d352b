-- `one_of` meets its contract: at each letter both sides compute.
use mathlib.Core.List.{[], ◌∷◌}
use Rattle.script.specs.Letters.{made, call_in, call_of}
use Rattle.script.proofs.Letters.{no_call}
use Rattle.script.proofs.parse.one_of.Goals as goal

pub returns-in-83 : goal.returns-in-83
unfolding made call_in call_of
returns-in-83 c = rw c.in-83.is

pub returns-in-70 : goal.returns-in-70
unfolding made call_in call_of
returns-in-70 c = rw c.in-70.is

pub returns-in-68 : goal.returns-in-68
unfolding made call_in call_of
returns-in-68 c = rw c.in-68.is

pub returns-in-81 : goal.returns-in-81
unfolding made call_in call_of
returns-in-81 c = rw c.in-81.is

pub returns-in-84 : goal.returns-in-84
unfolding made call_in call_of
returns-in-84 c = rw c.in-84.is

pub returns-in_default : goal.returns-in_default
returns-in_default c = no_call _ (_ ∷ []) c.in_default.in_default-own.rest
