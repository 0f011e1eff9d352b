-- `two_of` meets its contract: at each letter both sides compute.
use mathlib.Core.List.{[], ◌∷◌}
use Rattle.script.specs.Letters.{made, call_in, call_of}
use Rattle.script.proofs.Letters.{no_call}
use Rattle.script.proofs.parse.two_of.Goals as goal

pub returns-in-69 : goal.returns-in-69
unfolding made call_in call_of
returns-in-69 c = rw c.in-69.is

pub returns-in-82 : goal.returns-in-82
unfolding made call_in call_of
returns-in-82 c = rw c.in-82.is

pub returns-in-75 : goal.returns-in-75
unfolding made call_in call_of
returns-in-75 c = rw c.in-75.is

pub returns-in_default : goal.returns-in_default
returns-in_default c = no_call _ (_ ∷ _ ∷ []) c.in_default.in_default-own.rest
