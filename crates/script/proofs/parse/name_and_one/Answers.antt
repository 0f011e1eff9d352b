-- `name_and_one` meets its contract: at each letter both sides compute.
use mathlib.Core.List.{[], ◌∷◌}
use Rattle.script.specs.Letters.{made, call_in, naming_of}
use Rattle.script.proofs.Letters.{no_naming}
use Rattle.script.proofs.parse.name_and_one.Goals as goal

pub returns-in-78 : goal.returns-in-78
unfolding made call_in naming_of
returns-in-78 c = rw c.in-78.is

pub returns-in_default : goal.returns-in_default
returns-in_default c = no_naming _ _ (_ ∷ []) c.in_default.in_default-own.rest
