-- `three_of` meets its contract: at each letter both sides compute.
use mathlib.Core.List.{[], ◌∷◌}
use Rattle.script.specs.Letters.{made, call_in, call_of}
use Rattle.script.proofs.Letters.{no_call}
use Rattle.script.proofs.parse.three_of.Goals as goal

pub returns-in-87 : goal.returns-in-87
unfolding made call_in call_of
returns-in-87 c = rw c.in-87.is

pub returns-in_default : goal.returns-in_default
returns-in_default c = no_call _ (_ ∷ _ ∷ _ ∷ []) c.in_default.in_default-own.rest
