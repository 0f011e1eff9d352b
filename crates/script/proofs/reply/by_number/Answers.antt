-- `by_number`: the count stays as it is, the refusal becomes its number.
use mathlib.Core.Path.{refl}
use Rattle.script.specs.ReplyText.{by_number}
use Rattle.script.proofs.reply.by_number.Goals as goal

pub returns-in-Ok : goal.returns-in-Ok
unfolding by_number
returns-in-Ok c = rw c.in-Ok.is refl

pub returns-in-Err : goal.returns-in-Err
unfolding by_number
returns-in-Err c = rw (c.in-Err.is, c.number.ensures) refl
