-- `number::digits`: what is left gives the whole, and the digits read so far are below a power of ten.
use Rattle.logtool.proofs.Spelling.{Reading}
use Rattle.logtool.proofs.number.digits.Given as goal

abbrev pub invariant-loop-b : goal.invariant-loop-b
invariant-loop-b l = Reading l.text l.value l.b-index
