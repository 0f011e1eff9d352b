-- `input::read_more`: the bytes read before stay.
use Rattle.runner.proofs.Waiting.{Waiting}
use Rattle.runner.proofs.input.read_more.Given as goal

abbrev pub invariant-loop : goal.invariant-loop
invariant-loop g l = Waiting l.initial.text l.from l.text
