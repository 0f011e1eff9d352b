-- The session is kept from part to part.
use Rattle.std.proofs.Common.{length, ◌-◌}
use Rattle.vectors.proofs.Running.{Running}
use Rattle.vectors.proofs.serve.Given as goal

abbrev pub invariant-loop-at : goal.invariant-loop-at
invariant-loop-at l = Running l.session l.t l.log l.out l.replies

abbrev pub decreases-loop-at : goal.decreases-loop-at
decreases-loop-at l = length l.text - l.at
