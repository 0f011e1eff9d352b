-- `main`: the run stands where the turns of the reads so far leave it, and each turn reads at least a byte or is the last.
use mathlib.Core.Bool.{cond}
use Prim.Native.Nat.{◌+◌, ◌-◌}
use Rattle.ledger.specs.Transcript.{most_read}
use Rattle.runner.proofs.Running.{Running}
use Rattle.runner.proofs.main.Given as goal

abbrev pub invariant-loop-whole : goal.invariant-loop-whole
invariant-loop-whole l = Running l.session l.t l.log l.out l.replies l.text l.n l.at

abbrev pub decreases-loop-whole : goal.decreases-loop-whole
decreases-loop-whole l = cond l.whole 0 1 + (most_read - l.n)
