-- `output::write_replies`: no more is written than there is.
use Prim.Native.Nat.{◌≤◌}
use lib.ListN.{length}
use Rattle.runner.proofs.output.write_replies.Given as goal

abbrev pub invariant-loop : goal.invariant-loop
invariant-loop g l = l.done ≤ length l.replies
