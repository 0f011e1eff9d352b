-- `serve_part`: what is left of the part is the whole of it, line by line.
use Prim.Native.Nat.{◌-◌}
use lib.ListN.{length}
use Rattle.model.specs.Memory.{lent}
use Rattle.serving.specs.Part.{begun, served}
use Rattle.serving.proofs.Serving.{Running}
use Rattle.serving.proofs.serve_part.Given as goal

abbrev pub invariant-loop-i : goal.invariant-loop-i
invariant-loop-i l = Running l.text (served l.text (length l.initial.replies) (begun l.at l.initial.s (lent l.initial.t l.initial.log l.initial.out))) l.initial.t l.initial.log l.initial.out l.initial.replies l.s l.t l.log l.out l.replies l.used l.i

abbrev pub decreases-loop-i : goal.decreases-loop-i
decreases-loop-i l = length l.text - l.i
