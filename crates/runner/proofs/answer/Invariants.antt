-- `answer`: the parts served so far are the first of the text's, and each part gets on by a line.
use Prim.Native.Nat.{◌-◌}
use lib.ListN.{length}
use Rattle.model.specs.Memory.{lent}
use Rattle.serving.specs.Part.{begun}
use Rattle.runner.proofs.Answering.{Answering}
use Rattle.runner.proofs.answer.Given as goal

abbrev pub invariant-loop-done : goal.invariant-loop-done
invariant-loop-done g l =
    Answering l.text (begun l.at l.fn.session (lent l.initial.t l.initial.log l.initial.out)) l.initial.t l.initial.log l.initial.out l.initial.replies
    l.kept l.t l.log l.out l.replies l.done

abbrev pub decreases-loop-done : goal.decreases-loop-done
decreases-loop-done g l = length l.text - l.done
