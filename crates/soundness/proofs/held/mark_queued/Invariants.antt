-- `mark_queued`: what is left of the queue gets marks on top of those so far as all of it does on top of those at the start.
use Rattle.soundness.proofs.Marking.{Marking}
use Rattle.soundness.proofs.held.mark_queued.Given as goal

abbrev pub invariant-loop-x : goal.invariant-loop-x
invariant-loop-x l = Marking l.g l.tables.cells.now l.initial.own l.n l.last l.own l.x-index
