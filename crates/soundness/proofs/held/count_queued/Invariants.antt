-- `count_queued`: the blocks so far that have a birth in the queue are counted.
use Rattle.std.proofs.Common.{◌≡◌, ◌≤◌}
use Rattle.model.specs.Held.{tally, queued}
use Rattle.tables.specs.Lent.{state_in}
use Rattle.soundness.proofs.held.count_queued.Given as goal

abbrev pub invariant-loop-birth : goal.invariant-loop-birth
invariant-loop-birth l = (l.count ≤ l.birth-index) × (l.count ≡ tally (queued (state_in l.fn.tables)) l.birth-index)
