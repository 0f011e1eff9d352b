-- `list_fits`: what is left of the deadlist takes from the stamps so far what all of it takes from those at the start.
use Rattle.soundness.proofs.ListsStamps.{Taking}
use Rattle.soundness.proofs.lists.list_fits.Given as goal

abbrev pub invariant-loop-x : goal.invariant-loop-x
invariant-loop-x l = Taking l.fn.tables.g l.fn.tables.cells.now l.s l.count l.initial.gone l.gone l.x-index
