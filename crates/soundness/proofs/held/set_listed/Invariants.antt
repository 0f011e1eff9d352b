-- `set_listed`: what is left of the list joins the words so far as all of it joins those at the start.
use Rattle.geometry.specs.Limits.{blocks}
use Rattle.soundness.proofs.Joining.{Setting}
use Rattle.soundness.proofs.held.set_listed.Given as goal

abbrev pub invariant-loop-x : goal.invariant-loop-x
invariant-loop-x l = Setting (blocks l.g) l.fn.from l.fn.n l.fn.tables.cells.now l.initial.words l.words l.x-index
