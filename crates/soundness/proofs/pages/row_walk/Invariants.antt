-- `row_walk`: what is left of the row comes to the same.
use Rattle.std.proofs.Common.{◌*◌, min}
use Rattle.tables.specs.Lent.{view_in}
use Rattle.soundness.proofs.PagesStep.{Rowing}
use Rattle.soundness.proofs.pages.row_walk.Given as goal

abbrev pub invariant-loop-k : goal.invariant-loop-k
invariant-loop-k l = Rowing (view_in l.tables) l.s l.initial.own l.initial.gone l.own l.gone l.found (min (32 * l.k) l.g.pages)
