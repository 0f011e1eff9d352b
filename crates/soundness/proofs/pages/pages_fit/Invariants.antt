-- `pages_fit`: what is left of the slots comes to the same.
use Rattle.tables.specs.Lent.{view_in}
use Rattle.soundness.proofs.PagesSlots.{Slots}
use Rattle.soundness.proofs.pages.pages_fit.Given as goal

abbrev pub invariant-loop-s : goal.invariant-loop-s
invariant-loop-s l = Slots (view_in l.tables) l.initial.own l.own l.gone l.s
